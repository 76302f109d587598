-- One look at the packets that wait first at the cores.
use Rattle.std.proofs.Common.{◌≡◌, ℕ, zero, suc, ◌+◌, ◌<◌, ◌≤◌, ◌⊎◌, inl, inr, ◌&&◌, not, Bool, true, false, cond, Option, None, Some, List, [], ◌∷◌, ◌++◌, IsTrue, drop, get_or, length, map, refl, set, sym, take, ap, ◌∙◌, subst, arith}
use Rattle.std.proofs.lemmas.Bool.{cases_lt, false≢true}
use Rattle.std.proofs.lemmas.List.{length-map, length-set, take_all, take_more_set}
use Rattle.std.proofs.Math.Seq.{drop-cons}
use Rattle.std.specs.List.{slice_get}
use Rattle.std.specs.Option.{option_map}
use Rattle.trex_merge.specs.declared.key.Key.{Key}
use Rattle.trex_merge.specs.declared.next.Next.TheVariants.{Need}
use Rattle.trex_merge.specs.declared.place.Place.{Place}
use Rattle.trex_merge.specs.Frames.{Frame, key_of}
use Rattle.trex_merge.specs.Heads.{earlier_of, head_at, least_from}
use Rattle.trex_merge.specs.Order.{is_before}
use Rattle.trex_merge.specs.Queues.{Queue, all_waiting, at_place, is_finished, is_needy, is_none_left, needy_from, next_among, next_of}
use Rattle.trex_merge.specs.Runs.{IsLeastElsewhere, StandsNotBefore, stands_before}
use Rattle.trex_merge.proofs.FeedLemmas.{StandsAt, earlier_none, feed_passed}
use Rattle.trex_merge.proofs.KeyLemmas.{before_between, before_trans, not_before_itself, not_both}
use Rattle.trex_run.proofs.ListLemmas.{drop_get, take-next}
use Rattle.trex_run.specs.declared.firsts.Lead.{Lead}
use Rattle.trex_run.specs.Firsts.{first_at, first_of, firsts_of, led}

-- ---- a key and another, or none

is_false : (t : Bool) → ¬ IsTrue t → t ≡ false
is_false true not_so = absurd (not_so refl)
is_false false not_so = refl

-- a key that doesn't stand before another
stands_not : (key : Key) (other : Option Key) → stands_before key other ≡ false → StandsNotBefore key other
stands_not key None not_so = cc
stands_not key (Some other) not_so = λ so. false≢true (sym not_so ∙ so)

-- what doesn't stand before the one doesn't stand before what stands before it
not_before_this : (one key : Key) (other : Option Key) → stands_before key other ≡ true → StandsNotBefore one other → ¬ IsTrue (is_before one key)
not_before_this one key None so stands = absurd stands
not_before_this one key (Some other) so stands = λ before. stands (before_trans one key other before so)

-- there is a key, and another doesn't come before it
abbrev HasFirst : Key → Option Key → Type 0
HasFirst key least = (first : Key) × (least ≡ Some first) × (¬ IsTrue (is_before key first))

has_first : (key : Key) (least : Option Key) → stands_before key least ≡ false → HasFirst key least
has_first key None not_so = cc
has_first key (Some first) not_so = (first, refl, λ so. false≢true (sym not_so ∙ so))

-- what doesn't stand before the second doesn't stand before the first
not_before_first : (key : Key) (least before : Option Key) → ((k : Key) → before ≡ Some k → HasFirst k least) → StandsNotBefore key before → StandsNotBefore key least
not_before_first key least None order stands = absurd stands
not_before_first key least (Some second) order stands =
    let first = order second refl in
    subst (StandsNotBefore key) (sym first.1) (λ so. elim (before_between first.0 second key so) [ inl mine ↦ stands mine | inr other ↦ first.2 other ])

-- ---- what is known of the cores below a place

-- A packet with a key waits first at a core below a place.
pub record WaitsBelow (at core : ℕ) (key : Key) (queues : List Queue) : Type 0 where
  pub frame : Frame
  pub rest : List Frame
  pub lower : core < at
  pub there : slice_get (all_waiting queues) core ≡ Some (frame ∷ rest)
  pub is : key ≡ key_of frame

-- Each packet that waits first there is the least or doesn't stand before the least of the others, and both wait there.
pub record IsAhead (at : ℕ) (lead : Lead) (queues : List Queue) : Type 0 where
  pub others : (core : ℕ) (frame : Frame) (rest : List Frame) → core < at → slice_get (all_waiting queues) core ≡ Some (frame ∷ rest)
      → ((core ≡ lead.feed) × (lead.least ≡ Some (key_of frame))) ⊎ StandsNotBefore (key_of frame) lead.before
  pub leads : (key : Key) → lead.least ≡ Some key → WaitsBelow at lead.feed key queues
  pub elsewhere : (key : Key) → lead.before ≡ Some key → (core : ℕ) × (¬ (core ≡ lead.feed)) × WaitsBelow at core key queues
  pub order : (key : Key) → lead.before ≡ Some key → HasFirst key lead.least

later : (at core : ℕ) (key : Key) (queues : List Queue) → WaitsBelow at core key queues → WaitsBelow (at + 1) core key queues
later at core key queues w = let lower = w.lower in record { frame = w.frame; rest = w.rest; lower = omega arith; there = w.there; is = w.is }

same_frames : {x y : List Frame} → Some x ≡ Some y → x ≡ y
same_frames e = cc

-- at one core more nothing waits
pub none_ahead : (queues : List Queue) (at : ℕ) (lead : Lead) → slice_get (all_waiting queues) at ≡ Some [] → IsAhead at lead queues → IsAhead (at + 1) lead queues
none_ahead queues at lead none ahead = record {
  others = λ core frame rest lower waits. elim (cases_lt core at) [
    | inl before ↦ ahead.others core frame rest before waits
    | inr not_before ↦
        let here : core ≡ at = omega arith in
        let both : Some [] ≡ Some (frame ∷ rest) = sym none ∙ ap (slice_get (all_waiting queues)) (sym here) ∙ waits in
        cc
  ];
  leads = λ key is. later at lead.feed key queues (ahead.leads key is);
  elsewhere = λ key is. let w = ahead.elsewhere key is in (w.0, w.1, later at w.0 key queues w.2);
  order = ahead.order;
}

-- at one core more a packet waits first
module _ (queues : List Queue) (at : ℕ) (lead : Lead) (key : Key) (frame : Frame) (rest : List Frame) (there : slice_get (all_waiting queues) at ≡ Some (frame ∷ rest))
    (is : key ≡ key_of frame) (ahead : IsAhead at lead queues) where
  here : (core : ℕ) (f : Frame) (r : List Frame) → core ≡ at → slice_get (all_waiting queues) core ≡ Some (f ∷ r) → key_of f ≡ key
  here core f r e waits =
      let both : frame ∷ rest ≡ f ∷ r = same_frames (sym there ∙ ap (slice_get (all_waiting queues)) (sym e) ∙ waits) in
      let same : frame ≡ f = cc in
      ap key_of (sym same) ∙ sym is

  mine : (k : Key) → Some key ≡ Some k → WaitsBelow (at + 1) at k queues
  mine k e =
      let same : key ≡ k = cc in
      record { frame = frame; rest = rest; lower = omega arith; there = there; is = sym same ∙ is }

  -- which doesn't stand before the least of the others
  pub still_ahead : stands_before key lead.before ≡ false → IsAhead (at + 1) lead queues
  still_ahead behind = record {
    others = λ core f r lower waits. elim (cases_lt core at) [
      | inl before ↦ ahead.others core f r before waits
      | inr not_before ↦
          let e : core ≡ at = omega arith in
          inr (subst (λ (k : Key). StandsNotBefore k lead.before) (sym (here core f r e waits)) (stands_not key lead.before behind))
    ];
    leads = λ k e. later at lead.feed k queues (ahead.leads k e);
    elsewhere = λ k e. let w = ahead.elsewhere k e in (w.0, w.1, later at w.0 k queues w.2);
    order = ahead.order;
  }

  -- which stands before it
  pub led_ahead : stands_before key lead.before ≡ true → IsAhead (at + 1) (led lead key at) queues
  led_ahead so =
      let one : Lead = record { least = Some key; feed = at; before = lead.least } in
      let two : Lead = record { least = lead.least; feed = lead.feed; before = Some key } in
      elim (stands_before key lead.least) as (λ t. stands_before key lead.least ≡ t → IsAhead (at + 1) (cond t one two) queues) [
        | true ↦ λ first. record {
          others = λ core f r lower waits. elim (cases_lt core at) [
            | inl before ↦ elim (ahead.others core f r before waits) [
              | inl leader ↦ inr (subst (StandsNotBefore (key_of f)) (sym leader.1) (not_before_itself (key_of f)))
              | inr stands ↦ inr (not_before_first (key_of f) lead.least lead.before ahead.order stands)
            ]
            | inr not_before ↦ let e : core ≡ at = omega arith in inl (e, ap (λ (k : Key). Some k) (sym (here core f r e waits)))
          ];
          leads = mine;
          elsewhere = λ k e.
              let w = ahead.leads k e in
              let lower = w.lower in
              (lead.feed, (λ same. absurd (omega (arith, same, lower))), later at lead.feed k queues w);
          order = λ k e. (key, refl, λ before. not_both key k (subst (λ o. IsTrue (stands_before key o)) e first) before);
        }
        | false ↦ λ second. record {
          others = λ core f r lower waits. elim (cases_lt core at) [
            | inl before ↦ elim (ahead.others core f r before waits) [
              | inl leader ↦ inl leader
              | inr stands ↦ inr (not_before_this (key_of f) key lead.before so stands)
            ]
            | inr not_before ↦
                let e : core ≡ at = omega arith in
                inr (subst (λ (k : Key). ¬ IsTrue (is_before k key)) (sym (here core f r e waits)) (not_before_itself key))
          ];
          leads = λ k e. later at lead.feed k queues (ahead.leads k e);
          elsewhere = λ k e.
              let first = has_first key lead.least second in
              let w = ahead.leads first.0 first.1 in
              let lower = w.lower in
              (at, (λ e'. absurd (omega (arith, e', lower))), mine k e);
          order = λ k e. let same : key ≡ k = cc in subst (λ (x : Key). HasFirst x lead.least) same (has_first key lead.least second);
        }
      ] refl

-- ---- the place of the least

abbrev pub place_of : Option Key → ℕ → Option Place
place_of None feed = None
place_of (Some key) feed = Some (record { key = key; feed = feed })

stays : (key : Key) (at feed : ℕ) (least : Option Key) → StandsNotBefore key least → place_of least feed ≡ earlier_of (place_of least feed) (Some (record { key = key; feed = at }))
stays key at feed None stands = absurd stands
stays key at feed (Some first) stands =
    let mine : Place = record { key = key; feed = at } in
    let old : Place = record { key = first; feed = feed } in
    ap (λ t. cond t (Some mine) (Some old)) (sym (is_false (is_before key first) stands))

goes : (key : Key) (at feed : ℕ) (least : Option Key) → stands_before key least ≡ true
    → Some (record { key = key; feed = at }) ≡ earlier_of (place_of least feed) (Some (record { key = key; feed = at }))
goes key at feed None so = refl
goes key at feed (Some first) so =
    let mine : Place = record { key = key; feed = at } in
    let old : Place = record { key = first; feed = feed } in
    ap (λ t. cond t (Some mine) (Some old)) (sym so)

still_place : (queues : List Queue) (at : ℕ) (lead : Lead) (key : Key) → IsAhead at lead queues → stands_before key lead.before ≡ false
    → place_of lead.least lead.feed ≡ earlier_of (place_of lead.least lead.feed) (Some (record { key = key; feed = at }))
still_place queues at lead key ahead behind =
    stays key at lead.feed lead.least (not_before_first key lead.least lead.before ahead.order (stands_not key lead.before behind))

led_place : (at : ℕ) (lead : Lead) (key : Key)
    → place_of (led lead key at).least (led lead key at).feed ≡ earlier_of (place_of lead.least lead.feed) (Some (record { key = key; feed = at }))
led_place at lead key =
    let one : Lead = record { least = Some key; feed = at; before = lead.least } in
    let two : Lead = record { least = lead.least; feed = lead.feed; before = Some key } in
    let after : Option Place = earlier_of (place_of lead.least lead.feed) (Some (record { key = key; feed = at })) in
    let place : Lead → Option Place = λ (l : Lead). place_of l.least l.feed in
    elim (stands_before key lead.least) as (λ t. stands_before key lead.least ≡ t → place (cond t one two) ≡ after) [
      | true ↦ λ first. goes key at lead.feed lead.least first
      | false ↦ λ second. stays key at lead.feed lead.least (stands_not key lead.least second)
    ] refl

-- ---- the feeds

module _ {T : Type 0} (queue : T → Queue) where
  -- What is known of the feeds from one on, and of those below it.
  pub record HasSeen (feeds : List T) (at : ℕ) (lead : Lead) : Type 0 where
    pub stands : StandsAt queue feeds at (place_of lead.least lead.feed) (needy_from 0 (map queue feeds)) (least_from key_of 0 (all_waiting (map queue feeds)))
    pub ahead : IsAhead at lead (map queue feeds)

  -- the feed at a place whose key is known
  pub record IsThere (feeds : List T) (at : ℕ) (first : Option Key) : Type 0 where
    pub feed : T
    pub is : feed ≡ get_or feeds at feed
    pub there : slice_get (all_waiting (map queue feeds)) at ≡ Some (queue feed).waiting
    pub shows : first ≡ first_of (queue feed)

  there_at : (feeds : List T) (at : ℕ) (first : Option Key) → at < length feeds → get_or (firsts_of (map queue feeds)) at None ≡ first → IsThere feeds at first
  there_at [] at first within is = absurd (omega arith)
  there_at (feed ∷ feeds) zero first within is = record { feed = feed; is = refl; there = refl; shows = sym is }
  there_at (feed ∷ feeds) (suc at) first within is =
      let t = there_at feeds at first (omega arith) is in record { feed = t.feed; is = t.is; there = t.there; shows = t.shows }

  -- there are as many keys
  pub as_long : (feeds : List T) (firsts : List (Option Key)) → firsts ≡ firsts_of (map queue feeds) → length firsts ≡ length feeds
  as_long feeds firsts are = ap length are ∙ length-map (map queue feeds) first_of ∙ length-map feeds queue

  is_there : (feeds : List T) (firsts : List (Option Key)) (at : ℕ) (first : Option Key) → firsts ≡ firsts_of (map queue feeds) → at < length firsts
      → get_or firsts at None ≡ first → IsThere feeds at first
  is_there feeds firsts at first are within is =
      let long = as_long feeds firsts are in
      there_at feeds at first (omega (arith, long, within)) (ap (λ (l : List (Option Key)). get_or l at None) (sym are) ∙ is)

  -- the first that waits
  shown : (waiting : List Frame) (key : Key) → Some key ≡ option_map key_of (slice_get waiting 0) → (frame : Frame) × (rest : List Frame) × (waiting ≡ frame ∷ rest) × (key ≡ key_of frame)
  shown [] key is = cc
  shown (frame ∷ rest) key is = let same : key ≡ key_of frame = cc in (frame, rest, refl, same)

  shown_none : (waiting : List Frame) → None ≡ option_map key_of (slice_get waiting 0) → waiting ≡ []
  shown_none [] is = refl
  shown_none (frame ∷ rest) is = cc

  -- a packet waits first at one more
  pub record IsSeen (feeds : List T) (at : ℕ) (key : Key) : Type 0 where
    pub feed : T
    pub frame : Frame
    pub rest : List Frame
    pub within : at < length feeds
    pub is : feed ≡ get_or feeds at feed
    pub served : is_needy (queue feed) ≡ false
    pub head : head_at key_of at (queue feed).waiting ≡ Some (record { key = key; feed = at })
    pub there : slice_get (all_waiting (map queue feeds)) at ≡ Some (frame ∷ rest)
    pub key_is : key ≡ key_of frame

  is_seen : (feeds : List T) (firsts : List (Option Key)) (at : ℕ) (key : Key) → firsts ≡ firsts_of (map queue feeds) → at < length firsts
      → get_or firsts at None ≡ Some key → IsSeen feeds at key
  is_seen feeds firsts at key are within is =
      let t = is_there feeds firsts at (Some key) are within is in
      let long = as_long feeds firsts are in
      let q = queue t.feed in
      let w = shown q.waiting key t.shows in
      record {
        feed = t.feed;
        frame = w.0;
        rest = w.1;
        within = omega (arith, long, within);
        is = t.is;
        served = ap (λ (l : List Frame). is_none_left l && not (is_none_left q.coming)) w.2;
        head = ap (head_at key_of at) w.2 ∙ ap (λ (k : Key). Some (let p : Place = record { key = k; feed = at } in p)) (sym w.3);
        there = t.there ∙ ap Some w.2;
        key_is = w.3;
      }

  module _ (feeds : List T) (firsts : List (Option Key)) (at : ℕ) (lead : Lead) (key : Key) (are : firsts ≡ firsts_of (map queue feeds)) (within : at < length firsts)
      (is : get_or firsts at None ≡ Some key) (seen : HasSeen feeds at lead) where
    with_place : (now : Option Place) → now ≡ earlier_of (place_of lead.least lead.feed) (Some (record { key = key; feed = at }))
        → StandsAt queue feeds (at + 1) now (needy_from 0 (map queue feeds)) (least_from key_of 0 (all_waiting (map queue feeds)))
    with_place now is_now =
        let t = is_seen feeds firsts at key are within is in
        feed_passed queue feeds at t.feed (place_of lead.least lead.feed) now (needy_from 0 (map queue feeds)) (least_from key_of 0 (all_waiting (map queue feeds)))
        t.within t.is t.served (is_now ∙ ap (earlier_of (place_of lead.least lead.feed)) (sym t.head)) seen.stands

    -- which doesn't stand before the least of the others
    pub sees_later : stands_before key lead.before ≡ false → HasSeen feeds (at + 1) lead
    sees_later behind =
        let t = is_seen feeds firsts at key are within is in
        record {
          stands = with_place (place_of lead.least lead.feed) (still_place (map queue feeds) at lead key seen.ahead behind);
          ahead = still_ahead (map queue feeds) at lead key t.frame t.rest t.there t.key_is seen.ahead behind;
        }

    -- which stands before it
    pub sees_earlier : stands_before key lead.before ≡ true → HasSeen feeds (at + 1) (led lead key at)
    sees_earlier so =
        let t = is_seen feeds firsts at key are within is in
        record {
          stands = with_place (place_of (led lead key at).least (led lead key at).feed) (led_place at lead key);
          ahead = led_ahead (map queue feeds) at lead key t.frame t.rest t.there t.key_is seen.ahead so;
        }

  same_there : (feeds : List T) (at : ℕ) (a b : T) → at < length feeds → a ≡ get_or feeds at a → b ≡ get_or feeds at b → a ≡ b
  same_there [] at a b within is_a is_b = absurd (omega arith)
  same_there (feed ∷ feeds) zero a b within is_a is_b = is_a ∙ sym is_b
  same_there (feed ∷ feeds) (suc at) a b within is_a is_b = same_there feeds at a b (omega arith) is_a is_b

  -- one more is finished
  pub sees_finished : (feeds : List T) (firsts : List (Option Key)) (at : ℕ) (lead : Lead) (feed : T) → firsts ≡ firsts_of (map queue feeds) → at < length firsts
      → get_or firsts at None ≡ None → feed ≡ get_or feeds at feed → is_finished (queue feed) ≡ true → HasSeen feeds at lead → HasSeen feeds (at + 1) lead
  sees_finished feeds firsts at lead feed are within' none is finished seen =
      let t = is_there feeds firsts at None are within' none in
      let long = as_long feeds firsts are in
      let within : at < length feeds = omega (arith, long, within') in
      let same : t.feed ≡ feed = same_there feeds at t.feed feed within t.is is in
      let empty : (queue feed).waiting ≡ [] = ap (λ (f : T). (queue f).waiting) (sym same) ∙ shown_none (queue t.feed).waiting t.shows in
      let head : head_at key_of at (queue feed).waiting ≡ None = ap (head_at key_of at) empty in
      record {
        stands = feed_passed queue feeds at feed (place_of lead.least lead.feed) (place_of lead.least lead.feed) (needy_from 0 (map queue feeds))
            (least_from key_of 0 (all_waiting (map queue feeds))) within is (served (is_none_left (queue feed).waiting) (is_none_left (queue feed).coming) finished)
            (sym (earlier_none (place_of lead.least lead.feed)) ∙ ap (earlier_of (place_of lead.least lead.feed)) (sym head)) seen.stands;
        ahead = none_ahead (map queue feeds) at lead (t.there ∙ ap (λ (f : T). Some (queue f).waiting) same ∙ ap Some empty) seen.ahead;
      }
    where
      served : (w c : Bool) → (w && c) ≡ true → (w && not c) ≡ false
      served false c finished = refl
      served true false finished = cc
      served true true finished = refl

  -- one more has to be waited for
  pub sees_needy : (left : ℕ) (feeds : List T) (firsts : List (Option Key)) (at : ℕ) (lead : Lead) (feed : T) → firsts ≡ firsts_of (map queue feeds) → at < length firsts
      → get_or firsts at None ≡ None → feed ≡ get_or feeds at feed → is_finished (queue feed) ≡ false → 0 < left → HasSeen feeds at lead → Need at ≡ next_of left (map queue feeds)
  sees_needy left feeds firsts at lead feed are within' none is unfinished some seen =
      let t = is_there feeds firsts at None are within' none in
      let long = as_long feeds firsts are in
      let within : at < length feeds = omega (arith, long, within') in
      let same : t.feed ≡ feed = same_there feeds at t.feed feed within t.is is in
      let empty : (queue feed).waiting ≡ [] = ap (λ (f : T). (queue f).waiting) (sym same) ∙ shown_none (queue t.feed).waiting t.shows in
      let front : drop at feeds ≡ feed ∷ drop (suc at) feeds = drop-cons feeds at feed within ∙ ap (λ (x : T). x ∷ drop (suc at) feeds) (sym is) in
      let needy : is_needy (queue feed) ≡ true = owes (queue feed).waiting (queue feed).coming empty unfinished in
      let found : needy_from 0 (map queue feeds) ≡ Some at =
      sym seen.stands.0 ∙ ap (λ (l : List T). needy_from at (map queue l)) front
      ∙ ap (λ t. cond t (Some at) (needy_from (at + 1) (map queue (drop (suc at) feeds)))) needy in
      next left (map queue feeds) some found
    where
      owes : (waiting coming : List Frame) → waiting ≡ [] → (is_none_left waiting && is_none_left coming) ≡ false → (is_none_left waiting && not (is_none_left coming)) ≡ true
      owes [] [] empty unfinished = cc
      owes [] (frame ∷ coming) empty unfinished = refl
      owes (frame ∷ waiting) coming empty unfinished = cc

      next : (left : ℕ) (queues : List Queue) → 0 < left → needy_from 0 queues ≡ Some at → Need at ≡ next_of left queues
      next zero queues some found = absurd (omega arith)
      next (suc left) queues some found = ap (λ o. next_among o (least_from key_of 0 (all_waiting queues))) (sym found)

  -- all were seen
  pub seen_next : (left : ℕ) (feeds : List T) (at : ℕ) (lead : Lead) → length feeds ≤ at → 0 < left → HasSeen feeds at lead
      → next_among None (place_of lead.least lead.feed) ≡ next_of left (map queue feeds)
  seen_next zero feeds at lead all some seen = absurd (omega arith)
  seen_next (suc left) feeds at lead all some seen =
      let gone : drop at feeds ≡ [] = none_left feeds at all in
      let needy : None ≡ needy_from 0 (map queue feeds) = ap (λ (l : List T). needy_from at (map queue l)) (sym gone) ∙ seen.stands.0 in
      let least : place_of lead.least lead.feed ≡ least_from key_of 0 (all_waiting (map queue feeds)) =
      sym (earlier_none (place_of lead.least lead.feed))
      ∙ ap (λ (l : List T). earlier_of (place_of lead.least lead.feed) (least_from key_of at (all_waiting (map queue l)))) (sym gone) ∙ seen.stands.1 in
      ap (next_among None) least ∙ ap (λ o. next_among o (least_from key_of 0 (all_waiting (map queue feeds)))) needy
    where
      none_left : (feeds : List T) (at : ℕ) → length feeds ≤ at → drop at feeds ≡ []
      none_left [] zero all = refl
      none_left [] (suc at) all = refl
      none_left (feed ∷ feeds) zero all = absurd (omega arith)
      none_left (feed ∷ feeds) (suc at) all = none_left feeds at (omega arith)

  pub seen_elsewhere : (feeds : List T) (at : ℕ) (lead : Lead) → length feeds ≤ at → HasSeen feeds at lead → IsLeastElsewhere lead.feed lead.before (map queue feeds)
  seen_elsewhere feeds at lead all seen = record {
    least = λ core frame rest other waits.
        let lower = waits_within feeds core (frame ∷ rest) waits in
        elim (seen.ahead.others core frame rest (omega arith) waits) [ inl leader ↦ absurd (other leader.0) | inr stands ↦ stands ];
    is_one = λ key is. let w = seen.ahead.elsewhere key is in record { core = w.0; frame = w.2.frame; rest = w.2.rest; other = w.1; there = w.2.there; is = w.2.is };
  }
    where
      waits_within : (feeds : List T) (at : ℕ) (waiting : List Frame) → slice_get (all_waiting (map queue feeds)) at ≡ Some waiting → at < length feeds
      waits_within [] at waiting there = cc
      waits_within (feed ∷ feeds) zero waiting there = omega arith
      waits_within (feed ∷ feeds) (suc at) waiting there = let rest = waits_within feeds at waiting there in omega arith

  -- before the first
  pub seen_none : (feeds : List T) (feed : ℕ) → HasSeen feeds 0 (record { least = None; feed = feed; before = None })
  seen_none feeds feed = record {
    stands = (refl, refl);
    ahead = record {
      others = λ core frame rest lower waits. absurd (omega arith);
      leads = λ key is. cc;
      elsewhere = λ key is. cc;
      order = λ key is. cc;
    };
  }

-- ---- keys are read anew

-- one core's queue is changed
pub read_after : (change : Queue → Queue) (at : ℕ) (queues after : List Queue) (old new : List (Option Key)) → old ≡ firsts_of queues → after ≡ at_place change at queues
    → new ≡ set old at (first_at at after) → new ≡ firsts_of after
read_after change at queues after old new were is now =
    now ∙ ap (λ (l : List (Option Key)). set l at (first_at at after)) were ∙ ap (λ (l : List Queue). set (firsts_of queues) at (first_at at l)) is
    ∙ changed at queues ∙ ap firsts_of (sym is)
  where
    changed : (at : ℕ) (queues : List Queue) → set (firsts_of queues) at (first_at at (at_place change at queues)) ≡ firsts_of (at_place change at queues)
    changed at [] = refl
    changed zero (queue ∷ queues) = refl
    changed (suc at) (queue ∷ queues) = ap (λ (l : List (Option Key)). first_of queue ∷ l) (changed at queues)

module _ {T : Type 0} (queue : T → Queue) where
  pub first_there : (feeds : List T) (at : ℕ) (feed : T) → at < length feeds → feed ≡ get_or feeds at feed → first_at at (map queue feeds) ≡ first_of (queue feed)
  first_there [] at feed within is = absurd (omega arith)
  first_there (f ∷ feeds) zero feed within is = ap (λ (x : T). first_of (queue x)) (sym is)
  first_there (f ∷ feeds) (suc at) feed within is = first_there feeds at feed (omega arith) is

  key_there : (feeds : List T) (at : ℕ) (feed : T) → at < length feeds → feed ≡ get_or feeds at feed → slice_get (firsts_of (map queue feeds)) at ≡ Some (first_of (queue feed))
  key_there [] at feed within is = absurd (omega arith)
  key_there (f ∷ feeds) zero feed within is = ap (λ (x : T). Some (first_of (queue x))) (sym is)
  key_there (f ∷ feeds) (suc at) feed within is = key_there feeds at feed (omega arith) is

  -- The keys below a place are read.
  pub record HasRead (feeds : List T) (at : ℕ) (firsts : List (Option Key)) : Type 0 where
    pub places : length firsts ≡ length feeds
    pub read : take at firsts ≡ take at (firsts_of (map queue feeds))

  pub reads_one : (feeds : List T) (at : ℕ) (feed : T) (firsts : List (Option Key)) (key : Option Key) → at < length feeds → feed ≡ get_or feeds at feed
      → key ≡ first_of (queue feed) → HasRead feeds at firsts → HasRead feeds (at + 1) (set firsts at key)
  reads_one feeds at feed firsts key within is shows has =
      let places = has.places in
      let all = firsts_of (map queue feeds) in
      record {
        places = length-set firsts at key ∙ places;
        read = take_more_set firsts at key (omega (arith, places)) ∙ ap (λ (l : List (Option Key)). l ++ key ∷ []) has.read
            ∙ sym (take-next at all key (drop_get at all key (key_there feeds at feed within is ∙ ap (λ k. Some k) (sym shows))));
      }

  pub has_read : (feeds : List T) (at : ℕ) (firsts : List (Option Key)) → length feeds ≤ at → HasRead feeds at firsts → firsts ≡ firsts_of (map queue feeds)
  has_read feeds at firsts all has =
      let places = has.places in
      let long = as_long queue feeds (firsts_of (map queue feeds)) refl in
      sym (take_all at firsts (omega (arith, places))) ∙ has.read ∙ take_all at (firsts_of (map queue feeds)) (omega (arith, long))
