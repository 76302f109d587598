-- The merge of two lanes, of which all copies wait.
use Rattle.std.proofs.Common.{◌≡◌, ℕ, zero, suc, ◌+◌, ◌-◌, ◌<◌, ◌≤◌, ◌&&◌, not, true, Option, Some, None, List, [], ◌∷◌, ◌++◌, append-nil, get_or, length, map, set, take, refl, sym, ap, ◌∙◌, subst, arith, length-append}
use Rattle.std.proofs.lemmas.List.{length-map, map-append, take_all}
use Rattle.std.specs.List.{AllByRecursion, slice_get}
use Rattle.trex_io.specs.Seen.{Seen}
use Rattle.trex_merge.specs.declared.key.Key.{Key}
use Rattle.trex_merge.specs.declared.next.Next.TheVariants.{End, Need, Packet}
use Rattle.trex_merge.specs.Frames.{Frame, key_of}
use Rattle.trex_merge.specs.Machine.{IsMill, MillState, emitted}
use Rattle.trex_merge.specs.Order.{AreDistinct, ComesBefore, IsRising, joined, ordered}
use Rattle.trex_merge.specs.Queues.{Queue, at_place, is_none_left, next_of, popped, stem, waiting_at}
use Rattle.trex_merge.proofs.QueueLemmas.{end_is_ended, need_is_first, packet_is_least}
use Rattle.trex_merge.proofs.EventLemmas.{emit_keeps, first_waits, sent_whole}
use Rattle.trex_merge.proofs.FrameLemmas.{distinct-map, map-ordered}
use Rattle.trex_stats.specs.Counts.{Counts, CountsFor}
use Rattle.trex_wire.specs.declared.lanes.Due.{Due}
use Rattle.trex_wire.specs.declared.merge.Lane.{Lane}
use Rattle.trex_wire.specs.Lanes.{AreOf, LanesAreOf, both, frame_at, key_in, lane_of, queue_of, seen_of}
use Rattle.trex_wire.specs.Wired.{seen_at, seen_then}
use Rattle.trex_wire.proofs.CountLemmas.{length-ordered}

-- So many copies were sent, and the counts are those of their records, where these are as H says, but for the bytes; the rest waits.
pub record IsAt (frames : List Frame) (H : List Seen → Type 0) (queues : List Queue) (sent limit : ℕ) (c : Counts) : Type 0 where
  pub list : List Frame
  pub mill : IsMill frames (record { queues = queues; sent = list; limit = limit })
  pub count : length list ≡ sent
  pub stands : (rs : List Seen) → H rs → CountsFor c (map (seen_of rs) list)
  pub records : c.records ≡ sent
  pub bytes : c.bytes ≡ 0
  pub quiet : AllByRecursion (λ queue. queue.coming ≡ []) queues

-- ---- the beginning

-- what a lane has
abbrev frames_in : ℕ → List Due → List Frame
frames_in copy dues = map (λ due. frame_at (key_in copy due)) dues

frames_are : (copy : ℕ) (dues : List Due) → map frame_at (map (key_in copy) dues) ≡ frames_in copy dues
frames_are copy [] = refl
frames_are copy (due ∷ dues) = ap (λ (l : List Frame). frame_at (key_in copy due) ∷ l) (frames_are copy dues)

-- a lane rises as its keys do
lane_rises : (copy : ℕ) (dues : List Due) → IsRising (λ k. k) (map (key_in copy) dues) → IsRising key_of (frames_in copy dues)
lane_rises copy [] rising = tt
lane_rises copy (due ∷ dues) rising = (each dues rising.0, lane_rises copy dues rising.1)
  where
    each : (rest : List Due) → AllByRecursion (ComesBefore (λ (k : Key). k) (key_in copy due)) (map (key_in copy) rest)
        → AllByRecursion (ComesBefore key_of (frame_at (key_in copy due))) (frames_in copy rest)
    each [] before = tt
    each (d ∷ rest) before = (before.0, each rest before.1)

module _ (first second : List Due) where
  abbrev begun_queues : List Queue
  begun_queues = lane_of 0 first ∷ lane_of 1 second ∷ []

  all_waits : joined (map stem begun_queues) ≡ map frame_at (both first second)
  all_waits =
      ap (λ (l : List Frame). l ++ ((frames_in 1 second ++ []) ++ [])) (append-nil (frames_in 0 first))
      ∙ ap (λ (l : List Frame). frames_in 0 first ++ l) (append-nil (frames_in 1 second ++ []) ∙ append-nil (frames_in 1 second))
      ∙ ap (λ (l : List Frame). l ++ frames_in 1 second) (sym (frames_are 0 first))
      ∙ ap (λ (l : List Frame). map frame_at (map (key_in 0) first) ++ l) (sym (frames_are 1 second))
      ∙ sym (map-append frame_at (map (key_in 0) first) (map (key_in 1) second))

  pub begun : (H : List Seen → Type 0) (limit : ℕ) (c : Counts) → AreDistinct (λ k. k) (both first second) → IsRising (λ k. k) (map (key_in 0) first)
      → IsRising (λ k. k) (map (key_in 1) second) → CountsFor c [] → c.records ≡ 0 → c.bytes ≡ 0
      → IsAt (map frame_at (both first second)) H begun_queues 0 limit c
  begun H limit c distinct rises second_rises stands none no_bytes = record {
    list = [];
    mill = record {
      whole = ap (ordered key_of) all_waits;
      distinct = subst (AreDistinct key_of) (sym all_waits) (distinct-map (λ k. k) key_of frame_at (λ k. refl) (both first second) distinct);
      rising = (
        subst (IsRising key_of) (sym (append-nil (frames_in 0 first))) (lane_rises 0 first rises),
        (subst (IsRising key_of) (sym (append-nil (frames_in 1 second))) (lane_rises 1 second second_rises), tt),
      );
      within = omega arith;
    };
    count = refl;
    stands = λ rs kept. stands;
    records = none;
    bytes = no_bytes;
    quiet = (refl, (refl, tt));
  }

-- ---- one copy more

quiet-popped : (at : ℕ) (queues : List Queue) → AllByRecursion (λ queue. queue.coming ≡ []) queues → AllByRecursion (λ queue. queue.coming ≡ []) (at_place popped at queues)
quiet-popped at [] quiet = tt
quiet-popped zero (queue ∷ queues) quiet = (quiet.0, quiet.1)
quiet-popped (suc at) (queue ∷ queues) quiet = (quiet.0, quiet-popped at queues quiet.1)

-- what comes next, by the number that was sent
comes_next : (frames : List Frame) (H : List Seen → Type 0) (queues : List Queue) (sent limit at : ℕ) (c : Counts) (is : IsAt frames H queues sent limit c)
    → next_of (limit - sent) queues ≡ Packet at → next_of (limit - length is.list) queues ≡ Packet at
comes_next frames H queues sent limit at c is next = subst (λ (n : ℕ). next_of (limit - n) queues ≡ Packet at) (sym is.count) next

pub one_more : (frames : List Frame) (H : List Seen → Type 0) (queues : List Queue) (sent limit at : ℕ) (c d : Counts) → IsAt frames H queues sent limit c
    → next_of (limit - sent) queues ≡ Packet at
    → ((rs ss : List Seen) → H rs → CountsFor c ss → CountsFor d (ss ++ map (seen_of rs) (take 1 (waiting_at at queues)))) → d.records ≡ c.records + 1 → d.bytes ≡ c.bytes
    → IsAt frames H (at_place popped at queues) (sent + 1) limit d
one_more frames H queues sent limit at c d is next stands more same =
    let state : MillState = record { queues = queues; sent = is.list; limit = limit } in
    let here = comes_next frames H queues sent limit at c is next in
    let least = packet_is_least (limit - length is.list) at queues here in
    let waits = first_waits at queues least.frame least.rest least.there in
    let one : length (take 1 (waiting_at at queues)) ≡ 1 = ap length waits.sent in
    record {
      list = is.list ++ take 1 (waiting_at at queues);
      mill = subst (λ n. IsMill frames (emitted n state)) here (emit_keeps frames state is.mill);
      count = omega (arith, length-append is.list (take 1 (waiting_at at queues)), one, is.count);
      stands = λ rs kept. subst (CountsFor d) (sym (map-append (seen_of rs) is.list (take 1 (waiting_at at queues)))) (stands rs (map (seen_of rs) is.list) kept (is.stands rs kept));
      records = omega (arith, more, is.records);
      bytes = same ∙ is.bytes;
      quiet = quiet-popped at queues is.quiet;
    }

-- fewer copies were sent than may be, where one comes next
pub fewer_sent : (more at : ℕ) (queues : List Queue) → next_of more queues ≡ Packet at → 0 < more
fewer_sent zero at queues next = cc
fewer_sent (suc more) at queues next = omega arith

-- ---- no lane is waited for

quiet_at : (queues : List Queue) (at : ℕ) (queue : Queue) → slice_get queues at ≡ Some queue → AllByRecursion (λ q. q.coming ≡ []) queues → queue.coming ≡ []
quiet_at [] at queue there quiet = cc
quiet_at (q ∷ queues) zero queue there quiet = let same : q ≡ queue = cc in ap (λ (x : Queue). x.coming) (sym same) ∙ quiet.0
quiet_at (q ∷ queues) (suc at) queue there quiet = quiet_at queues at queue there quiet.1

pub none_needed : (frames : List Frame) (H : List Seen → Type 0) (queues : List Queue) (sent limit core : ℕ) (c : Counts) → IsAt frames H queues sent limit c
    → next_of (limit - sent) queues ≡ Need core → ⊥
none_needed frames H queues sent limit core c is next =
    let first = need_is_first (limit - sent) core queues next in
    owes first.queue.waiting first.queue.coming (quiet_at queues core first.queue first.there is.quiet) first.needy
  where
    owes : (waiting coming : List Frame) → coming ≡ [] → (is_none_left waiting && not (is_none_left coming)) ≡ true → ⊥
    owes [] [] none needy = cc
    owes (frame ∷ waiting) coming none needy = cc
    owes [] (frame ∷ coming) none needy = cc

-- ---- the end

seen_frames : (rs : List Seen) (ks : List Key) → map (seen_of rs) (map frame_at ks) ≡ map (seen_at rs) ks
seen_frames rs [] = refl
seen_frames rs (k ∷ ks) = ap (λ (l : List Seen). seen_at rs k ∷ l) (seen_frames rs ks)

module _ (keys : List Key) (H : List Seen → Type 0) (queues : List Queue) (sent limit : ℕ) (c : Counts) (enough : limit ≡ length keys)
    (is : IsAt (map frame_at keys) H queues sent limit c) (next : next_of (limit - sent) queues ≡ End) where
  sent_list : is.list ≡ map frame_at (ordered (λ k. k) keys)
  sent_list =
      let frames = map frame_at keys in
      let state : MillState = record { queues = queues; sent = is.list; limit = limit } in
      let here : next_of (limit - length is.list) queues ≡ End = subst (λ (n : ℕ). next_of (limit - n) queues ≡ End) (sym is.count) next in
      let whole : is.list ≡ take limit (ordered key_of frames) = sent_whole frames state is.mill ((end_is_ended state).0 here) in
      let short : length (ordered key_of frames) ≤ limit = omega (arith, length-ordered key_of frames, length-map keys frame_at, enough) in
      whole ∙ take_all limit (ordered key_of frames) short ∙ sym (map-ordered (λ k. k) key_of frame_at (λ k. refl) keys)

  pub all_sent : (rs : List Seen) → H rs → CountsFor c (map (seen_at rs) (ordered (λ k. k) keys))
  all_sent rs kept = subst (CountsFor c) (ap (map (seen_of rs)) sent_list ∙ seen_frames rs (ordered (λ k. k) keys)) (is.stands rs kept)

  pub all_recorded : c.records ≡ length keys
  all_recorded =
      omega (arith, is.records, is.count, ap length sent_list, length-map (ordered (λ k. k) keys) frame_at, length-ordered (λ k. k) keys)

-- ---- the copy that comes next

pub lane_first : (lanes : List Lane) (feed : ℕ) (d : Lane) (e : Due) → 0 < length (get_or lanes feed d).rest.now → feed < length lanes
    → take 1 (waiting_at feed (map queue_of lanes)) ≡ frame_at (key_in (get_or lanes feed d).copy (get_or (get_or lanes feed d).rest.now 0 e)) ∷ []
lane_first [] feed d e some within = absurd (omega (arith, within))
lane_first (lane ∷ lanes) zero d e some within = front lane.rest.now some
  where
    front : (dues : List Due) → 0 < length dues → take 1 (frames_in lane.copy dues) ≡ frame_at (key_in lane.copy (get_or dues 0 e)) ∷ []
    front [] some = absurd (omega (arith, some))
    front (due ∷ dues) some = refl
lane_first (lane ∷ lanes) (suc feed) d e some within = lane_first lanes feed d e some (omega (arith, within))

-- ---- the copies of lanes stay those of their records

pub of_first : (rs : List Seen) (lanes : List Lane) (feed : ℕ) (d : Lane) → feed < length lanes → LanesAreOf rs lanes → AreOf rs (get_or lanes feed d).rest.now
of_first rs [] feed d within are = absurd (omega (arith, within))
of_first rs (lane ∷ lanes) zero d within are = are.0
of_first rs (lane ∷ lanes) (suc feed) d within are = of_first rs lanes feed d (omega (arith, within)) are.1

pub of_set : (rs : List Seen) (lanes : List Lane) (feed : ℕ) (new : Lane) → AreOf rs new.rest.now → LanesAreOf rs lanes → LanesAreOf rs (set lanes feed new)
of_set rs [] feed new is are = tt
of_set rs (lane ∷ lanes) zero new is are = (is, are.1)
of_set rs (lane ∷ lanes) (suc feed) new is are = (are.0, of_set rs lanes feed new is are.1)

pub timed_at : (time : ℕ) (r : Option Seen) → (seen_then time r).time ≡ time
timed_at time None = refl
timed_at time (Some r) = refl
