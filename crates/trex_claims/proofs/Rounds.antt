-- The start of a board, and of a round, and seats that are split off and joined, keep the rule.
use Rattle.std.proofs.Common.{◌≡◌, ◌≢◌, ◌⊎◌, inl, inr, ⊎_elim, ℕ, zero, suc, ◌+◌, ◌^◌, ◌<◌, ◌≤◌, List, [], ◌∷◌, ◌++◌, map, length, replicate, get_or, set, refl, sym, ap, subst, ◌∙◌, arith, Bool, true, false, Option, None}
use Rattle.std.proofs.Math.ListN.{length-append, length-replicate}
use mathlib.Core.Option.{some, some-injective, some-ne-none}
use lib.ListN.{get_elem?}
use Rattle.atomic_table.specs.Table.{State, Me, keeps, Allows, Splits, Joins, opening}
use Rattle.atomic_table.proofs.Lists.{set_else}
use Rattle.trex_claims.specs.declared.view.CoreState.{CoreState}
use Rattle.trex_claims.specs.declared.view.View.{View}
use Rattle.trex_claims.specs.Views.{total, times, IsFirst, IsOther, IsFull, other, held, done, drawn, empty_draws, empty_draws_left, spent}
use Rattle.trex_claims.specs.Board.{Led, OpenDraws, ClosedDraws, SlotHolds, BoardHolds, Rule}
use Rattle.trex_claims.specs.Moves.{vacant, opening_view, state_at, round_opened, after_split, split_seat, after_join, Began}
use Rattle.trex_claims.proofs.TotalLemmas.{total_set, total_snoc, part, within, place_of, set_loaded, times_append, not_yet}
use Rattle.trex_claims.proofs.Seats.{one_of, sole, leads_alone, leads_split, leads_join}
use Rattle.trex_claims.proofs.Unchanged.{closed_draws, untouched, of_first, viewed}

true_or_false : (b : Bool) → (b ≡ true) ⊎ (b ≡ false)
true_or_false true = inl refl
true_or_false false = inr refl

module _ {A : Type 0} where
  at_replicate : (n i : ℕ) (a b : A) → get_elem? (replicate n a) i ≡ some b → (i < n) × (b ≡ a)
  at_replicate zero i a b e = absurd (some-ne-none b (sym e))
  at_replicate (suc n) zero a b e = (omega arith, sym (some-injective a b e))
  at_replicate (suc n) (suc i) a b e = let t = at_replicate n i a b e in let u = t.0 in (omega arith, t.1)

  home_replicate : (n i : ℕ) (a : A) → i < n → get_elem? (map some (replicate n a)) i ≡ some (some a)
  home_replicate zero i a h = absurd (omega arith)
  home_replicate (suc n) zero a h = refl
  home_replicate (suc n) (suc i) a h = home_replicate n i a (omega arith)

  alone_at : (a b : A) (i : ℕ) → i ≢ 0 → get_elem? (a ∷ []) i ≡ some b → ⊥
  alone_at a b zero n e = n refl
  alone_at a b (suc i) n e = some-ne-none b (sym e)

  length_homes : (l : List A) → length (map (λ (x : A). some x) l) ≡ length l
  length_homes [] = refl
  length_homes (x ∷ xs) = ap suc (length_homes xs)

module _ {T : Type 0} (core turns : T → ℕ) (stem : T → List (List ℕ)) (settled : T → Type 0) where
  -- a new board
  pub opens : (cores : ℕ) (words : List ℕ) → cores ≤ 64 → length words ≡ cores + 1 → ((i : ℕ) → get_or words i 0 ≡ 0)
      → Rule core turns stem settled (opening words (replicate cores None) (opening_view cores))
  opens cores words few long zeros =
      let states = length-replicate cores vacant in (
        opening_view cores,
        record {
          leads = refl;
          is_first = tt;
          follow = λ i v n e. absurd (alone_at (opening_view cores) v i n e);
          others = refl;
        },
        record {
          words = long ∙ ap (λ n. n + 1) (sym states);
          homes = length_homes (replicate cores None) ∙ length-replicate cores None ∙ sym states;
          few = omega arith;
          rounds = omega arith;
          draws = let z = zeros 0 in record { word_below = omega arith; alone = refl; none_drawn = refl; none = λ _. refl };
          slots_hold = λ c t e.
              let there = at_replicate cores c vacant t e in
              let empty_there = home_replicate cores c None there.0 in
              subst (λ (u : CoreState). SlotHolds core turns stem settled (opening_view cores).round c u 0 0 (get_or words (c + 1) 0) (get_elem? (map some (replicate cores None)) c)) (sym there.1)
              record { counted = zeros (c + 1); bounded = omega arith; there = λ f _. absurd f; away = λ one. absurd (omega arith); empty = λ _. empty_there };
        },
      )

  -- a round begins
  module _ (s : State (Option T) View) (v : View) (led : Led v s.views) (k : BoardHolds core turns stem settled v.round v.saw_none v.seats_out s) (off : v.round.running ≡ false)
      (few_rounds : v.round.rounds < 2 ^ 40) (all_full : (c : ℕ) → c < length v.round.cores → IsFull (state_at v c).slot) where
    abbrev n : ℕ
    n = get_or s.words 0 0

    abbrev w : View
    w = round_opened v n

    d : ClosedDraws v.round v.seats_out n s.views
    d = closed_draws v.round v.saw_none v.seats_out n s.views off k.draws

    led_on : Led w (set s.views 0 w)
    led_on = leads_alone v w s.views led d.alone led.is_first refl

    held_none : (x : ℕ) → total (held x) (set s.views 0 w) ≡ 0
    held_none x = sole w (set s.views 0 w) led_on (held x) refl refl

    done_none : (x : ℕ) → total (done x) (set s.views 0 w) ≡ 0
    done_none x = sole w (set s.views 0 w) led_on (done x) refl refl

    opened : OpenDraws w.round w.saw_none n (set s.views 0 w)
    opened =
        let a = sole w (set s.views 0 w) led_on drawn refl refl in
        let b = sole w (set s.views 0 w) led_on empty_draws refl refl in
        let e = sole w (set s.views 0 w) led_on empty_draws_left refl refl in
        let low = d.word_below in
        record {
          base = omega arith;
          counted = omega arith;
          few_empty_draws = omega arith;
          few_drawn = omega arith;
          past = λ t. let q : true ≡ false = sym t in cc;
          full = λ c t at. subst (λ (u : CoreState). IsFull u.slot) (place_of v.round.cores c vacant t at) (all_full c (within v.round.cores c t at));
          once = λ x h. let p = held_none x in let q = done_none x in let z = not_yet (n + x) n (omega arith) in omega arith;
          no_other = λ x h. let p = held_none x in let q = done_none x in omega arith;
        }

    opened_holds : BoardHolds core turns stem settled w.round w.saw_none w.seats_out (record { words = s.words; homes = s.homes; views = set s.views 0 w })
    opened_holds = record {
      words = k.words;
      homes = k.homes;
      few = k.few;
      rounds = omega arith;
      draws = opened;
      slots_hold = λ x t e.
          let old = k.slots_hold x t e in
          let z = d.none x in
          let p = held_none x in
          let q = done_none x in
          let same = untouched core turns stem settled v.round x t _ _ _ _ (total (held x) (set s.views 0 w)) (total (done x) (set s.views 0 w)) (get_or s.words (x + 1) 0) (get_elem? s.homes x)
          (omega arith) (omega arith) refl refl old in
          let b = same.bounded in
          record { counted = same.counted; bounded = omega arith; there = same.there; away = same.away; empty = same.empty };
    }

    word_small : n < 2 ^ 48
    word_small = let low = d.word_below in let r = k.rounds in omega arith

  pub begins : (slots id : ℕ) (me : Me (Option T) View) → IsFirst me.0.role → me.0.round.running ≡ false → me.0.round.rounds < 2 ^ 40
      → ((c : ℕ) → c < slots → IsFull (state_at me.0 c).slot) → Allows (Rule core turns stem settled) slots id me 0 (λ n. n) (Began me)
  begins slots id me is_first off few_rounds all_full s rule wide at _ =
      let v = me.0 in
      let first = of_first core turns stem settled s id v rule at is_first in
      let k = first.2 in
      let cores : length v.round.cores ≡ slots = sym k.homes ∙ wide in
      let full : (c : ℕ) → c < length v.round.cores → IsFull (state_at v c).slot = λ c h. all_full c (omega arith) in
      let w = round_opened v (get_or s.words 0 0) in
      let views : set s.views id w ≡ set s.views 0 w = ap (λ i. set s.views i w) first.0 in (
        w,
        keeps,
        tt,
        subst (λ (q : List ℕ × List View). Rule core turns stem settled (record { words = q.0; homes = s.homes; views = q.1 })) (λ i. (sym (set_loaded s.words 0 0) i, sym views i))
            (w, led_on s v first.1 k off few_rounds full, opened_holds s v first.1 k off few_rounds full),
        record { small = word_small s v first.1 k off few_rounds full; seat = refl },
      )

  -- a seat is split off
  pub splits : (id : ℕ) (v : View) → IsFirst v.role → v.round.running ≡ true → 0 < v.seats_left → Splits (Rule core turns stem settled) id v (after_split v) (split_seat v)
  splits id v is_first running some_left s rule at =
      let first = of_first core turns stem settled s id v rule at is_first in
      let w = after_split v in
      let u = split_seat v in
      let views = set s.views 0 w ++ u ∷ [] in
      let here = first.1.leads in
      let same : (f : View → ℕ) → total f views + f v ≡ total f s.views + (f w + f u) =
      λ f. let a = total_set f s.views 0 v w here in let b = total_snoc f (set s.views 0 w) u in omega arith in
      let kept = viewed core turns stem settled v.round v.saw_none v.seats_out w.seats_out s views running
      (let a = same drawn in omega arith) (let a = same empty_draws in omega arith) (let a = same empty_draws_left in omega arith)
      (λ x. let a = same (held x) in omega arith) (λ x. let a = same (done x) in omega arith) first.2 in
      let place : set s.views id w ++ u ∷ [] ≡ views = ap (λ i. set s.views i w ++ u ∷ []) first.0 in
      subst (λ vs. Rule core turns stem settled (record { words = s.words; homes = s.homes; views = vs })) (sym place) (w, leads_split v s.views first.1, kept)

  -- another seat is joined
  pub joins : (id : ℕ) (v : View) (other_id : ℕ) (u : View) → IsFirst v.role → IsOther u.role → u.claim ≡ [] → Joins (Rule core turns stem settled) id v other_id u (after_join v u) spent
  joins id v other_id u is_first is_other free s rule at apart at_other =
      let first = of_first core turns stem settled s id v rule at is_first in
      let k = first.2 in
      let w = after_join v u in
      let one = set s.views 0 w in
      let views = set one other_id spent in
      let place : set s.views id w ≡ one = ap (λ i. set s.views i w) first.0 in
      let there : get_elem? one other_id ≡ some u = ap (λ l. get_elem? l other_id) (sym place) ∙ at_other in
      let elsewhere : other_id ≢ 0 = λ z. apart (z ∙ sym first.0) in
      let here = first.1.leads in
      let sums : (f : View → ℕ) → total f views + f u + f v ≡ total f s.views + f w + f spent =
      λ f. let a = total_set f s.views 0 v w here in let b = total_set f one other_id u spent there in omega arith in
      let running : v.round.running ≡ true =
      ⊎_elim (λ t. t)
      (λ off.
      let d = closed_draws v.round v.saw_none v.seats_out (get_or s.words 0 0) s.views off k.draws in
      let o : other u ≡ 1 = one_of u.role is_other in
      let p = part other s.views other_id u (sym (set_else s.views 0 other_id w elsewhere) ∙ there) in
      let all = first.1.others in
      let none = d.alone in
      absurd (omega arith))
      (true_or_false v.round.running) in
      let kept = viewed core turns stem settled v.round v.saw_none v.seats_out w.seats_out s views running
      (let a = sums drawn in let b = length-append u.done v.done in let z : length u.claim ≡ 0 = ap length free in omega arith)
      (let a = sums empty_draws in omega arith) (let a = sums empty_draws_left in omega arith)
      (λ x. let a = sums (held x) in let z : times x u.claim ≡ 0 = ap (times x) free in omega arith)
      (λ x. let a = sums (done x) in let b = times_append x u.done v.done in omega arith) k in
      let back : set (set s.views id w) other_id spent ≡ views = ap (λ l. set l other_id spent) place in
      subst (λ vs. Rule core turns stem settled (record { words = s.words; homes = s.homes; views = vs })) (sym back)
      (w, leads_join v u s.views other_id first.1 elsewhere there is_other, kept)
