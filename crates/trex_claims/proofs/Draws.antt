-- A draw keeps the rule.
use Rattle.std.proofs.Common.{◌≡◌, ℕ, ◌+◌, ◌-◌, ◌%◌, ◌^◌, ◌<◌, ◌≤◌, List, [], ◌∷◌, length, get_or, set, refl, sym, ap, subst, ◌∙◌, arith, Bool, true, false, Option, Some, not, get_or-set_other, get_or-set_same}
use Rattle.std.proofs.Math.Nat.{mod-eq_of_lt}
use Rattle.std.proofs.Math.ListN.{length-set}
use mathlib.Core.Logic.{dite}
use native.Mathlib.Decide.{ℕ_discrete, dec_lt}
use mathlib.Core.Option.{none, some}
use lib.ListN.{get_elem?}
use Rattle.atomic_table.specs.Table.{State, Me, takes, keeps, Allows}
use Rattle.atomic_table.proofs.Lists.{set_here, set_else}
use Rattle.trex_claims.specs.declared.view.CoreState.{CoreState}
use Rattle.trex_claims.specs.declared.view.Round.{Round}
use Rattle.trex_claims.specs.declared.view.View.{View}
use Rattle.trex_claims.specs.Views.{total, times, one_if, held, done, drawn, empty_draws, empty_draws_left}
use Rattle.trex_claims.specs.Board.{OpenDraws, DrawsHold, IsPiece, SlotHolds, BoardHolds, Rule, below}
use Rattle.trex_claims.specs.Moves.{vacant, state_at, after_claim, after_empty_draw, Drew}
use Rattle.trex_claims.proofs.TotalLemmas.{total_set, part, at_place, once_here, not_here, one_more, not_yet, both_past}
use Rattle.trex_claims.proofs.Seats.{knows, leads_on}
use Rattle.trex_claims.proofs.Unchanged.{full_not_empty, running_unspent, open_draws, untouched, holds_for}

module _ {T : Type 0} (core turns : T → ℕ) (stem : T → List (List ℕ)) (settled : T → Type 0) where
  module _ (s : State (Option T) View) (id : ℕ) (v : View) (at : get_elem? s.views id ≡ some v) (first_saw_none : Bool) (seats_out : ℕ)
      (k : BoardHolds core turns stem settled v.round first_saw_none seats_out s) (running : v.round.running ≡ true) where
    abbrev r : Round
    r = v.round

    -- the number found
    abbrev n : ℕ
    n = get_or s.words 0 0

    -- the words afterwards
    abbrev next : List ℕ
    next = set s.words 0 ((n + 1) % 18446744073709551616)

    d : OpenDraws r first_saw_none n s.views
    d = open_draws r first_saw_none seats_out n s.views running k.draws

    -- the draw word has room
    small : n < 2 ^ 48
    small =
        let a = d.counted in
        let b = d.few_empty_draws in
        let c = d.few_drawn in
        let e = k.few in
        let f = d.base in
        let g = k.rounds in
        omega arith

    next_word : get_or next 0 0 ≡ n + 1
    next_word =
        let h = small in
        let fits : n + 1 < 18446744073709551616 = omega arith in
        let wide = k.words in
        let some_word : 0 < length s.words = omega arith in
        get_or-set_same s.words 0 ((n + 1) % 18446744073709551616) 0 some_word ∙ mod-eq_of_lt fits

    other_word : (x : ℕ) → get_or next (x + 1) 0 ≡ get_or s.words (x + 1) 0
    other_word x = get_or-set_other s.words 0 (x + 1) ((n + 1) % 18446744073709551616) 0 (λ q. absurd (omega arith))

    base_below : r.base ≤ n
    base_below = let a = d.counted in omega arith

    -- a core is drawn
    module _ (free : v.claim ≡ []) (in_range : n < r.base + length r.cores) where
      abbrev c : ℕ
      c = n - r.base

      abbrev w : View
      w = after_claim v c

      is_core : n ≡ r.base + c
      is_core = let a = d.counted in omega arith

      c_below : c < length r.cores
      c_below = let e = is_core in let i = in_range in omega arith

      -- no seat claims the core or put it back before
      fresh : total (held c) s.views + total (done c) s.views ≡ 0
      fresh = let e = is_core in d.once c c_below ∙ not_yet _ _ (omega arith)

      held_more : (x : ℕ) → total (held x) (set s.views id w) ≡ total (held x) s.views + times x (c ∷ [])
      held_more x =
          let e = total_set (held x) s.views id v w at in
          let z : held x v ≡ 0 = ap (times x) free in
          omega arith

      done_same : (x : ℕ) → total (done x) (set s.views id w) ≡ total (done x) s.views
      done_same x = let e = total_set (done x) s.views id v w at in omega arith

      few_done : length v.done < length r.cores
      few_done =
          let i = in_range in
          let a = d.counted in
          let b = part drawn s.views id v at in
          omega arith

      drawing : OpenDraws r first_saw_none (get_or next 0 0) (set s.views id w)
      drawing =
          let is = next_word in
          let e = is_core in
          let drawn_one : total drawn (set s.views id w) ≡ total drawn s.views + 1 =
          let t = total_set drawn s.views id v w at in let z : length v.claim ≡ 0 = ap length free in omega arith in
          let empty_same : total empty_draws (set s.views id w) ≡ total empty_draws s.views = let t = total_set empty_draws s.views id v w at in omega arith in
          let left_same : total empty_draws_left (set s.views id w) ≡ total empty_draws_left s.views = let t = total_set empty_draws_left s.views id v w at in omega arith in
          let b = d.counted in
          let f = d.few_empty_draws in
          let g = d.few_drawn in
          let i = in_range in
          record {
            base = d.base;
            counted = omega arith;
            few_empty_draws = omega arith;
            few_drawn = omega arith;
            past = λ t. let p = d.past t in omega arith;
            full = d.full;
            once = λ x h.
                let o = d.once x h in
                let m = one_more r.base c x n e in
                let p = held_more x in
                let q = done_same x in
                let goal : total (held x) (set s.views id w) + total (done x) (set s.views id w) ≡ below (r.base + x) (n + 1) = omega arith in
                goal ∙ ap (below (r.base + x)) (sym is);
            no_other = λ x h.
                let o = d.no_other x h in
                let low = c_below in
                let p = held_more x in
                let q = done_same x in
                let z = not_here x c (λ e. absurd (omega arith)) in
                omega arith;
          }

      holds : (x : ℕ) (t : CoreState) → get_elem? r.cores x ≡ some t
          → SlotHolds core turns stem settled r x t (total (held x) (set s.views id w)) (total (done x) (set s.views id w)) (get_or next (x + 1) 0) (get_elem? (set s.homes c none) x)
      holds x t e =
          let old = k.slots_hold x t e in
          let more = held_more x in
          let same = done_same x in
          dite (ℕ_discrete x c)
          (λ q.
          let one : times x (c ∷ []) ≡ 1 = ap (λ y. times y (c ∷ [])) q ∙ once_here c in
          record {
            counted = other_word x ∙ old.counted ∙ ap (λ y. t.puts_before + y) (sym same);
            bounded = old.bounded;
            there = λ _ z. absurd (omega arith);
            away = λ _.
                let low = c_below in
                let wide = k.homes in
                ap (get_elem? (set s.homes c none)) q ∙ set_here s.homes c none (omega arith);
            empty = λ z. absurd (full_not_empty t.slot (d.full x t e) z);
          })
          (λ q.
          let zero_more = not_here x c q in
          untouched core turns stem settled r x t _ _ _ _ _ _ _ _ (omega arith) same (other_word x) (set_else s.homes c x none q) old)

      drawn_holds : BoardHolds core turns stem settled r first_saw_none seats_out (record { words = next; homes = set s.homes c none; views = set s.views id w })
      drawn_holds = record {
        words = length-set s.words 0 ((n + 1) % 18446744073709551616) ∙ k.words;
        homes = length-set s.homes c none ∙ k.homes;
        few = k.few;
        rounds = k.rounds;
        draws = subst (λ b. DrawsHold b r first_saw_none seats_out (get_or next 0 0) (set s.views id w)) (sym running) drawing;
        slots_hold = holds;
      }

      -- its piece is at home
      drawn_piece : (piece : T) × (get_elem? s.homes c ≡ some (some (Some piece))) × IsPiece core turns stem settled c (state_at v c) 0 piece
      drawn_piece =
          let state = at_place r.cores c vacant c_below in
          let old = k.slots_hold c (state_at v c) state in
          let none_yet = fresh in
          let found = old.there (d.full c (state_at v c) state) (omega arith) in
          let no_puts : total (done c) s.views ≡ 0 = omega arith in
          (found.0, found.1, subst (λ m. IsPiece core turns stem settled c (state_at v c) m found.0) no_puts found.2)

    -- no core is left
    module _ (no_none_yet : v.saw_none ≡ false) (out_of_range : r.base + length r.cores ≤ n) where
      abbrev u : View
      u = after_empty_draw v

      held_kept : (x : ℕ) → total (held x) (set s.views id u) ≡ total (held x) s.views
      held_kept x = let e = total_set (held x) s.views id v u at in omega arith

      done_kept : (x : ℕ) → total (done x) (set s.views id u) ≡ total (done x) s.views
      done_kept x = let e = total_set (done x) s.views id v u at in omega arith

      no_drawing : (saw_none : Bool) → OpenDraws r saw_none (get_or next 0 0) (set s.views id u)
      no_drawing saw_none =
          let is = next_word in
          let drawn_same : total drawn (set s.views id u) ≡ total drawn s.views = let t = total_set drawn s.views id v u at in omega arith in
          let none_more : total empty_draws (set s.views id u) ≡ total empty_draws s.views + 1 = let t = total_set empty_draws s.views id v u at in omega arith in
          let left_less : total empty_draws_left (set s.views id u) + 1 ≡ total empty_draws_left s.views =
          let t = total_set empty_draws_left s.views id v u at in let z : one_if (not v.saw_none) ≡ 1 = ap (λ b. one_if (not b)) no_none_yet in omega arith in
          let b = d.counted in
          let f = d.few_empty_draws in
          let g = d.few_drawn in
          let i = out_of_range in
          record {
            base = d.base;
            counted = omega arith;
            few_empty_draws = omega arith;
            few_drawn = omega arith;
            past = λ _. omega arith;
            full = d.full;
            once = λ x h.
                let o = d.once x h in
                let p = held_kept x in
                let q = done_kept x in
                let goal : total (held x) (set s.views id u) + total (done x) (set s.views id u) ≡ below (r.base + x) n = omega arith in
                goal ∙ both_past (r.base + x) n (get_or next 0 0) (omega arith) (omega arith);
            no_other = λ x h.
                let o = d.no_other x h in
                let p = held_kept x in
                let q = done_kept x in
                omega arith;
          }

      none_holds : (saw_none : Bool) → BoardHolds core turns stem settled r saw_none seats_out (record { words = next; homes = s.homes; views = set s.views id u })
      none_holds saw_none = record {
        words = length-set s.words 0 ((n + 1) % 18446744073709551616) ∙ k.words;
        homes = k.homes;
        few = k.few;
        rounds = k.rounds;
        draws = subst (λ b. DrawsHold b r saw_none seats_out (get_or next 0 0) (set s.views id u)) (sym running) (no_drawing saw_none);
        slots_hold = λ x t e. untouched core turns stem settled r x t _ _ _ _ _ _ _ _ (held_kept x) (done_kept x) (other_word x) refl (k.slots_hold x t e);
      }

  pub draws : (slots id : ℕ) (me : Me (Option T) View) → me.0.round.running ≡ true → me.0.claim ≡ [] → me.0.saw_none ≡ false
      → Allows (Rule core turns stem settled) slots id me 0 (λ n. (n + 1) % 18446744073709551616) (Drew core turns stem settled slots me)
  draws slots id me running free no_none_yet s rule wide at _ =
      let v = me.0 in
      let a = rule.0 in
      let unspent = running_unspent v running in
      let same = knows a s.views rule.1 id v at unspent in
      let k = holds_for core turns stem settled a.round a.saw_none a.seats_out v.round a.saw_none a.seats_out s same refl refl rule.2 in
      let cores : length v.round.cores ≡ slots = sym k.homes ∙ wide in
      dite (dec_lt (get_or s.words 0 0) (v.round.base + length v.round.cores))
      (λ there.
      let c = get_or s.words 0 0 - v.round.base in
      let w = after_claim v c in
      let led = leads_on a s.views rule.1 id v at w unspent refl refl refl in
      let found = drawn_piece s id v at a.saw_none a.seats_out k running free there in
      let kept = drawn_holds s id v at a.saw_none a.seats_out k running free there in
      let few = few_done s id v at a.saw_none a.seats_out k running free there in (
        w,
        takes c (Some found.0),
        found.1,
        (led.0, led.1, holds_for core turns stem settled v.round a.saw_none a.seats_out led.0.round led.0.saw_none led.0.seats_out _ (led.2 ∙ sym same) (led.4 refl) led.3 kept),
        record {
          base = base_below s id v at a.saw_none a.seats_out k running;
          small = small s id v at a.saw_none a.seats_out k running;
          core_left = λ _. record { few = omega arith; piece = found.0; is_piece = found.2; seat = refl };
          none_left = λ past. absurd (omega arith);
        },
      ))
      (λ past.
      let u = after_empty_draw v in
      let led = leads_on a s.views rule.1 id v at u unspent refl refl refl in
      let kept = none_holds s id v at a.saw_none a.seats_out k running no_none_yet (omega arith) led.0.saw_none in (
        u,
        keeps,
        tt,
        (led.0, led.1, holds_for core turns stem settled v.round led.0.saw_none a.seats_out led.0.round led.0.saw_none led.0.seats_out _ (led.2 ∙ sym same) refl led.3 kept),
        record {
          base = base_below s id v at a.saw_none a.seats_out k running;
          small = small s id v at a.saw_none a.seats_out k running;
          core_left = λ there. absurd (omega arith);
          none_left = λ _. refl;
        },
      ))
