-- A put keeps the rule.
use Rattle.std.proofs.Common.{◌≡◌, ℕ, ◌+◌, ◌%◌, ◌<◌, List, [], ◌∷◌, length, get_or, set, refl, sym, ap, subst, ◌∙◌, arith, Bool, true, false, Option, Some, get_or-set_other, get_or-set_same}
use Rattle.std.proofs.Math.Nat.{mod-eq_of_lt}
use Rattle.std.proofs.Math.ListN.{length-set, length-append}
use mathlib.Core.Logic.{dite}
use native.Mathlib.Decide.{ℕ_discrete}
use mathlib.Core.Option.{some}
use lib.ListN.{get_elem?}
use Rattle.atomic_table.specs.Table.{State, Me, gives, put_back, Allows}
use Rattle.atomic_table.proofs.Lists.{set_here, set_else}
use Rattle.trex_claims.specs.declared.view.CoreState.{CoreState}
use Rattle.trex_claims.specs.declared.view.Round.{Round}
use Rattle.trex_claims.specs.declared.view.View.{View}
use Rattle.trex_claims.specs.Views.{total, times, one_if, held, done, drawn, empty_draws, empty_draws_left}
use Rattle.trex_claims.specs.Board.{OpenDraws, DrawsHold, IsPiece, SlotHolds, BoardHolds, Rule}
use Rattle.trex_claims.specs.Moves.{vacant, state_at, after_put, PutBack}
use Rattle.trex_claims.proofs.TotalLemmas.{total_set, part, place_of, once_here, not_here, times_append, at_most_one}
use Rattle.trex_claims.proofs.Seats.{knows, leads_on}
use Rattle.trex_claims.proofs.Unchanged.{full_not_empty, claiming_unspent, open_draws, draws_on, untouched, holds_for}

-- a core is claimed in an open round alone
claimed_open : (b : Bool) (r : Round) (saw_none : Bool) (seats_out word : ℕ) (views : List View) (id : ℕ) (v : View) (c : ℕ) → r.running ≡ b → DrawsHold b r saw_none seats_out word views
    → get_elem? views id ≡ some v → v.claim ≡ c ∷ [] → r.running ≡ true
claimed_open true r saw_none seats_out word views id v c e d at claim = e
claimed_open false r saw_none seats_out word views id v c e d at claim =
    let p = part drawn views id v at in
    let q = d.none_drawn in
    let one : length v.claim ≡ 1 = ap length claim in
    absurd (omega arith)

module _ {T : Type 0} (core turns : T → ℕ) (stem : T → List (List ℕ)) (settled : T → Type 0) where
  module _ (s : State (Option T) View) (id : ℕ) (v : View) (at : get_elem? s.views id ≡ some v) (first_saw_none : Bool) (seats_out : ℕ)
      (k : BoardHolds core turns stem settled v.round first_saw_none seats_out s) (c : ℕ) (claim : v.claim ≡ c ∷ []) (c_below : c < length v.round.cores)
      (piece : T) (is_piece : IsPiece core turns stem settled c (state_at v c) 1 piece) where
    abbrev r : Round
    r = v.round

    abbrev w : View
    w = after_put v

    -- the number found in the turn word
    abbrev n : ℕ
    n = get_or s.words (c + 1) 0

    abbrev next : List ℕ
    next = set s.words (c + 1) ((n + 1) % 18446744073709551616)

    running : r.running ≡ true
    running = claimed_open r.running r first_saw_none seats_out (get_or s.words 0 0) s.views id v c refl k.draws at claim

    d : OpenDraws r first_saw_none (get_or s.words 0 0) s.views
    d = open_draws r first_saw_none seats_out (get_or s.words 0 0) s.views running k.draws

    held_less : (x : ℕ) → total (held x) (set s.views id w) + times x (c ∷ []) ≡ total (held x) s.views
    held_less x =
        let e = total_set (held x) s.views id v w at in
        let z : held x v ≡ times x (c ∷ []) = ap (times x) claim in
        omega arith

    done_more : (x : ℕ) → total (done x) (set s.views id w) ≡ total (done x) s.views + times x (c ∷ [])
    done_more x =
        let e = total_set (done x) s.views id v w at in
        let a = times_append x v.claim v.done in
        let z : times x v.claim ≡ times x (c ∷ []) = ap (times x) claim in
        omega arith

    -- no other seat claims the core, and none put it back
    alone : (total (held c) s.views ≡ 1) × (total (done c) s.views ≡ 0)
    alone =
        let o = d.once c c_below in
        let p = part (held c) s.views id v at in
        let z : held c v ≡ 1 = ap (times c) claim ∙ once_here c in
        let one = at_most_one (r.base + c) (get_or s.words 0 0) in
        (omega arith, omega arith)

    draw_word : get_or next 0 0 ≡ get_or s.words 0 0
    draw_word = get_or-set_other s.words (c + 1) 0 ((n + 1) % 18446744073709551616) 0 (λ q. absurd (omega arith))

    drawing : OpenDraws r first_saw_none (get_or s.words 0 0) (set s.views id w)
    drawing =
        let one : length v.claim ≡ 1 = ap length claim in
        let both = length-append v.claim v.done in
        let drawn_same : total drawn (set s.views id w) ≡ total drawn s.views = let t = total_set drawn s.views id v w at in omega arith in
        let empty_same : total empty_draws (set s.views id w) ≡ total empty_draws s.views = let t = total_set empty_draws s.views id v w at in omega arith in
        let left_same : total empty_draws_left (set s.views id w) ≡ total empty_draws_left s.views = let t = total_set empty_draws_left s.views id v w at in omega arith in
        let same : (x : ℕ) → total (held x) (set s.views id w) + total (done x) (set s.views id w) ≡ total (held x) s.views + total (done x) s.views =
        λ x. let p = held_less x in let q = done_more x in omega arith in
        draws_on r first_saw_none (get_or s.words 0 0) s.views (set s.views id w) drawn_same empty_same (omega arith) same d

    holds : (x : ℕ) (t : CoreState) → get_elem? r.cores x ≡ some t
        → SlotHolds core turns stem settled r x t (total (held x) (set s.views id w)) (total (done x) (set s.views id w)) (get_or next (x + 1) 0) (get_elem? (set s.homes c (some (Some piece))) x)
    holds x t e =
        let old = k.slots_hold x t e in
        let less = held_less x in
        let more = done_more x in
        dite (ℕ_discrete x c)
        (λ q.
        let e_c : get_elem? r.cores c ≡ some t = ap (get_elem? r.cores) (sym q) ∙ e in
        let here : times x (c ∷ []) ≡ 1 = ap (λ y. times y (c ∷ [])) q ∙ once_here c in
        let one = alone in
        let held_x : total (held x) s.views ≡ 1 = ap (λ y. total (held y) s.views) q ∙ one.0 in
        let done_x : total (done x) s.views ≡ 0 = ap (λ y. total (done y) s.views) q ∙ one.1 in
        let now_held : total (held x) (set s.views id w) ≡ 0 = omega arith in
        let now_done : total (done x) (set s.views id w) ≡ 1 = omega arith in
        let word : n ≡ t.puts_before + 0 = ap (λ y. get_or s.words (y + 1) 0) (sym q) ∙ old.counted ∙ ap (λ y. t.puts_before + y) done_x in
        let on : one_if r.running ≡ 1 = ap one_if running in
        let b = old.bounded in
        let f = k.rounds in
        let small : n + 1 < 18446744073709551616 = omega arith in
        let long = k.words in
        let some_word : c + 1 < length s.words = let l = c_below in omega arith in
        let stepped : get_or next (x + 1) 0 ≡ n + 1 =
        ap (λ y. get_or next (y + 1) 0) q ∙ get_or-set_same s.words (c + 1) ((n + 1) % 18446744073709551616) 0 some_word ∙ mod-eq_of_lt small in
        let wide = k.homes in
        let home : get_elem? (set s.homes c (some (Some piece))) x ≡ some (some (Some piece)) =
        ap (get_elem? (set s.homes c (some (Some piece)))) q ∙ set_here s.homes c (some (Some piece)) (let l = c_below in omega arith) in
        let state : state_at v c ≡ t = place_of r.cores c vacant t e_c in
        let ready : IsPiece core turns stem settled x t (total (done x) (set s.views id w)) piece =
        subst (λ (z : ℕ × CoreState × ℕ). IsPiece core turns stem settled z.0 z.1 z.2 piece) (λ i. (sym q i, state i, sym now_done i)) is_piece in
        record {
          counted = omega arith;
          bounded = b;
          there = λ _ _. (piece, home, ready);
          away = λ z. absurd (omega arith);
          empty = λ z. absurd (full_not_empty t.slot (d.full x t e) z);
        })
        (λ q.
        let zero = not_here x c q in
        let other : get_or next (x + 1) 0 ≡ get_or s.words (x + 1) 0 = get_or-set_other s.words (c + 1) (x + 1) ((n + 1) % 18446744073709551616) 0 (λ y. q (omega arith)) in
        untouched core turns stem settled r x t _ _ _ _ _ _ _ _ (omega arith) (omega arith) other (set_else s.homes c x (some (Some piece)) q) old)

    put_holds : BoardHolds core turns stem settled r first_saw_none seats_out (record { words = next; homes = set s.homes c (some (Some piece)); views = set s.views id w })
    put_holds = record {
      words = length-set s.words (c + 1) ((n + 1) % 18446744073709551616) ∙ k.words;
      homes = length-set s.homes c (some (Some piece)) ∙ k.homes;
      few = k.few;
      rounds = k.rounds;
      draws = subst (λ (q : Bool × ℕ). DrawsHold q.0 r first_saw_none seats_out q.1 (set s.views id w)) (λ i. (sym running i, sym draw_word i)) drawing;
      slots_hold = holds;
    }

  pub puts_back : (slots id : ℕ) (me : Me (Option T) View) (c : ℕ) (piece : T) → me.0.claim ≡ c ∷ [] → c < slots → me.1 ≡ (c, Some piece) ∷ []
      → IsPiece core turns stem settled c (state_at me.0 c) 1 piece
      → Allows (Rule core turns stem settled) slots id me (c + 1) (λ n. (n + 1) % 18446744073709551616) (λ found. PutBack me)
  puts_back slots id me c piece claim c_below has is_piece s rule wide at _ =
      let v = me.0 in
      let a = rule.0 in
      let unspent = claiming_unspent v c claim in
      let same = knows a s.views rule.1 id v at unspent in
      let k = holds_for core turns stem settled a.round a.saw_none a.seats_out v.round a.saw_none a.seats_out s same refl refl rule.2 in
      let cores : length v.round.cores ≡ slots = sym k.homes ∙ wide in
      let w = after_put v in
      let led = leads_on a s.views rule.1 id v at w unspent refl refl refl in
      let kept = put_holds s id v at a.saw_none a.seats_out k c claim (omega arith) piece is_piece in
      let homes : put_back s.homes me.1 ≡ set s.homes c (some (Some piece)) = ap (put_back s.homes) has in
      let next = set s.words (c + 1) ((get_or s.words (c + 1) 0 + 1) % 18446744073709551616) in (
        w,
        gives,
        tt,
        subst (λ hs. Rule core turns stem settled (record { words = next; homes = hs; views = set s.views id w })) (sym homes)
            (led.0, led.1, holds_for core turns stem settled v.round a.saw_none a.seats_out led.0.round led.0.saw_none led.0.seats_out _ (led.2 ∙ sym same) (led.4 refl) led.3 kept),
        refl,
      )
