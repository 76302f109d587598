-- The end of a round, and the slots while no round is open.
use Rattle.std.proofs.Common.{◌≡◌, ⊎_elim, ℕ, zero, suc, ◌+◌, ◌<◌, ◌≤◌, List, [], ◌∷◌, length, get_or, set, refl, sym, ap, subst, ◌∙◌, arith, Bool, true, false, Option}
use Rattle.std.proofs.Math.ListN.{length-set}
use mathlib.Core.Logic.{dite}
use native.Mathlib.Decide.{dec_lt}
use mathlib.Core.Option as maybe
use mathlib.Core.Option.{none, some, some-injective, some-ne-none}
use lib.ListN.{get_elem?}
use Rattle.atomic_table.specs.Table.{State}
use Rattle.atomic_table.proofs.Lists.{at_set, set_here, set_else, set_again}
use Rattle.trex_claims.specs.declared.view.CoreState.{CoreState}
use Rattle.trex_claims.specs.declared.view.Round.{Round}
use Rattle.trex_claims.specs.declared.view.View.{View}
use Rattle.trex_claims.specs.Views.{total, times, one_if, held, done, drawn}
use Rattle.trex_claims.specs.Board.{Led, OpenDraws, ClosedDraws, DrawsHold, SlotHolds, BoardHolds, below}
use Rattle.trex_claims.specs.Moves.{turned_by, cores_after, round_closed_if, with_core}
use Rattle.trex_claims.proofs.TotalLemmas.{total_set, within, at_most_one, sure, not_yet}
use Rattle.trex_claims.proofs.Seats.{sole, leads_alone}
use Rattle.trex_claims.proofs.Unchanged.{open_draws, closed_draws, untouched}

pub length_after : (puts : List ℕ) (c : ℕ) (ts : List CoreState) → length (cores_after puts c ts) ≡ length ts
length_after puts c [] = refl
length_after puts c (t ∷ ts) = ap suc (length_after puts (c + 1) ts)

-- what is known of a core after the round
pub state_after : (puts : List ℕ) (c i : ℕ) (ts : List CoreState) (u : CoreState) → get_elem? (cores_after puts c ts) i ≡ some u
    → (t : CoreState) × (get_elem? ts i ≡ some t) × (u ≡ turned_by (times (c + i) puts) t)
state_after puts c i [] u e = absurd (some-ne-none u (sym e))
state_after puts c zero (t ∷ ts) u e =
    let z : c + 0 ≡ c = omega arith in
    (t, refl, sym (some-injective _ u e) ∙ ap (λ n. turned_by (times n puts) t) (sym z))
state_after puts c (suc i) (t ∷ ts) u e =
    let found = state_after puts (c + 1) i ts u e in
    let z : c + 1 + i ≡ c + suc i = omega arith in
    (found.0, found.1, found.2 ∙ ap (λ n. turned_by (times n puts) found.0) z)

module _ {T : Type 0} (core turns : T → ℕ) (stem : T → List (List ℕ)) (settled : T → Type 0) where
  -- a core of a round that has ended
  holds_turned : (r r' : Round) (c m : ℕ) (t : CoreState) (word : ℕ) (home : maybe.Option (maybe.Option (Option T))) → m ≤ 1 → r.running ≡ true → r'.running ≡ false → r'.rounds ≡ r.rounds
      → SlotHolds core turns stem settled r c t 0 m word home → SlotHolds core turns stem settled r' c (turned_by m t) 0 0 word home
  holds_turned r r' c zero t word home few on off same old =
      let a : one_if r.running ≡ 1 = ap one_if on in
      let b : one_if r'.running ≡ 0 = ap one_if off in
      let e = old.bounded in
      record { counted = old.counted; bounded = omega arith; there = old.there; away = old.away; empty = old.empty }
  holds_turned r r' c (suc n) t word home few on off same old =
      let a : one_if r.running ≡ 1 = ap one_if on in
      let b : one_if r'.running ≡ 0 = ap one_if off in
      let e = old.bounded in
      let w = old.counted in
      record {
        counted = omega arith;
        bounded = omega arith;
        there = λ f z.
            let found = old.there f z in
            let p = found.2 in
            let turned = p.turns_are in
            (found.0, found.1, record { core_is = p.core_is; turns_are = omega arith; stem_is = p.stem_is; settles = λ _. p.settles (omega arith) });
        away = old.away;
        empty = old.empty;
      }

  -- a round ends
  module _ (s : State (Option T) View) (v : View) (led : Led v s.views) (k : BoardHolds core turns stem settled v.round v.saw_none v.seats_out s) (running : v.round.running ≡ true)
      (free : v.claim ≡ []) (alone : v.seats_out ≡ 0) where
    abbrev w : View
    w = round_closed_if true v

    d : OpenDraws v.round v.saw_none (get_or s.words 0 0) s.views
    d = open_draws v.round v.saw_none v.seats_out (get_or s.words 0 0) s.views running k.draws

    led_on : Led w (set s.views 0 w)
    led_on = leads_alone v w s.views led alone led.is_first refl

    pub held_zero : (x : ℕ) → total (held x) s.views ≡ 0
    held_zero x = sole v s.views led (held x) refl alone ∙ ap (times x) free

    pub done_sole : (x : ℕ) → total (done x) s.views ≡ times x v.done
    done_sole x = sole v s.views led (done x) refl alone

    -- a core was put back once, or not
    few_puts : (x : ℕ) → x < length v.round.cores → times x v.done ≤ 1
    few_puts x h =
        let o = d.once x h in
        let p = held_zero x in
        let q = done_sole x in
        let m = at_most_one (v.round.base + x) (get_or s.words 0 0) in
        omega arith

    -- where the seat saw None, each core was put back once, and nothing else
    pub each_put : v.saw_none ≡ true → (x : ℕ) → times x v.done ≡ below x (length v.round.cores)
    each_put saw_none x =
        let past = d.past saw_none in
        let p = held_zero x in
        let q = done_sole x in
        dite (dec_lt x (length v.round.cores))
        (λ h.
        let o = d.once x h in
        let m = sure (v.round.base + x) (get_or s.words 0 0) (omega arith) in
        let n = sure x (length v.round.cores) h in
        omega arith)
        (λ h.
        let o = d.no_other x (omega arith) in
        let n = not_yet x (length v.round.cores) (omega arith) in
        omega arith)

    ended : BoardHolds core turns stem settled w.round w.saw_none w.seats_out (record { words = s.words; homes = s.homes; views = set s.views 0 w })
    ended =
        let long = length_after v.done 0 v.round.cores in
        let held_now : (x : ℕ) → total (held x) (set s.views 0 w) ≡ 0 = λ x. sole w (set s.views 0 w) led_on (held x) refl refl in
        let done_now : (x : ℕ) → total (done x) (set s.views 0 w) ≡ 0 = λ x. sole w (set s.views 0 w) led_on (done x) refl refl in
        record {
          words = k.words ∙ ap (λ n. n + 1) (sym long);
          homes = k.homes ∙ sym long;
          few = let f = k.few in omega arith;
          rounds = k.rounds;
          draws =
              let a = d.counted in
              let b = d.few_empty_draws in
              let e = d.few_drawn in
              let f = d.base in
              let g = k.few in
              record {
                word_below = omega arith;
                alone = refl;
                none_drawn = sole w (set s.views 0 w) led_on drawn refl refl;
                none = λ x. let p = held_now x in let q = done_now x in omega arith;
              };
          slots_hold = λ x u e.
              let found = state_after v.done 0 x v.round.cores u e in
              let here : 0 + x ≡ x = omega arith in
              let is : u ≡ turned_by (times x v.done) found.0 = found.2 ∙ ap (λ n. turned_by (times n v.done) found.0) here in
              let old = untouched core turns stem settled v.round x found.0 _ _ _ _ 0 (times x v.done) (get_or s.words (x + 1) 0) (get_elem? s.homes x)
              (sym (held_zero x)) (sym (done_sole x)) refl refl (k.slots_hold x found.0 found.1) in
              let few = few_puts x (within v.round.cores x found.0 found.1) in
              let new = holds_turned v.round w.round x (times x v.done) found.0 (get_or s.words (x + 1) 0) (get_elem? s.homes x) few running refl refl old in
              subst (λ (q : CoreState × ℕ × ℕ). SlotHolds core turns stem settled w.round x q.0 q.1 q.2 (get_or s.words (x + 1) 0) (get_elem? s.homes x))
              (λ i. (sym is i, sym (held_now x) i, sym (done_now x) i)) new;
        }

  -- the views and the board after the end of a round, or as they were
  pub closes_if : (b : Bool) (s : State (Option T) View) (v : View) → v.round.running ≡ b → Led v s.views → BoardHolds core turns stem settled v.round v.saw_none v.seats_out s → v.claim ≡ [] → v.seats_out ≡ 0
      → Led (round_closed_if b v) (set s.views 0 (round_closed_if b v))
      × BoardHolds core turns stem settled (round_closed_if b v).round (round_closed_if b v).saw_none (round_closed_if b v).seats_out (record { words = s.words; homes = s.homes; views = set s.views 0 (round_closed_if b v) })
      × ((round_closed_if b v).round.running ≡ false) × ((round_closed_if b v).seats_out ≡ 0) × (length (round_closed_if b v).round.cores ≡ length v.round.cores)
  closes_if true s v on led k free alone = (led_on s v led k on free alone, ended s v led k on free alone, refl, refl, length_after v.done 0 v.round.cores)
  closes_if false s v off led k free alone =
      let same : set s.views 0 v ≡ s.views = set_again s.views 0 v led.leads in (
        subst (λ l. Led v l) (sym same) led,
        subst (λ l. BoardHolds core turns stem settled v.round v.saw_none v.seats_out (record { words = s.words; homes = s.homes; views = l })) (sym same) k,
        off,
        alone,
        refl,
      )

  -- a core under another name
  holds_moved : (r : Round) (x : ℕ) (y : CoreState) (claims puts : ℕ) (words : List ℕ) (at : maybe.Option (maybe.Option (Option T))) (c : ℕ) (t : CoreState) (home : maybe.Option (Option T))
      → x ≡ c → t ≡ y → claims ≡ 0 → puts ≡ 0 → at ≡ some home → SlotHolds core turns stem settled r c t 0 0 (get_or words (c + 1) 0) (some home)
      → SlotHolds core turns stem settled r x y claims puts (get_or words (x + 1) 0) at
  holds_moved r x y claims puts words at c t home core_is state_is no_claims no_puts home_is holds =
      subst (λ (g : ℕ × CoreState × ℕ × ℕ × maybe.Option (maybe.Option (Option T))). SlotHolds core turns stem settled r g.0 g.1 g.2 g.3 (get_or words (g.0 + 1) 0) g.4)
      (λ i. (sym core_is i, state_is i, sym no_claims i, sym no_puts i, sym home_is i)) holds

  -- while no round is open, what is known of a core changes with its slot
  module _ (s : State (Option T) View) (v : View) (led : Led v s.views) (k : BoardHolds core turns stem settled v.round v.saw_none v.seats_out s) (off : v.round.running ≡ false)
      (alone : v.seats_out ≡ 0) (c : ℕ) (t : CoreState) (home : maybe.Option (Option T)) (c_below : c < length v.round.cores)
      (holds : SlotHolds core turns stem settled v.round c t 0 0 (get_or s.words (c + 1) 0) (some home)) where
    abbrev u : View
    u = with_core v c t

    pub changed_led : Led u (set s.views 0 u)
    changed_led = leads_alone v u s.views led alone led.is_first alone

    pub changed_holds : BoardHolds core turns stem settled u.round u.saw_none u.seats_out (record { words = s.words; homes = set s.homes c home; views = set s.views 0 u })
    changed_holds =
        let same : (f : View → ℕ) → f u ≡ f v → total f (set s.views 0 u) ≡ total f s.views = λ f e. let q = total_set f s.views 0 v u led.leads in omega arith in
        let long = length-set v.round.cores c t in
        let r = closed_draws v.round v.saw_none v.seats_out (get_or s.words 0 0) s.views off k.draws in
        let now : ClosedDraws u.round u.seats_out (get_or s.words 0 0) (set s.views 0 u) = record {
          word_below = r.word_below;
          alone = alone;
          none_drawn = same drawn refl ∙ r.none_drawn;
          none = λ x. let p = same (held x) refl in let q = same (done x) refl in let z = r.none x in omega arith;
        } in
        record {
          words = k.words ∙ ap (λ n. n + 1) (sym long);
          homes = length-set s.homes c home ∙ k.homes ∙ sym long;
          few = let f = k.few in omega arith;
          rounds = k.rounds;
          draws = subst (λ b. DrawsHold b u.round u.saw_none u.seats_out (get_or s.words 0 0) (set s.views 0 u)) (sym off) now;
          slots_hold = λ x y e.
              let p = same (held x) refl in
              let q = same (done x) refl in
              let z = r.none x in
              ⊎_elim
              (λ h.
              let here : get_elem? (set s.homes c home) x ≡ some home =
              ap (get_elem? (set s.homes c home)) h.0 ∙ set_here s.homes c home (let n = k.homes in let l = c_below in omega arith) in
              let held_now : total (held x) (set s.views 0 u) ≡ 0 = omega arith in
              let done_now : total (done x) (set s.views 0 u) ≡ 0 = omega arith in
              let moved = holds_moved v.round x y (total (held x) (set s.views 0 u)) (total (done x) (set s.views 0 u)) s.words (get_elem? (set s.homes c home) x) c t home
              h.0 h.1 held_now done_now here holds in
              record { counted = moved.counted; bounded = moved.bounded; there = moved.there; away = moved.away; empty = moved.empty })
              (λ h.
              let moved = untouched core turns stem settled v.round x y _ _ _ _ (total (held x) (set s.views 0 u)) (total (done x) (set s.views 0 u)) (get_or s.words (x + 1) 0) (get_elem? (set s.homes c home) x)
              p q refl (set_else s.homes c x home h.0) (k.slots_hold x y h.1) in
              record { counted = moved.counted; bounded = moved.bounded; there = moved.there; away = moved.away; empty = moved.empty })
              (at_set v.round.cores c x t y e);
        }
