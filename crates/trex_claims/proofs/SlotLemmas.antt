-- The two steps that take the slot of a core and give it back, by the first seat, keep the rule.
use Rattle.std.proofs.Common.{◌≡◌, ◌⊎◌, ⊎_elim, ℕ, zero, suc, ◌+◌, ◌<◌, List, [], ◌∷◌, length, get_or, set, refl, sym, ap, subst, ◌∙◌, arith, Bool, true, false, Option, None, Some}
use mathlib.Core.Option as maybe
use mathlib.Core.Option.{none, some}
use lib.ListN.{get_elem?}
use Rattle.atomic_table.specs.Table.{State, Me, takes, gives, put_back, Allows}
use Rattle.trex_claims.specs.declared.view.SlotState.{SlotState}
use Rattle.trex_claims.specs.declared.view.SlotState.TheVariants.{Empty, Out, Full}
use Rattle.trex_claims.specs.declared.view.CoreState.{CoreState}
use Rattle.trex_claims.specs.declared.view.Round.{Round}
use Rattle.trex_claims.specs.declared.view.View.{View}
use Rattle.trex_claims.specs.Views.{times, IsFirst, IsEmpty, IsFull}
use Rattle.trex_claims.specs.Board.{below, SlotHolds, BoardHolds, Rule}
use Rattle.trex_claims.specs.Moves.{vacant, state_at, turned_by, cores_after, round_closed_if, round_closed, with_core, out, FitsAs, TookSlot, with_slot, ReturnedSlot}
use Rattle.trex_claims.proofs.TotalLemmas.{at_place, set_loaded, set_twice}
use Rattle.trex_claims.proofs.Unchanged.{closed_draws, untouched, of_first}
use Rattle.trex_claims.proofs.RoundEnds.{closes_if, each_put, changed_led, changed_holds}

module _ {T : Type 0} (core turns : T → ℕ) (stem : T → List (List ℕ)) (settled : T → Type 0) where
  -- what is in a slot at home
  slot_at : (what : SlotState) (r : Round) (c : ℕ) (t : CoreState) (word : ℕ) (home : maybe.Option (maybe.Option (Option T))) → t.slot ≡ what → IsFull what ⊎ IsEmpty what
      → SlotHolds core turns stem settled r c t 0 0 word home → (slot : Option T) × (home ≡ some (some slot)) × FitsAs core turns stem settled what c t slot
  slot_at Empty r c t word home is at old = (None, old.empty (subst IsEmpty (sym is) tt), refl)
  slot_at Out r c t word home is at old = absurd (⊎_elim (λ z. z) (λ z. z) at)
  slot_at Full r c t word home is at old =
      let found = old.there (subst IsFull (sym is) tt) refl in
      (Some found.0, found.1, (found.0, refl, found.2))

  holds_taken : (r : Round) (c : ℕ) (t : CoreState) (word : ℕ) (home : maybe.Option (maybe.Option (Option T)))
      → SlotHolds core turns stem settled r c t 0 0 word home → SlotHolds core turns stem settled r c (out t) 0 0 word (some none)
  holds_taken r c t word home old = record { counted = old.counted; bounded = old.bounded; there = λ f _. absurd f; away = λ _. refl; empty = λ z. absurd z }

  holds_given : (r : Round) (c : ℕ) (t : CoreState) (word : ℕ) (home : maybe.Option (maybe.Option (Option T))) (slot : Option T) → ((piece : T) → slot ≡ Some piece → core piece ≡ c)
      → SlotHolds core turns stem settled r c t 0 0 word home → SlotHolds core turns stem settled r c (with_slot core turns stem settled t ((c, slot) ∷ [])) 0 0 word (some (some slot))
  holds_given r c t word home None its_core old = record { counted = old.counted; bounded = old.bounded; there = λ f _. absurd f; away = λ z. absurd (omega arith); empty = λ _. refl }
  holds_given r c t word home (Some piece) its_core old = record {
    counted = old.counted;
    bounded = old.bounded;
    there = λ _ _. (piece, refl, record { core_is = its_core piece refl; turns_are = omega arith; stem_is = refl; settles = λ z. absurd (omega arith) });
    away = λ z. absurd (omega arith);
    empty = λ z. absurd z;
  }

  -- a core while no round is open
  calm : (r : Round) (c : ℕ) (s : State (Option T) View) (saw_none : Bool) (seats_out : ℕ) → r.running ≡ false → c < length r.cores → BoardHolds core turns stem settled r saw_none seats_out s
      → SlotHolds core turns stem settled r c (get_or r.cores c vacant) 0 0 (get_or s.words (c + 1) 0) (get_elem? s.homes c)
  calm r c s saw_none seats_out off c_below k =
      let d = closed_draws r saw_none seats_out (get_or s.words 0 0) s.views off k.draws in
      let z = d.none c in
      untouched core turns stem settled r c (get_or r.cores c vacant) _ _ _ _ 0 0 (get_or s.words (c + 1) 0) (get_elem? s.homes c) (omega arith) (omega arith) refl refl
      (k.slots_hold c (get_or r.cores c vacant) (at_place r.cores c vacant c_below))

  pub takes_slot : (slots id : ℕ) (me : Me (Option T) View) (c : ℕ) → IsFirst me.0.role → me.0.claim ≡ [] → (me.0.round.running ≡ false) ⊎ (me.0.seats_out ≡ 0) → c < slots
      → IsFull (state_at (round_closed me.0) c).slot ⊎ IsEmpty (state_at (round_closed me.0) c).slot
      → Allows (Rule core turns stem settled) slots id me (c + 1) (λ n. n) (λ found. TookSlot core turns stem settled slots c me)
  takes_slot slots id me c is_first free shut c_below at_home s rule wide at _ =
      let v = me.0 in
      let first = of_first core turns stem settled s id v rule at is_first in
      let alone : v.seats_out ≡ 0 = ⊎_elim (λ off. (closed_draws v.round v.saw_none v.seats_out (get_or s.words 0 0) s.views off first.2.draws).alone) (λ z. z) shut in
      let cores : length v.round.cores ≡ slots = sym first.2.homes ∙ wide in
      let ended = closes_if core turns stem settled v.round.running s v refl first.1 first.2 free alone in
      let u = round_closed v in
      let mid : State (Option T) View = record { words = s.words; homes = s.homes; views = set s.views 0 u } in
      let states = ended.4 in
      let inside : c < length u.round.cores = omega arith in
      let t = state_at u c in
      let here = calm u.round c mid u.saw_none u.seats_out ended.2 inside ended.1 in
      let slot = slot_at t.slot u.round c t (get_or s.words (c + 1) 0) (get_elem? s.homes c) refl at_home here in
      let holds = holds_taken u.round c t (get_or s.words (c + 1) 0) (get_elem? s.homes c) here in
      let w = with_core u c (out t) in
      let led = changed_led core turns stem settled mid u ended.0 ended.1 ended.2 ended.3 c (out t) none inside holds in
      let kept = changed_holds core turns stem settled mid u ended.0 ended.1 ended.2 ended.3 c (out t) none inside holds in
      let views : set s.views id w ≡ set (set s.views 0 u) 0 w = ap (λ i. set s.views i w) first.0 ∙ sym (set_twice s.views 0 u w) in (
        w,
        takes c slot.0,
        slot.1,
        subst (λ (q : List ℕ × List View). Rule core turns stem settled (record { words = q.0; homes = set s.homes c none; views = q.1 }))
            (λ i. (sym (set_loaded s.words (c + 1) 0) i, sym views i)) (w, led, kept),
        record {
          cores = cores;
          each_once = λ running saw_none x. each_put core turns stem settled s v first.1 first.2 running free alone saw_none x ∙ ap (below x) cores;
          slot = slot.0;
          fits = slot.2;
          seat = refl;
        },
      )

  pub returns_slot : (slots id : ℕ) (me : Me (Option T) View) (c : ℕ) (slot : Option T) → IsFirst me.0.role → me.0.round.running ≡ false → c < slots
      → me.1 ≡ (c, slot) ∷ [] → ((piece : T) → slot ≡ Some piece → core piece ≡ c)
      → Allows (Rule core turns stem settled) slots id me (c + 1) (λ n. n) (λ found. ReturnedSlot core turns stem settled c me)
  returns_slot slots id me c slot is_first off c_below has its_core s rule wide at _ =
      let v = me.0 in
      let first = of_first core turns stem settled s id v rule at is_first in
      let alone = (closed_draws v.round v.saw_none v.seats_out (get_or s.words 0 0) s.views off first.2.draws).alone in
      let cores : length v.round.cores ≡ slots = sym first.2.homes ∙ wide in
      let below : c < length v.round.cores = omega arith in
      let t = state_at v c in
      let here = calm v.round c s v.saw_none v.seats_out off below first.2 in
      let new = with_slot core turns stem settled t me.1 in
      let is : new ≡ with_slot core turns stem settled t ((c, slot) ∷ []) = ap (with_slot core turns stem settled t) has in
      let given = holds_given v.round c t (get_or s.words (c + 1) 0) (get_elem? s.homes c) slot its_core here in
      let holds : SlotHolds core turns stem settled v.round c new 0 0 (get_or s.words (c + 1) 0) (some (some slot)) =
      subst (λ z. SlotHolds core turns stem settled v.round c z 0 0 (get_or s.words (c + 1) 0) (some (some slot))) (sym is) given in
      let w = with_core v c new in
      let led = changed_led core turns stem settled s v first.1 first.2 off alone c new (some slot) below holds in
      let kept = changed_holds core turns stem settled s v first.1 first.2 off alone c new (some slot) below holds in
      let views : set s.views id w ≡ set s.views 0 w = ap (λ i. set s.views i w) first.0 in
      let back : put_back s.homes me.1 ≡ set s.homes c (some slot) = ap (put_back s.homes) has in (
        w,
        gives,
        tt,
        subst (λ (q : List ℕ × List (maybe.Option (Option T)) × List View). Rule core turns stem settled (record { words = q.0; homes = q.1; views = q.2 }))
            (λ i. (sym (set_loaded s.words (c + 1) 0) i, sym back i, sym views i)) (w, led, kept),
        refl,
      )

slot_turned : (n : ℕ) (t : CoreState) → (turned_by n t).slot ≡ t.slot
slot_turned zero t = refl
slot_turned (suc n) t = refl

-- the end of a round keeps what is in a slot
slot_after : (puts : List ℕ) (c i : ℕ) (ts : List CoreState) → (get_or (cores_after puts c ts) i vacant).slot ≡ (get_or ts i vacant).slot
slot_after puts c i [] = refl
slot_after puts c zero (t ∷ ts) = slot_turned (times c puts) t
slot_after puts c (suc i) (t ∷ ts) = slot_after puts (c + 1) i ts

pub closed_slot : (b : Bool) (v : View) (c : ℕ) → (state_at (round_closed_if b v) c).slot ≡ (state_at v c).slot
closed_slot true v c = slot_after v.done 0 c v.round.cores
closed_slot false v c = refl

-- a full slot is full after the end of a round too
pub still_full : (v : View) (c : ℕ) → IsFull (state_at v c).slot → IsFull (state_at (round_closed v) c).slot
still_full v c full = subst IsFull (sym (closed_slot v.round.running v c)) full
