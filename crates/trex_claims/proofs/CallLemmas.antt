-- What the calls that take two steps come to.
use Rattle.std.proofs.Common.{◌≡◌, ◌⊎◌, ℕ, ◌+◌, ◌-◌, ◌%◌, ◌<◌, List, [], ◌∷◌, length, refl, sym, ap, subst, ◌∙◌, arith, Bool, true, false, Option, None, Some, get_or-set_same}
use Rattle.atomic_table.specs.Table.{Me, Allows, rest}
use Rattle.trex_claims.specs.declared.view.SlotState.{SlotState}
use Rattle.trex_claims.specs.declared.view.SlotState.TheVariants.{Empty, Out, Full}
use Rattle.trex_claims.specs.declared.view.CoreState.{CoreState}
use Rattle.trex_claims.specs.declared.view.View.{View}
use Rattle.trex_claims.specs.Views.{IsFirst, IsEmpty, IsFull}
use Rattle.trex_claims.specs.Board.{IsPiece, Rule}
use Rattle.trex_claims.specs.Moves.{PutBack, state_at, round_closed_if, round_closed, with_core, out, FitsAs, TookSlot, with_slot, ReturnedSlot}
use Rattle.trex_claims.proofs.TotalLemmas.{set_twice}
use Rattle.trex_claims.proofs.RoundEnds.{length_after}
use Rattle.trex_claims.proofs.Puts.{puts_back}
use Rattle.trex_claims.proofs.SlotLemmas.{takes_slot, returns_slot}

pub same_core : (c : ℕ) → c + 1 - 1 ≡ c
same_core c = omega arith

-- the one slot that is out with a seat
pub sole_slot : {S : Type 0} (l : List (ℕ × S)) (c : ℕ) (slot : S) → l ≡ (c, slot) ∷ [] → l ≡ (c, slot) ∷ rest l
sole_slot l c slot e = e ∙ ap (λ m. (c, slot) ∷ rest m) (sym e)

abbrev slot_of : {S : Type 0} → List (ℕ × Option S) → Option S
slot_of [] = None
slot_of (x ∷ xs) = x.1

-- no round is open afterwards
pub closed_off : (b : Bool) (v : View) → v.round.running ≡ b → (round_closed_if b v).round.running ≡ false
closed_off true v e = refl
closed_off false v e = e

pub closed_role : (b : Bool) (v : View) → (round_closed_if b v).role ≡ v.role
closed_role true v = refl
closed_role false v = refl

pub closed_length : (b : Bool) (v : View) → length (round_closed_if b v).round.cores ≡ length v.round.cores
closed_length true v = length_after v.done 0 v.round.cores
closed_length false v = refl

module _ {T : Type 0} (core turns : T → ℕ) (stem : T → List (List ℕ)) (settled : T → Type 0) where
  pub full_fits : (state : SlotState) (c : ℕ) (t : CoreState) (slot : Option T) → IsFull state → FitsAs core turns stem settled state c t slot
      → (piece : T) × (slot ≡ Some piece) × IsPiece core turns stem settled c t 0 piece
  full_fits Empty c t slot f h = absurd f
  full_fits Out c t slot f h = absurd f
  full_fits Full c t slot f h = h

  pub took_at : (slots c : ℕ) (before after : Me (Option T) View) → TookSlot core turns stem settled slots (c + 1 - 1) before after → TookSlot core turns stem settled slots c before after
  took_at slots c before after h = subst (λ n. TookSlot core turns stem settled slots n before after) (same_core c) h

  -- the two steps, at the turn word of the core
  pub first_step : (slots id : ℕ) (me : Me (Option T) View) (c : ℕ) → IsFirst me.0.role → me.0.claim ≡ [] → (me.0.round.running ≡ false) ⊎ (me.0.seats_out ≡ 0) → c < slots
      → IsFull (state_at (round_closed me.0) c).slot ⊎ IsEmpty (state_at (round_closed me.0) c).slot
      → Allows (Rule core turns stem settled) slots id me (c + 1) (λ n. n) (λ found. TookSlot core turns stem settled slots (c + 1 - 1) me)
  first_step slots id me c is_first free shut below at_home =
      subst (λ k. Allows (Rule core turns stem settled) slots id me (c + 1) (λ n. n) (λ found. TookSlot core turns stem settled slots k me)) (sym (same_core c))
      (takes_slot core turns stem settled slots id me c is_first free shut below at_home)

  pub last_step : (slots id : ℕ) (me : Me (Option T) View) (c : ℕ) (slot : Option T) → IsFirst me.0.role → me.0.round.running ≡ false → c < slots
      → me.1 ≡ (c, slot) ∷ [] → ((piece : T) → slot ≡ Some piece → core piece ≡ c)
      → Allows (Rule core turns stem settled) slots id me (c + 1) (λ n. n) (λ found. ReturnedSlot core turns stem settled (c + 1 - 1) me)
  last_step slots id me c slot is_first off below has its_core =
      subst (λ k. Allows (Rule core turns stem settled) slots id me (c + 1) (λ n. n) (λ found. ReturnedSlot core turns stem settled k me)) (sym (same_core c))
      (returns_slot core turns stem settled slots id me c slot is_first off below has its_core)

  -- what is known of a core doesn't depend on its slot being out
  state_again : (t : CoreState) (c : ℕ) (slot : Option T) → with_slot core turns stem settled (out t) ((c, slot) ∷ []) ≡ with_slot core turns stem settled t ((c, slot) ∷ [])
  state_again t c None = refl
  state_again t c (Some piece) = refl

  module _ (slots c : ℕ) (me took : Me (Option T) View) (empty : me.1 ≡ []) (below : c < slots) (r : TookSlot core turns stem settled slots c me took) where
    abbrev u : View
    u = round_closed me.0

    abbrev t : CoreState
    t = state_at u c

    -- the seat after the first of the two steps
    pub taken_is : took ≡ (with_core u c (out t), (c, r.slot) ∷ [])
    taken_is = r.seat ∙ ap (λ l. let m : Me (Option T) View = (with_core u c (out t), (c, r.slot) ∷ l) in m) empty

    module _ (slot : Option T) (swapped : Me (Option T) View) (is : swapped ≡ (took.0, (c, slot) ∷ rest took.1)) where
      -- the seat after the exchange
      pub swapped_is : swapped ≡ (with_core u c (out t), (c, slot) ∷ [])
      swapped_is = is ∙ ap (λ (m : Me (Option T) View). let n : Me (Option T) View = (m.0, (c, slot) ∷ rest m.1) in n) taken_is

      -- the seat after both steps
      pub returned_is : (after : Me (Option T) View) → ReturnedSlot core turns stem settled (c + 1 - 1) swapped after → after ≡ (with_core u c (with_slot core turns stem settled t ((c, slot) ∷ [])), [])
      returned_is after h =
          let here : ReturnedSlot core turns stem settled c swapped after = subst (λ n. ReturnedSlot core turns stem settled n swapped after) (same_core c) h in
          let long = closed_length me.0.round.running me.0 in
          let cores = r.cores in
          let c_below : c < length u.round.cores = omega arith in
          let mid = with_core u c (out t) in
          let found : state_at mid c ≡ out t = get_or-set_same u.round.cores c (out t) _ c_below in
          let new = with_slot core turns stem settled t ((c, slot) ∷ []) in
          let known : with_slot core turns stem settled (state_at mid c) ((c, slot) ∷ []) ≡ new = ap (λ x. with_slot core turns stem settled x ((c, slot) ∷ [])) found ∙ state_again t c slot in
          here
          ∙ ap (λ (m : Me (Option T) View). let n : Me (Option T) View = (with_core m.0 c (with_slot core turns stem settled (state_at m.0 c) m.1), rest m.1) in n) swapped_is
          ∙ ap (λ x. let n : Me (Option T) View = (with_core mid c x, []) in n) known
          ∙ ap (λ l. let n : Me (Option T) View = (record u { round = record u.round { cores = l } }, []) in n) (set_twice u.round.cores c (out t) new)

      -- no round is open then
      pub returned_off : (after : Me (Option T) View) → ReturnedSlot core turns stem settled (c + 1 - 1) swapped after → after.0.round.running ≡ false
      returned_off after h = ap (λ (m : Me (Option T) View). m.0.round.running) (returned_is after h) ∙ closed_off me.0.round.running me.0 refl

      -- the second step may be taken
      pub gives_back : (id : ℕ) → IsFirst me.0.role → ((piece : T) → slot ≡ Some piece → core piece ≡ c)
          → Allows (Rule core turns stem settled) slots id swapped (c + 1) (λ n. n) (λ found. ReturnedSlot core turns stem settled (c + 1 - 1) swapped)
      gives_back id is_first its_core =
          let role : swapped.0.role ≡ me.0.role = ap (λ (m : Me (Option T) View). m.0.role) swapped_is ∙ closed_role me.0.round.running me.0 in
          let off : swapped.0.round.running ≡ false = ap (λ (m : Me (Option T) View). m.0.round.running) swapped_is ∙ closed_off me.0.round.running me.0 refl in
          last_step slots id swapped c slot (subst IsFirst (sym role) is_first) off below (ap (λ (m : Me (Option T) View). m.1) swapped_is) its_core

    -- the exchange finds what was in the slot
    pub found_is : (result : Option T) → took.1 ≡ (c, result) ∷ rest took.1 → FitsAs core turns stem settled t.slot c t result
    found_is result is =
        let held = ap (λ (m : Me (Option T) View). m.1) taken_is in
        let same : result ≡ r.slot = ap (slot_of {S = T}) (sym is ∙ held) in
        subst (λ slot. FitsAs core turns stem settled t.slot c t slot) (sym same) r.fits

  -- the piece may be put back, where the slot was taken
  pub puts_taken : (slots id : ℕ) (me swapped : Me (Option T) View) (c : ℕ) (piece : T) → me.0.claim ≡ c ∷ [] → c < slots → me.1 ≡ (c, None) ∷ []
      → IsPiece core turns stem settled c (state_at me.0 c) 1 piece → swapped ≡ (me.0, (c, Some piece) ∷ rest me.1)
      → Allows (Rule core turns stem settled) slots id swapped (c + 1) (λ n. (n + 1) % 18446744073709551616) (λ found. PutBack swapped)
  puts_taken slots id me swapped c piece claim below taken is_piece is =
      let view : swapped.0 ≡ me.0 = ap (λ (m : Me (Option T) View). m.0) is in
      let has : swapped.1 ≡ (c, Some piece) ∷ [] = ap (λ (m : Me (Option T) View). m.1) is ∙ ap (λ l. (c, Some piece) ∷ rest l) taken in
      let ready = subst (λ (v : View). IsPiece core turns stem settled c (state_at v c) 1 piece) (sym view) is_piece in
      puts_back core turns stem settled slots id swapped c piece (ap (λ (v : View). v.claim) view ∙ claim) below has ready
