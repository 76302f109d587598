-- The seat of a worker, draw by draw.
use Rattle.std.proofs.Common.{◌≡◌, ℕ, List, [], ◌∷◌, ◌++◌, refl, sym, ap, subst, ◌∙◌, Option, append_assoc}
use mathlib.Core.List.{append-nil}
use Rattle.trex_claims.specs.declared.view.View.{View}
use Rattle.trex_claims.specs.Boards.{Me}
use Rattle.trex_claims.specs.Moves.{DrewCore, after_claim, after_put}
use Rattle.trex_crew.specs.Gates.{HasEntered}
use Rattle.trex_crew.specs.Workers.{MayDraw, Worked}
use Rattle.trex_crew.proofs.EntryLemmas.{entered_next, entered_two}

module _ {T : Type 0} (core turns : T → ℕ) (stem : T → List (List ℕ)) (settled : T → Type 0) (slots c : ℕ) (me drawn after : Me (Option T) View)
    (drew : DrewCore core turns stem settled slots c me drawn) (put : after ≡ (after_put drawn.0, [])) where
  -- after a core was drawn and put back
  pub after_is : after ≡ (after_put (after_claim me.0 c), [])
  after_is = put ∙ ap (λ (m : Me (Option T) View). let n : Me (Option T) View = (after_put m.0, []) in n) drew.seat

  pub may_draw_on : (base : ℕ) → MayDraw base me → MayDraw base after
  may_draw_on base ready =
      let seat : Me (Option T) View = (after_put (after_claim me.0 c), []) in
      let on : MayDraw base seat = record { open_round = ready.open_round; base_is = ready.base_is; free = (refl, refl); no_none_yet = ready.no_none_yet; turns = ready.turns } in
      subst (λ m. MayDraw base m) (sym after_is) on

  pub worked_on : {G : Type 0} (entries : G → Option (List (ℕ × ℕ))) (round : ℕ) (a b d : G) (before : List ℕ) → Worked entries round (a ∷ []) (b ∷ []) before me.0.done
      → HasEntered (entries b) (entries d) round c → Worked entries round (a ∷ []) (d ∷ []) before after.0.done
  worked_on entries round a b d before worked entered =
      (c ∷ worked.0, ap (λ m. m.0.done) after_is ∙ ap (λ l. c ∷ l) worked.1, entered_next entries worked.0 c round a b d worked.2 entered)

-- two parts of the gates, by two seats
pub worked_two : {G : Type 0} (entries : G → Option (List (ℕ × ℕ))) (round : ℕ) (left right left' right' : List G) (first other before after : List ℕ)
    → first ≡ [] → Worked entries round left left' first other → Worked entries round right right' before after
    → Worked entries round (left ++ right) (left' ++ right') before (other ++ after)
worked_two entries round left right left' right' first other before after new one two = (
  one.0 ++ two.0,
  ap (λ l. l ++ after) (one.1 ∙ ap (λ l. one.0 ++ l) new ∙ append-nil one.0) ∙ ap (λ l. one.0 ++ l) two.1 ∙ sym (append_assoc one.0 two.0 before),
  entered_two entries (λ n. n) round one.0 two.0 left right left' right' one.2 two.2,
)
