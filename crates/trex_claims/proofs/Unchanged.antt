-- What steps leave alone.
use Rattle.std.proofs.Common.{◌≡◌, ℕ, ◌+◌, ◌≤◌, List, [], ◌∷◌, length, get_or, refl, sym, ap, subst, ◌∙◌, arith, Bool, true, false, Option}
use mathlib.Core.Option as maybe
use mathlib.Core.Option.{some}
use lib.ListN.{get_elem?}
use Rattle.atomic_table.specs.Table.{State}
use Rattle.trex_claims.specs.declared.view.SlotState.{SlotState}
use Rattle.trex_claims.specs.declared.view.SlotState.TheVariants.{Empty, Out, Full}
use Rattle.trex_claims.specs.declared.view.CoreState.{CoreState}
use Rattle.trex_claims.specs.declared.view.Round.{Round}
use Rattle.trex_claims.specs.declared.view.View.{View}
use Rattle.trex_claims.specs.Views.{total, IsFirst, IsEmpty, IsFull, held, done, drawn, empty_draws, empty_draws_left, spent}
use Rattle.trex_claims.specs.Board.{Led, OpenDraws, ClosedDraws, DrawsHold, SlotHolds, BoardHolds, Rule}
use Rattle.trex_claims.proofs.Seats.{is_lead}

pub full_not_empty : (w : SlotState) → IsFull w → IsEmpty w → ⊥
full_not_empty Empty f e = f
full_not_empty Out f e = f
full_not_empty Full f e = e

-- a seat of an open round isn't a joined one
pub running_unspent : (v : View) → v.round.running ≡ true → v ≡ spent → ⊥
running_unspent v running e = let q : true ≡ false = sym running ∙ ap (λ (u : View). u.round.running) e in cc

-- nor is one that claims a core
pub claiming_unspent : (v : View) (c : ℕ) → v.claim ≡ c ∷ [] → v ≡ spent → ⊥
claiming_unspent v c claim e =
    let q : length (c ∷ []) ≡ 0 = ap length (sym claim) ∙ ap (λ (u : View). length u.claim) e in
    absurd (omega arith)

pub open_draws : (r : Round) (saw_none : Bool) (seats_out word : ℕ) (views : List View) → r.running ≡ true → DrawsHold r.running r saw_none seats_out word views → OpenDraws r saw_none word views
open_draws r saw_none seats_out word views running d = subst (λ b. DrawsHold b r saw_none seats_out word views) running d

pub closed_draws : (r : Round) (saw_none : Bool) (seats_out word : ℕ) (views : List View) → r.running ≡ false → DrawsHold r.running r saw_none seats_out word views → ClosedDraws r seats_out word views
closed_draws r saw_none seats_out word views off d = subst (λ b. DrawsHold b r saw_none seats_out word views) off d

-- views with the same sums, of whom no more may draw past the last core
pub draws_on : (r : Round) (saw_none : Bool) (word : ℕ) (views views' : List View) → total drawn views' ≡ total drawn views → total empty_draws views' ≡ total empty_draws views
    → total empty_draws_left views' ≤ total empty_draws_left views → ((x : ℕ) → total (held x) views' + total (done x) views' ≡ total (held x) views + total (done x) views)
    → OpenDraws r saw_none word views → OpenDraws r saw_none word views'
draws_on r saw_none word views views' same_drawn same_empty less same d =
    let b = d.counted in
    let f = d.few_empty_draws in
    let g = d.few_drawn in
    record {
      base = d.base;
      counted = omega arith;
      few_empty_draws = omega arith;
      few_drawn = omega arith;
      past = d.past;
      full = d.full;
      once = λ x h. same x ∙ d.once x h;
      no_other = λ x h. same x ∙ d.no_other x h;
    }

module _ {T : Type 0} (core turns : T → ℕ) (stem : T → List (List ℕ)) (settled : T → Type 0) where
  pub untouched : (r : Round) (c : ℕ) (t : CoreState) (claims puts word : ℕ) (home : maybe.Option (maybe.Option (Option T))) (claims' puts' word' : ℕ) (home' : maybe.Option (maybe.Option (Option T)))
      → claims' ≡ claims → puts' ≡ puts → word' ≡ word → home' ≡ home
      → SlotHolds core turns stem settled r c t claims puts word home → SlotHolds core turns stem settled r c t claims' puts' word' home'
  untouched r c t claims puts word home claims' puts' word' home' a b d e old =
      subst (λ (q : ℕ × ℕ × ℕ × maybe.Option (maybe.Option (Option T))). SlotHolds core turns stem settled r c t q.0 q.1 q.2 q.3) (λ i. (sym a i, sym b i, sym d i, sym e i)) old

  pub holds_for : (r : Round) (saw_none : Bool) (seats_out : ℕ) (r' : Round) (saw_none' : Bool) (seats_out' : ℕ) (s : State (Option T) View) → r' ≡ r → saw_none' ≡ saw_none → seats_out' ≡ seats_out
      → BoardHolds core turns stem settled r saw_none seats_out s → BoardHolds core turns stem settled r' saw_none' seats_out' s
  holds_for r saw_none seats_out r' saw_none' seats_out' s a b c old =
      subst (λ (q : Round × Bool × ℕ). BoardHolds core turns stem settled q.0 q.1 q.2 s) (λ i. (sym a i, sym b i, sym c i)) old

  -- the rule, as the first seat knows it
  pub of_first : (s : State (Option T) View) (id : ℕ) (v : View) → Rule core turns stem settled s → get_elem? s.views id ≡ some v → IsFirst v.role
      → (id ≡ 0) × Led v s.views × BoardHolds core turns stem settled v.round v.saw_none v.seats_out s
  of_first s id v rule at is_first =
      let lead = is_lead rule.0 s.views rule.1 id v at is_first in (
        lead.0,
        subst (λ (u : View). Led u s.views) lead.1 rule.1,
        subst (λ (u : View). BoardHolds core turns stem settled u.round u.saw_none u.seats_out s) lead.1 rule.2,
      )

  -- a change of the views alone, in an open round
  pub viewed : (r : Round) (saw_none : Bool) (seats_out seats_out' : ℕ) (s : State (Option T) View) (views : List View) → r.running ≡ true
      → total drawn views ≡ total drawn s.views → total empty_draws views ≡ total empty_draws s.views → total empty_draws_left views ≤ total empty_draws_left s.views
      → ((x : ℕ) → total (held x) views ≡ total (held x) s.views) → ((x : ℕ) → total (done x) views ≡ total (done x) s.views)
      → BoardHolds core turns stem settled r saw_none seats_out s → BoardHolds core turns stem settled r saw_none seats_out' (record { words = s.words; homes = s.homes; views = views })
  viewed r saw_none seats_out seats_out' s views running same_drawn same_empty less same_held same_done k =
      let d = open_draws r saw_none seats_out (get_or s.words 0 0) s.views running k.draws in
      let same : (x : ℕ) → total (held x) views + total (done x) views ≡ total (held x) s.views + total (done x) s.views =
      λ x. let p = same_held x in let q = same_done x in omega arith in
      let now = draws_on r saw_none (get_or s.words 0 0) s.views views same_drawn same_empty less same d in
      record {
        words = k.words;
        homes = k.homes;
        few = k.few;
        rounds = k.rounds;
        draws = subst (λ b. DrawsHold b r saw_none seats_out' (get_or s.words 0 0) views) (sym running) now;
        slots_hold = λ x t e. untouched r x t _ _ _ _ _ _ _ _ (same_held x) (same_done x) refl refl (k.slots_hold x t e);
      }
