-- What the rule says of claims.
use Rattle.std.proofs.Common.{◌≡◌, ℕ, ◌+◌, ◌≤◌, List, [], length, get_or, sym, subst, ◌∙◌, arith, Bool, true, false, Option, Some}
use mathlib.Core.Logic.{dite}
use native.Mathlib.Decide.{dec_lt}
use mathlib.Core.Option.{some, some-injective}
use lib.ListN.{get_elem?}
use Rattle.atomic_table.specs.Table.{State}
use Rattle.trex_claims.specs.declared.view.CoreState.{CoreState}
use Rattle.trex_claims.specs.declared.view.Round.{Round}
use Rattle.trex_claims.specs.declared.view.View.{View}
use Rattle.trex_claims.specs.Views.{total, held}
use Rattle.trex_claims.specs.Board.{DrawsHold, IsPiece, BoardHolds, Led, Rule}
use Rattle.trex_claims.proofs.TotalLemmas.{at_most_one, sure, within}
use Rattle.trex_claims.proofs.Unchanged.{open_draws}
use Rattle.trex_claims.proofs.RoundEnds.{held_zero, done_sole, each_put}

few_claims : (b : Bool) (r : Round) (saw_none : Bool) (seats_out word : ℕ) (views : List View) → DrawsHold b r saw_none seats_out word views → (c : ℕ) → total (held c) views ≤ 1
few_claims true r saw_none seats_out word views d c =
    dite (dec_lt c (length r.cores))
    (λ h. let o = d.once c h in let m = at_most_one (r.base + c) word in omega arith)
    (λ h. let o = d.no_other c (omega arith) in omega arith)
few_claims false r saw_none seats_out word views d c = let o = d.none c in omega arith

module _ {T : Type 0} (core turns : T → ℕ) (stem : T → List (List ℕ)) (settled : T → Type 0) where
  pub claimed_once : (s : State (Option T) View) → Rule core turns stem settled s → (c : ℕ) → total (held c) s.views ≤ 1
  claimed_once s rule c =
      let a = rule.0 in
      few_claims a.round.running a.round a.saw_none a.seats_out (get_or s.words 0 0) s.views rule.2.draws c

  pub pieces_back : (s : State (Option T) View) → Rule core turns stem settled s → (first : View) → get_elem? s.views 0 ≡ some first → first.round.running ≡ true → first.seats_out ≡ 0
      → first.claim ≡ [] → first.saw_none ≡ true → (c : ℕ) (t : CoreState) → get_elem? first.round.cores c ≡ some t
      → (piece : T) × (get_elem? s.homes c ≡ some (some (Some piece))) × IsPiece core turns stem settled c t 1 piece
  pieces_back s rule first at running alone free saw_none c t state =
      let is : rule.0 ≡ first = some-injective rule.0 first (sym rule.1.leads ∙ at) in
      let led = subst (λ (u : View). Led u s.views) is rule.1 in
      let k = subst (λ (u : View). BoardHolds core turns stem settled u.round u.saw_none u.seats_out s) is rule.2 in
      let below = within first.round.cores c t state in
      let puts = done_sole core turns stem settled s first led k running free alone c ∙ each_put core turns stem settled s first led k running free alone saw_none c ∙ sure c (length first.round.cores) below in
      let d = open_draws first.round first.saw_none first.seats_out (get_or s.words 0 0) s.views running k.draws in
      let found = (k.slots_hold c t state).there (d.full c t state) (held_zero core turns stem settled s first led k running free alone c) in
      (found.0, found.1, subst (λ n. IsPiece core turns stem settled c t n found.0) puts found.2)
