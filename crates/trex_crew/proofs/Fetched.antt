-- Works that are fetched one after another, in order of core.
use Rattle.std.proofs.Common.{◌≡◌, ◌≢◌, ℕ, ◌+◌, ◌≤◌, List, [], ◌∷◌, ◌++◌, length, refl, sym, ap, subst, ◌∙◌, arith, Bool, true, false, Option, length-set}
use Rattle.trex_claims.specs.declared.view.CoreState.{CoreState}
use Rattle.trex_claims.specs.declared.view.View.{View}
use Rattle.trex_claims.specs.Views.{IsFirst}
use Rattle.trex_claims.specs.Board.{IsPiece}
use Rattle.trex_claims.specs.Boards.{Me}
use Rattle.trex_claims.specs.Moves.{round_closed, round_closed_if, with_core, state_at}
use Rattle.trex_claims.proofs.CallLemmas.{closed_role, closed_length}
use Rattle.trex_claims.proofs.CallerLemmas.{closed_still}
use Rattle.trex_crew.specs.Rounds.{IsCalm, ArePieces}

closed_claim : (b : Bool) (v : View) → v.claim ≡ [] → (round_closed_if b v).claim ≡ []
closed_claim true v free = refl
closed_claim false v free = free

closed_rounds : (b : Bool) (v : View) → (round_closed_if b v).round.rounds ≡ v.round.rounds
closed_rounds true v = refl
closed_rounds false v = refl

-- no round is open after a fetch
pub fetched_calm : {T : Type 0} (cores c : ℕ) (t : CoreState) (me after : Me (Option T) View) → IsFirst me.0.role → me.0.claim ≡ [] → length me.0.round.cores ≡ cores
    → after.0.round.running ≡ false → after ≡ (with_core (round_closed me.0) c t, []) → IsCalm cores me.0.round.rounds after
fetched_calm cores c t me after is_first free long closed is =
    let v = me.0 in
    let b = v.round.running in
    let role : after.0.role ≡ v.role = ap (λ m. m.0.role) is ∙ closed_role b v in
    record {
      first = subst IsFirst (sym role) is_first;
      closed = closed;
      free = (ap (λ m. m.0.claim) is ∙ closed_claim b v free, ap (λ m. m.1) is);
      cores_are = ap (λ m. length m.0.round.cores) is ∙ length-set (round_closed v).round.cores c t ∙ closed_length b v ∙ long;
      rounds_are = ap (λ m. m.0.round.rounds) is ∙ closed_rounds b v;
    }

module _ {T : Type 0} (core_of turns : T → ℕ) (stem : T → List (List ℕ)) (settled : T → Type 0) where
  -- one more
  pub pieces_snoc : (v : View) (core : ℕ) (works : List T) (work : T) (next : ℕ) → next ≡ core + length works → ArePieces core_of turns stem settled v core works
      → IsPiece core_of turns stem settled next (state_at v next) 0 work → ArePieces core_of turns stem settled v core (works ++ work ∷ [])
  pieces_snoc v core [] work next is pieces piece =
      let e : next ≡ core = omega arith in
      (subst (λ n. IsPiece core_of turns stem settled n (state_at v n) 0 work) e piece, tt)
  pieces_snoc v core (x ∷ xs) work next is (here, rest) piece = (here, pieces_snoc v (core + 1) xs work next (omega arith) rest piece)

-- what is known of the cores that are still to be fetched
pub still_ahead : (u v w : View) (core : ℕ) → w.round.running ≡ false → ((other : ℕ) → other ≢ core → state_at w other ≡ state_at (round_closed v) other)
    → ((other : ℕ) → core ≤ other → state_at (round_closed v) other ≡ state_at u other) → (other : ℕ) → core + 1 ≤ other → state_at (round_closed w) other ≡ state_at u other
still_ahead u v w core off others ahead other h = ap (λ x. state_at x other) (closed_still w off) ∙ others other (λ e. absurd (omega arith)) ∙ ahead other (omega arith)
