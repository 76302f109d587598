-- Works that are lent one after another, from the last one on.
use Rattle.std.proofs.Common.{◌≡◌, ℕ, ◌+◌, ◌<◌, ◌≤◌, List, [], ◌∷◌, ◌++◌, length, sym, ap, subst, ◌∙◌, arith, append_assoc, length-append}
use mathlib.Core.Logic.{dite}
use native.Mathlib.Decide.{ℕ_discrete}
use Rattle.trex_claims.specs.declared.view.View.{View}
use Rattle.trex_claims.specs.Views.{IsFull}
use Rattle.trex_claims.specs.Moves.{state_at}
use Rattle.trex_crew.specs.Orders.{AreInOrder}
use Rattle.trex_crew.specs.Rounds.{IsLent, AreLent}

-- a work's core is its place
pub core_at : {T : Type 0} (core_of : T → ℕ) (place : ℕ) (front : List T) (work : T) (back : List T) → AreInOrder core_of place (front ++ work ∷ back) → core_of work ≡ place + length front
core_at core_of place [] work back (here, rest) = let h = here in omega arith
core_at core_of place (x ∷ xs) work back (here, rest) = let h = core_at core_of (place + 1) xs work back rest in omega arith

-- the works that are left, and the one that is lent now
pub record IsNext {T : Type 0} (core_of : T → ℕ) (all left : List T) (work : T) (others : List T) (lent : List T) : Type 0 where
  pub whole : all ≡ others ++ work ∷ lent
  pub long : length left ≡ length others + 1
  pub core_is : core_of work ≡ length others
  pub inside : core_of work < length all

pub next_of : {T : Type 0} (core_of : T → ℕ) (all left : List T) (work : T) (others lent : List T) → AreInOrder core_of 0 all → all ≡ left ++ lent → left ≡ others ++ work ∷ []
    → IsNext core_of all left work others lent
next_of core_of all left work others lent order is popped =
    let whole : all ≡ others ++ work ∷ lent = is ∙ ap (λ l. l ++ lent) popped ∙ append_assoc others (work ∷ []) lent in
    let core = core_at core_of 0 others work lent (subst (λ l. AreInOrder core_of 0 l) whole order) in
    record {
      whole = whole;
      long = ap length popped ∙ length-append others (work ∷ []);
      core_is = omega arith;
      inside = let n = ap length whole ∙ length-append others (work ∷ lent) in omega arith;
    }

module _ {T : Type 0} (turns : T → ℕ) (stem : T → List (List ℕ)) (sound : T → Type 0) where
  pub still_lent : (v w : View) (core : ℕ) (works : List T) → ((other : ℕ) → core ≤ other → state_at w other ≡ state_at v other) → AreLent turns stem sound v core works → AreLent turns stem sound w core works
  still_lent v w core [] same lent = tt
  still_lent v w core (x ∷ xs) same (here, rest) =
      (subst (λ t. IsLent turns stem sound t x) (sym (same core (omega arith))) here, still_lent v w (core + 1) xs (λ other h. same other (omega arith)) rest)

  -- all slots are full
  pub lent_full : (v : View) (core : ℕ) (works : List T) (k : ℕ) → core ≤ k → k < core + length works → AreLent turns stem sound v core works → IsFull (state_at v k).slot
  lent_full v core [] k low high lent = absurd (omega arith)
  lent_full v core (x ∷ xs) k low high (here, rest) =
      dite (ℕ_discrete core k)
      (λ e. subst (λ n. IsFull (state_at v n).slot) e here.full)
      (λ n. lent_full v (core + 1) xs k (omega arith) (omega arith) rest)

-- one work more in order
pub in_order_snoc : {T : Type 0} (core_of : T → ℕ) (place : ℕ) (works : List T) (work : T) → AreInOrder core_of place works → core_of work ≡ place + length works
    → AreInOrder core_of place (works ++ work ∷ [])
in_order_snoc core_of place [] work order is = let h = is in (omega arith, tt)
in_order_snoc core_of place (x ∷ xs) work (here, rest) is = let h = is in (here, in_order_snoc core_of (place + 1) xs work rest (omega arith))
