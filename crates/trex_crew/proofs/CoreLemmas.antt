-- Lists that have each core below a number once.
use Rattle.std.proofs.Common.{◌≡◌, ℕ, zero, suc, ◌+◌, ◌<◌, List, [], ◌∷◌, ◌++◌, length, map, refl, sym, ap, subst, ◌∙◌, arith, zero-add, IsPermutation}
use Rattle.std.specs.List.{range_with_len}
use Rattle.std.proofs.lemmas.Bool.Decides.{nat_tests}
use Rattle.std.proofs.lemmas.List.Sorted.{IsPermutation-refl, IsPermutation-sym, IsPermutation-trans, IsPermutation-cons, IsPermutation-middle, IsPermutation-to_front}
use mathlib.Core.Logic.{dite}
use native.Mathlib.Decide.{ℕ_discrete}
use Rattle.trex_claims.specs.Views.{times}
use Rattle.trex_claims.specs.Board.{below}
use Rattle.trex_claims.proofs.TotalLemmas.{not_here, not_yet, once_here, sure, times_append}
use Rattle.trex_crew.specs.Orders.{AreInOrder}

-- a core that stands in a list stands between two parts of it
record IsSplit (core : ℕ) (cores : List ℕ) : Type 0 where
  pub front : List ℕ
  pub back : List ℕ
  pub is : cores ≡ front ++ core ∷ back

split : (core : ℕ) (cores : List ℕ) → 0 < times core cores → IsSplit core cores
split core [] some = absurd (omega arith)
split core (x ∷ xs) some =
    dite (ℕ_discrete x core)
    (λ e. record { front = []; back = xs; is = ap (λ n. n ∷ xs) e })
    (λ n.
    let none = not_here core x (λ e. n (sym e)) in
    let rest = split core xs (omega arith) in
    record { front = x ∷ rest.front; back = rest.back; is = ap (λ l. x ∷ l) rest.is })

-- a list in which no core stands is empty
none_stand : (cores : List ℕ) → ((core : ℕ) → times core cores ≡ 0) → cores ≡ []
none_stand [] none = refl
none_stand (x ∷ xs) none = let h = none x in let e = once_here x in absurd (omega arith)

-- numbers from a number on, and one more
pub range_snoc : (from count : ℕ) → range_with_len from (suc count) ≡ range_with_len from count ++ (from + count) ∷ []
range_snoc from zero = let e : from ≡ from + 0 = omega arith in ap (λ n. n ∷ []) e
range_snoc from (suc count) =
    let e : from + 1 + count ≡ from + suc count = omega arith in
    ap (λ l. from ∷ l) (range_snoc (from + 1) count ∙ ap (λ n. range_with_len (from + 1) count ++ n ∷ []) e)

-- a list in which each core below a number stands once, and no other, has these cores, in some order
pub each_core : (count : ℕ) (cores : List ℕ) → ((core : ℕ) → times core cores ≡ below core count) → IsPermutation cores (range_with_len 0 count)
each_core zero cores once =
    let none = none_stand cores (λ core. once core ∙ not_yet core 0 (omega arith)) in
    subst (λ l. IsPermutation l []) (sym none) (IsPermutation-refl [])
each_core (suc count) cores once =
    let last = once count in
    let one = sure count (suc count) (omega arith) in
    let parts = split count cores (omega arith) in
    let rest = each_core count (parts.front ++ parts.back) (λ core.
    let all = once core in
    let is = ap (times core) parts.is in
    let apart = times_append core parts.front (count ∷ parts.back) in
    let behind = times_append core (count ∷ []) parts.back in
    let together = times_append core parts.front parts.back in
    let step = one_below core count in
    omega arith) in
    subst (λ l. IsPermutation l (range_with_len 0 (suc count))) (sym parts.is)
    (subst (IsPermutation (parts.front ++ count ∷ parts.back)) (sym (range_snoc 0 count ∙ ap (λ n. range_with_len 0 count ++ n ∷ []) (zero-add count)))
    (IsPermutation-trans _ _ _ (IsPermutation-middle parts.front count parts.back)
    (IsPermutation-trans _ _ _ (IsPermutation-cons count _ _ rest) (IsPermutation-sym _ _ (IsPermutation-to_front (range_with_len 0 count) count)))))
  where
    one_below : (core count : ℕ) → below core (suc count) ≡ below core count + times core (count ∷ [])
    one_below core count = grind (arith, nat_tests)

-- the cores of works in order
pub cores_in_order : {T : Type 0} (core_of : T → ℕ) (place : ℕ) (works : List T) → AreInOrder core_of place works → map core_of works ≡ range_with_len place (length works)
cores_in_order core_of place [] order = refl
cores_in_order core_of place (x ∷ xs) (here, rest) = let later = cores_in_order core_of (place + 1) xs rest in λ i. here i ∷ later i
