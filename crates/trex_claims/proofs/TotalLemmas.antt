-- Sums over lists that change at one place, and how often a core stands in a list.
use Rattle.std.proofs.Common.{◌≡◌, ◌≢◌, ℕ, zero, suc, ◌+◌, ◌<◌, ◌≤◌, List, [], ◌∷◌, ◌++◌, length, get_or, set, refl, sym, ap, ◌∙◌, arith}
use Rattle.std.proofs.lemmas.Bool.Decides.{nat_tests}
use mathlib.Core.Option.{some, some-injective, some-ne-none}
use lib.ListN.{get_elem?}
use Rattle.trex_claims.specs.Views.{total, times}
use Rattle.trex_claims.specs.Board.{below}

module _ {A : Type 0} where
  module _ (f : A → ℕ) where
    pub total_set : (l : List A) (i : ℕ) (v w : A) → get_elem? l i ≡ some v → total f (set l i w) + f v ≡ total f l + f w
    total_set [] i v w e = absurd (some-ne-none v (sym e))
    total_set (x ∷ xs) zero v w e = omega (arith, ap f (some-injective x v e))
    total_set (x ∷ xs) (suc i) v w e = omega (arith, total_set xs i v w e)

    pub total_snoc : (l : List A) (v : A) → total f (l ++ v ∷ []) ≡ total f l + f v
    total_snoc [] v = omega arith
    total_snoc (x ∷ xs) v = omega (arith, total_snoc xs v)

    pub part : (l : List A) (i : ℕ) (v : A) → get_elem? l i ≡ some v → f v ≤ total f l
    part [] i v e = absurd (some-ne-none v (sym e))
    part (x ∷ xs) zero v e = omega (arith, ap f (some-injective x v e))
    part (x ∷ xs) (suc i) v e = omega (arith, part xs i v e)

    pub total_none : (l : List A) → ((i : ℕ) (v : A) → get_elem? l i ≡ some v → f v ≡ 0) → total f l ≡ 0
    total_none [] h = refl
    total_none (x ∷ xs) h = omega (arith, h 0 x refl, total_none xs (λ i v e. h (suc i) v e))

    -- where the others come to nothing, a sum is the first one's part
    pub total_first : (l : List A) (a : A) → get_elem? l 0 ≡ some a → ((i : ℕ) (v : A) → i ≢ 0 → get_elem? l i ≡ some v → f v ≡ 0) → total f l ≡ f a
    total_first [] a e h = absurd (some-ne-none a (sym e))
    total_first (x ∷ xs) a e h = omega (arith, ap f (some-injective x a e), total_none xs (λ i v q. h (suc i) v (λ z. absurd (omega arith)) q))

  pub within : (l : List A) (i : ℕ) (v : A) → get_elem? l i ≡ some v → i < length l
  within [] i v e = absurd (some-ne-none v (sym e))
  within (x ∷ xs) zero v e = omega arith
  within (x ∷ xs) (suc i) v e = omega (arith, within xs i v e)

  pub at_place : (l : List A) (i : ℕ) (d : A) → i < length l → get_elem? l i ≡ some (get_or l i d)
  at_place [] i d h = absurd (omega arith)
  at_place (x ∷ xs) zero d h = refl
  at_place (x ∷ xs) (suc i) d h = at_place xs i d (omega arith)

  pub place_of : (l : List A) (i : ℕ) (d v : A) → get_elem? l i ≡ some v → get_or l i d ≡ v
  place_of [] i d v e = absurd (some-ne-none v (sym e))
  place_of (x ∷ xs) zero d v e = some-injective x v e
  place_of (x ∷ xs) (suc i) d v e = place_of xs i d v e

  -- what was found is written again
  pub set_loaded : (l : List A) (i : ℕ) (d : A) → set l i (get_or l i d) ≡ l
  set_loaded [] i d = refl
  set_loaded (x ∷ xs) zero d = refl
  set_loaded (x ∷ xs) (suc i) d = ap (λ l. x ∷ l) (set_loaded xs i d)

  pub set_twice : (l : List A) (i : ℕ) (v w : A) → set (set l i v) i w ≡ set l i w
  set_twice [] i v w = refl
  set_twice (x ∷ xs) zero v w = refl
  set_twice (x ∷ xs) (suc i) v w = ap (λ l. x ∷ l) (set_twice xs i v w)

pub once_here : (c : ℕ) → times c (c ∷ []) ≡ 1
once_here c = grind (arith, nat_tests)

pub not_here : (x c : ℕ) → x ≢ c → times x (c ∷ []) ≡ 0
not_here x c n = grind (arith, nat_tests)

pub times_append : (x : ℕ) (l m : List ℕ) → times x (l ++ m) ≡ times x l + times x m
times_append x [] m = omega arith
times_append x (y ∷ ys) m = omega (arith, times_append x ys m)

pub one_more : (base c x word : ℕ) → word ≡ base + c → below (base + x) word + times x (c ∷ []) ≡ below (base + x) (word + 1)
one_more base c x word e = grind (arith, nat_tests)

pub not_yet : (x n : ℕ) → n ≤ x → below x n ≡ 0
not_yet x n h = grind (arith, nat_tests)

pub sure : (x n : ℕ) → x < n → below x n ≡ 1
sure x n h = grind (arith, nat_tests)

pub at_most_one : (x n : ℕ) → below x n ≤ 1
at_most_one x n = grind (arith, nat_tests)

pub both_past : (x n m : ℕ) → x < n → x < m → below x n ≡ below x m
both_past x n m h k = sure x n h ∙ sym (sure x m k)
