-- Lists of numbers by what is among them: one more number, the greatest, and how many are missing.
use Rattle.std.proofs.Common.{◌≡◌, ℕ, zero, suc, ◌+◌, ◌<◌, ◌≤◌, max, Bool, true, false, not, ◌||◌, nat_eq, nat_lt, List, [], ◌∷◌, length, refl, sym, ap, ◌∙◌, subst, arith, inl, inr, count_by, if◌then◌else◌}
use Rattle.std.proofs.Math.Bool.{or_comm, or_assoc}
use Rattle.std.proofs.lemmas.Bool.{cases_lt, lt-ltb, le-ltb, eq-eqb, ne_eqb}
use Rattle.std.proofs.lemmas.List.Sums.{sum_by-cons}
use Rattle.std.specs.BTreeSet.{insert_key}
use Rattle.std.specs.List.{AllByRecursion, list_any, range_with_len}
use Rattle.std.specs.Ordering.{nat_cmp}
use Rattle.trex_stats.specs.Arrivals.{greatest_of, missing_of}
use Rattle.trex_stats.specs.Ranges.{has, Rises}
use Rattle.trex_stats.proofs.Spans.{cmp_less, cmp_same, cmp_more, has_below_all, Rises-from}

-- ---- one more number

or_last : (a b c : Bool) → (a || (b || c)) ≡ ((b || c) || a)
or_last a b c = or_comm a (b || c)

or_twice : (a b : Bool) → (a || b) ≡ ((a || b) || a)
or_twice true b = refl
or_twice false true = refl
or_twice false false = refl

-- whether a number is there after another was put in
pub has-insert : (xs : List ℕ) (n q : ℕ) → has (insert_key nat_cmp xs n) q ≡ (has xs q || nat_eq q n)
has-insert [] n q = or_comm (nat_eq q n) false
has-insert (x ∷ xs) n q =
    elim (cases_lt n x) [
      | inl less ↦ rw (cmp_less n x less) (or_last (nat_eq q n) (nat_eq q x) (has xs q))
      | inr not_less ↦ elim (cases_lt x n) [
        | inl more ↦ rw (cmp_more n x more) (ap (λ b. nat_eq q x || b) (has-insert xs n q) ∙ sym (or_assoc (nat_eq q x) (has xs q) (nat_eq q n)))
        | inr not_more ↦
            let same : n ≡ x = omega arith in
            rw (cmp_same n x same, same) (or_twice (nat_eq q x) (has xs q))
      ]
    ]

-- ---- lists with the same numbers

pub both_ways : (a b : Bool) → (a ≡ true → b ≡ true) → (b ≡ true → a ≡ true) → a ≡ b
both_ways true b to from = sym (to refl)
both_ways false true to from = from refl
both_ways false false to from = refl

pub here_or_there : (a b : Bool) → a ≡ false → (a || b) ≡ true → b ≡ true
here_or_there true b absent both = cc
here_or_there false b absent both = both

any_there : (p : ℕ → Bool) (x : ℕ) (ys : List ℕ) → has ys x ≡ true → p x ≡ true → list_any p ys ≡ true
any_there p x [] there passes = cc
any_there p x (y ∷ ys) there passes =
    elim (cases_lt x y) [
      | inl less ↦ rw (any_there p x ys (here_or_there (nat_eq x y) (has ys x) (ne_eqb x y (omega arith)) there) passes) (or_comm (p y) true)
      | inr not_less ↦ elim (cases_lt y x) [
        | inl more ↦ rw (any_there p x ys (here_or_there (nat_eq x y) (has ys x) (ne_eqb x y (omega arith)) there) passes) (or_comm (p y) true)
        | inr not_more ↦
            let same : x ≡ y = omega arith in
            rw (rw same at passes) refl
      ]
    ]

has_head : (x : ℕ) (xs : List ℕ) → has (x ∷ xs) x ≡ true
has_head x xs = rw (eq-eqb x x refl) refl

has_tail : (x q : ℕ) (xs : List ℕ) → has xs q ≡ true → has (x ∷ xs) q ≡ true
has_tail x q xs there = rw there (or_comm (nat_eq q x) true)

any_within : (p : ℕ → Bool) (xs ys : List ℕ) → ((q : ℕ) → has xs q ≡ true → has ys q ≡ true) → list_any p xs ≡ true → list_any p ys ≡ true
any_within p [] ys within any = cc
any_within p (x ∷ xs) ys within any =
    let here : (b : Bool) → b ≡ p x → list_any p ys ≡ true = λ b is. elim b as (λ c. c ≡ p x → list_any p ys ≡ true) [
      | true ↦ λ passes. any_there p x ys (within x (has_head x xs)) (sym passes)
      | false ↦ λ fails. any_within p xs ys (λ q there. within q (has_tail x q xs there)) (here_or_there (p x) (list_any p xs) (sym fails) any)
    ] is in
    here (p x) refl

-- a test passes somewhere in both or in neither
pub any_same : (p : ℕ → Bool) (xs ys : List ℕ) → ((q : ℕ) → has xs q ≡ has ys q) → list_any p xs ≡ list_any p ys
any_same p xs ys same =
    both_ways (list_any p xs) (list_any p ys)
    (any_within p xs ys (λ q there. sym (same q) ∙ there))
    (any_within p ys xs (λ q there. same q ∙ there))

-- ---- the greatest

greatest_le : (g : ℕ) (xs : List ℕ) → AllByRecursion (λ y. y ≤ g) xs → greatest_of xs ≤ g
greatest_le g [] all = omega arith
greatest_le g (x ∷ xs) (here, all) = omega (arith, greatest_le g xs all)

-- the number that is there and that no other exceeds
pub greatest_is : (g : ℕ) (xs : List ℕ) → has xs g ≡ true → AllByRecursion (λ y. y ≤ g) xs → greatest_of xs ≡ g
greatest_is g [] there all = cc
greatest_is g (x ∷ xs) there (here, all) =
    elim (cases_lt x g) [
      | inl less ↦ omega (arith, greatest_is g xs (here_or_there (nat_eq g x) (has xs g) (ne_eqb g x (omega arith)) there) all)
      | inr not_less ↦ omega (arith, greatest_le g xs all)
    ]

greatest_has : (x : ℕ) (xs : List ℕ) → has (x ∷ xs) (greatest_of (x ∷ xs)) ≡ true
greatest_has x [] =
    let only : max x 0 ≡ x = omega arith in
    rw only (has_head x [])
greatest_has x (y ∷ ys) =
    elim (cases_lt x (greatest_of (y ∷ ys))) [
      | inl more ↦
          let is : max x (greatest_of (y ∷ ys)) ≡ greatest_of (y ∷ ys) = omega arith in
          subst (λ g. has (x ∷ y ∷ ys) g ≡ true) (sym is) (has_tail x (greatest_of (y ∷ ys)) (y ∷ ys) (greatest_has y ys))
      | inr not_more ↦
          let is : max x (greatest_of (y ∷ ys)) ≡ x = omega arith in
          subst (λ g. has (x ∷ y ∷ ys) g ≡ true) (sym is) (has_head x (y ∷ ys))
    ]

all_from : (g : ℕ) (xs : List ℕ) → ((q : ℕ) → has xs q ≡ true → q ≤ g) → AllByRecursion (λ y. y ≤ g) xs
all_from g [] each = tt
all_from g (x ∷ xs) each = (each x (has_head x xs), all_from g xs (λ q there. each q (has_tail x q xs there)))

pub greatest_bounds : (xs : List ℕ) (q : ℕ) → has xs q ≡ true → q ≤ greatest_of xs
greatest_bounds [] q there = cc
greatest_bounds (x ∷ xs) q there =
    elim (cases_lt x q) [
      | inl less ↦ omega (arith, greatest_bounds xs q (here_or_there (nat_eq q x) (has xs q) (ne_eqb q x (omega arith)) there))
      | inr not_less ↦ omega arith
    ]

-- ---- how many are missing

count-cons : (p : ℕ → Bool) (x : ℕ) (xs : List ℕ) → count_by p (x ∷ xs) ≡ (if p x then 1 else 0) + count_by p xs
count-cons p x xs = sum_by-cons (λ y. if p y then 1 else 0) x xs

count_same : (p r : ℕ → Bool) (n a : ℕ) → ((k : ℕ) → a ≤ k → p k ≡ r k) → count_by p (range_with_len a n) ≡ count_by r (range_with_len a n)
count_same p r zero a same = refl
count_same p r (suc n) a same =
    count-cons p a (range_with_len (a + 1) n)
    ∙ ap (λ b. (if b then 1 else 0) + count_by p (range_with_len (a + 1) n)) (same a (omega arith))
    ∙ ap (λ c. (if r a then 1 else 0) + c) (count_same p r n (a + 1) (λ k le. same k (omega arith)))
    ∙ sym (count-cons r a (range_with_len (a + 1) n))

abbrev lacks : List ℕ → ℕ → Bool
lacks xs k = not (has xs k)

all_reach : (low n : ℕ) (ys : List ℕ) → AllByRecursion (λ y. y < low + suc n) ys → AllByRecursion (λ y. y < low + 1 + n) ys
all_reach low n [] all = tt
all_reach low n (y ∷ ys) (here, all) = (omega arith, all_reach low n ys all)

all_below : (g : ℕ) (ys : List ℕ) → AllByRecursion (λ y. y ≤ g) ys → AllByRecursion (λ y. y < 0 + (g + 1)) ys
all_below g [] all = tt
all_below g (y ∷ ys) (here, all) = (omega arith, all_below g ys all)

-- those that are missing from a range and those that are there make up the range
missing_and_there : (n low : ℕ) (xs : List ℕ) → Rises low xs → AllByRecursion (λ y. y < low + n) xs → count_by (lacks xs) (range_with_len low n) + length xs ≡ n
missing_and_there zero low [] up all = refl
missing_and_there zero low (x ∷ xs) (le, more) (here, all) = absurd (omega arith)
missing_and_there (suc n) low [] up all = omega (arith, count-cons (lacks []) low (range_with_len (low + 1) n), missing_and_there n (low + 1) [] tt tt)
missing_and_there (suc n) low (x ∷ xs) (le, more) (here, all) =
    let first = count-cons (lacks (x ∷ xs)) low (range_with_len (low + 1) n) in
    let further : (ys : List ℕ) → AllByRecursion (λ y. y < low + suc n) ys → AllByRecursion (λ y. y < low + 1 + n) ys = all_reach low n in
    elim (cases_lt low x) [
      | inl apart ↦
          let none : lacks (x ∷ xs) low ≡ true = ap not (has_below_all x low (x ∷ xs) (omega arith, more) apart) in
          let rest = missing_and_there n (low + 1) (x ∷ xs) (omega arith, more) (further (x ∷ xs) (here, all)) in
          omega (arith, rw none at first, rest)
      | inr touches ↦
          let same : x ≡ low = omega arith in
          let there : lacks (x ∷ xs) low ≡ false = ap not (subst (λ y. has (y ∷ xs) low ≡ true) (sym same) (has_head low xs)) in
          let later : count_by (lacks (x ∷ xs)) (range_with_len (low + 1) n) ≡ count_by (lacks xs) (range_with_len (low + 1) n) =
          count_same (lacks (x ∷ xs)) (lacks xs) n (low + 1) (λ k past. ap (λ b. not (b || has xs k)) (ne_eqb k x (omega arith))) in
          let rest = missing_and_there n (low + 1) xs (Rises-from (low + 1) (x + 1) xs (omega arith) more) (further xs all) in
          omega (arith, rw there at first, later, rest)
    ]

-- numbers that rise have as many gaps as the greatest is ahead of their count
pub gaps : (xs : List ℕ) (g : ℕ) → Rises 0 xs → has xs g ≡ true → AllByRecursion (λ y. y ≤ g) xs → (missing_of xs + length xs ≡ g + 1) × (0 < length xs)
gaps [] g up there all = cc
gaps (x ∷ xs) g up there all =
    let top : greatest_of (x ∷ xs) ≡ g = greatest_is g (x ∷ xs) there all in
    (rw top (missing_and_there (g + 1) 0 (x ∷ xs) up (all_below g (x ∷ xs) all)), omega arith)

-- lists with the same numbers have the same missing
pub missing_same : (xs ys : List ℕ) → ((q : ℕ) → has xs q ≡ has ys q) → missing_of xs ≡ missing_of ys
missing_same [] [] same = refl
missing_same [] (y ∷ ys) same = let there = same y ∙ has_head y ys in cc
missing_same (x ∷ xs) [] same = let there = sym (same x) ∙ has_head x xs in cc
missing_same (x ∷ xs) (y ∷ ys) same =
    let g = greatest_of (x ∷ xs) in
    let top : greatest_of (y ∷ ys) ≡ g =
    greatest_is g (y ∷ ys) (sym (same g) ∙ greatest_has x xs) (all_from g (y ∷ ys) (λ q there. greatest_bounds (x ∷ xs) q (same q ∙ there))) in
    count_same (lacks (x ∷ xs)) (lacks (y ∷ ys)) (g + 1) 0 (λ k le. ap not (same k)) ∙ ap (λ h. count_by (lacks (y ∷ ys)) (range_with_len 0 (h + 1))) (sym top)

pub none_above : (n : ℕ) (xs : List ℕ) → AllByRecursion (λ y. y ≤ n) xs → list_any (nat_lt n) xs ≡ false
none_above n [] all = refl
none_above n (x ∷ xs) (here, all) = rw (le-ltb n x here, none_above n xs all) refl

all_under : (g n : ℕ) (xs : List ℕ) → g ≤ n → AllByRecursion (λ y. y ≤ g) xs → AllByRecursion (λ y. y ≤ n) xs
all_under g n [] le all = tt
all_under g n (x ∷ xs) le (here, all) = (omega arith, all_under g n xs le all)

-- a greater number is there where the greatest is greater
pub late_by_greatest : (n g : ℕ) (xs : List ℕ) → has xs g ≡ true → AllByRecursion (λ y. y ≤ g) xs → nat_lt n g ≡ list_any (nat_lt n) xs
late_by_greatest n g xs there all =
    elim (cases_lt n g) [
      | inl less ↦ lt-ltb n g less ∙ sym (any_there (nat_lt n) g xs there (lt-ltb n g less))
      | inr not_less ↦ le-ltb n g not_less ∙ sym (none_above n xs (all_under g n xs not_less all))
    ]
