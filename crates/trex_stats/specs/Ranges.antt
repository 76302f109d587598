-- A set of numbers as the ranges in which they lie, each by its first and its last number. Own.
use Rattle.std.specs.Prelude.{◌≡◌, ℕ, ◌+◌, ◌-◌, ◌^◌, ◌<◌, ◌≤◌, Bool, false, ◌==◌, nat_eq, nat_le, if◌then◌else◌, List, [], ◌∷◌, ◌++◌, Option, Some, None, unwrap_or}
use Rattle.std.specs.List.{flat_map, list_any, range_with_len}
use Rattle.std.specs.BTreeMap.{is_at}
use Rattle.std.specs.BTreeSet.{insert_key}
use Rattle.std.specs.Map.{lookup}
use Rattle.std.specs.Ordering.{nat_cmp}

-- whether x is among the numbers
abbrev pub has : List ℕ → ℕ → Bool
has xs x = list_any (nat_eq x) xs

-- the numbers rise, and none is below `low`
abbrev pub Rises : ℕ → List ℕ → Type 0
Rises low [] = Unit {0}
Rises low (x ∷ xs) = (low ≤ x) × Rises (x + 1) xs

-- the numbers of a range, from its first to its last
abbrev pub span : ℕ × ℕ → List ℕ
span r = range_with_len r.0 (r.1 + 1 - r.0)

-- the numbers of ranges, one range after another
abbrev pub numbers : List (ℕ × ℕ) → List ℕ
numbers rs = flat_map span rs

-- none of the ranges is empty, they rise from `low` on, and between each two lies a number that is in neither
abbrev pub Ascend : ℕ → List (ℕ × ℕ) → Type 0
Ascend low [] = Unit {0}
Ascend low (r ∷ rs) = (low ≤ r.0) × (r.0 ≤ r.1) × (r.1 < 2 ^ 64) × Ascend (r.1 + 2) rs

-- ranges, and one behind them where there is one
abbrev pub with_tail : List (ℕ × ℕ) → Option (ℕ × ℕ) → List (ℕ × ℕ)
with_tail rs None = rs
with_tail rs (Some r) = rs ++ r ∷ []

-- the last range that begins at a number or below it, where there is one
abbrev pub IsBelow : List (ℕ × ℕ) → ℕ → Option (ℕ × ℕ) → Type 0
IsBelow rs number None = Ascend (number + 1) rs
IsBelow rs number (Some r) = (front : List (ℕ × ℕ)) × (back : List (ℕ × ℕ)) × (rs ≡ front ++ r ∷ back) × (r.0 ≤ number) × Ascend (number + 1) back

-- whether that range reaches the number
abbrev pub reaches : Option (ℕ × ℕ) → ℕ → Bool
reaches None number = false
reaches (Some r) number = nat_le number r.1

-- where that range begins, if it ends just before the number; else the number itself
abbrev pub joined_before : Option (ℕ × ℕ) → ℕ → ℕ
joined_before None number = number
joined_before (Some r) number = if r.1 + 1 == number then r.0 else number

-- where the range that begins just after a number ends; the number itself, where none does
abbrev pub joined_after : List (ℕ × ℕ) → ℕ → ℕ
joined_after rs number = unwrap_or (lookup (is_at (nat_cmp (number + 1))) rs) number

-- the ranges that hold one number more than others did
pub record Gains (old new : List (ℕ × ℕ)) (number : ℕ) : Type 0 where
  pub ascend : Ascend 0 new
  pub gains : numbers new ≡ insert_key nat_cmp (numbers old) number
