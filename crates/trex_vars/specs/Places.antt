-- A division by a number that stays the same, as a product. Own, after Granlund and Montgomery, "Division by Invariant Integers using
-- Multiplication" (PLDI 1994).
use Rattle.std.specs.Prelude.{ℕ, ◌-◌, ◌/◌, ◌^◌}

-- how often a number of places fits into the greatest word
abbrev pub reciprocal_of : ℕ → ℕ
reciprocal_of places = (2 ^ 64 - 1) / places
