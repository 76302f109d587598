-- The first answer of several. Own.
use Rattle.std.specs.Prelude.{ℕ, zero, suc, Option, None}
use Rattle.std.specs.Option.{option_or}

-- the first of f 0, f 1 and so on, of n of them, that is there
abbrev pub first_of : {X : Type 0} → (ℕ → Option X) → ℕ → Option X
first_of f zero = None
first_of f (suc n) = option_or (first_of f n) (f n)
