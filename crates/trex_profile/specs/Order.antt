-- The first broken rule of a list (own).
use Rattle.std.specs.Prelude.{ℕ, ◌+◌, Bool, List, [], ◌∷◌, Option, None, Some, Result, Ok, Err, if◌then◌else◌}

-- a rule is broken where its test holds
abbrev pub broken : {E : Type 0} → E → Bool → Option E
broken rule test = if test then Some rule else None

-- the first of a list of rules that is broken
abbrev pub first : {E : Type 0} → List (Option E) → Option E
first [] = None
first (None ∷ rules) = first rules
first (Some e ∷ rules) = Some e

-- the first that is broken over the items of a list, each with its place
abbrev pub first_each : {A E : Type 0} → (ℕ → A → Option E) → ℕ → List A → Option E
first_each f i [] = None
first_each f i (x ∷ xs) = first (f i x ∷ first_each f (i + 1) xs ∷ [])

-- a refusal where a rule is broken, else the value
abbrev pub unless : {A E : Type 0} → Option E → A → Result A E
unless None x = Ok x
unless (Some e) x = Err e

infixl 10 ◌>>=◌
-- what follows from a value, unless there was a refusal
abbrev pub ◌>>=◌ : {A B E : Type 0} → Result A E → (A → Result B E) → Result B E
(Ok x) >>= f = f x
(Err e) >>= f = Err e
