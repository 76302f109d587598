-- What the views of a board's seats come to, taken together. Own.
use Rattle.std.specs.Prelude.{ℕ, ◌+◌, ◌==◌, List, [], ◌∷◌, length, Bool, true, false, not, if◌then◌else◌}
use Rattle.trex_claims.specs.declared.view.Role.{Role}
use Rattle.trex_claims.specs.declared.view.Role.TheVariants.{First, Other, Spent}
use Rattle.trex_claims.specs.declared.view.SlotState.{SlotState}
use Rattle.trex_claims.specs.declared.view.SlotState.TheVariants.{Empty, Out, Full}
use Rattle.trex_claims.specs.declared.view.CoreState.{CoreState}
use Rattle.trex_claims.specs.declared.view.Round.{Round}
use Rattle.trex_claims.specs.declared.view.View.{View}

-- a number of each, added up
abbrev pub total : {A : Type 0} → (A → ℕ) → List A → ℕ
total f [] = 0
total f (x ∷ xs) = f x + total f xs

-- how often a core stands in a list
abbrev pub times : ℕ → List ℕ → ℕ
times core [] = 0
times core (x ∷ xs) = (if x == core then 1 else 0) + times core xs

-- 1 where it holds, else 0
abbrev pub one_if : Bool → ℕ
one_if true = 1
one_if false = 0

-- the first seat
abbrev pub IsFirst : Role → Type 0
IsFirst First = Unit {0}
IsFirst Other = ⊥
IsFirst Spent = ⊥

-- a seat that was split off and not joined
abbrev pub IsOther : Role → Type 0
IsOther First = ⊥
IsOther Other = Unit {0}
IsOther Spent = ⊥

-- a slot without a piece
abbrev pub IsEmpty : SlotState → Type 0
IsEmpty Empty = Unit {0}
IsEmpty Out = ⊥
IsEmpty Full = ⊥

-- a slot with a piece
abbrev pub IsFull : SlotState → Type 0
IsFull Empty = ⊥
IsFull Out = ⊥
IsFull Full = Unit {0}

-- 1 for that role, else 0
abbrev pub other_by : Role → ℕ
other_by First = 0
other_by Other = 1
other_by Spent = 0

-- 1 for a seat that was split off and not joined
abbrev pub other : View → ℕ
other v = other_by v.role

-- how often it claims the core
abbrev pub held : ℕ → View → ℕ
held core v = times core v.claim

-- how often it put the core back
abbrev pub done : ℕ → View → ℕ
done core v = times core v.done

-- how many numbers of cores it drew
abbrev pub drawn : View → ℕ
drawn v = length v.claim + length v.done

-- how often it drew a number past the last core
abbrev pub empty_draws : View → ℕ
empty_draws v = v.empty_draws

-- how often it may still do so, and the seats that may still be split off it: each seat does so once at most
abbrev pub empty_draws_left : View → ℕ
empty_draws_left v = v.seats_left + one_if (not v.saw_none)

-- no round was ever open
abbrev pub no_round : List CoreState → Round
no_round cores = record { running = false; base = 0; rounds = 0; cores = cores }

-- the view of a seat that was joined
abbrev pub spent : View
spent = record { role = Spent; round = no_round []; claim = []; done = []; saw_none = true; empty_draws = 0; seats_left = 0; seats_out = 0 }
