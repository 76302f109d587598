-- The ends between which the values of a variable lie. Own.
use Rattle.std.specs.Prelude.{ℕ, ◌≤◌, min, max, List, [], ◌∷◌}
use Rattle.std.specs.List.{fold}
use Rattle.trex_vars.specs.declared.value.VarValue.{VarValue}
use Rattle.trex_vars.specs.declared.value.VarValue.TheVariants.{One, Pair}
use Rattle.trex_vars.specs.Variable.{Variable, Counter, RandLimit, ListOf, Tuple}

-- the least of some numbers, 0 of none
abbrev pub least_of : List ℕ → ℕ
least_of [] = 0
least_of (first ∷ rest) = fold min first rest

-- the greatest of some numbers, 0 of none
abbrev pub greatest_of : List ℕ → ℕ
greatest_of [] = 0
greatest_of (first ∷ rest) = fold max first rest

-- the lower end: of a list its least value
abbrev pub least : Variable → VarValue
least (Counter op size init low high step seed position) = One low
least (RandLimit size low high limit seed position) = One low
least (ListOf op size step values seed position) = One (least_of values)
least (Tuple ip_min ip_max port_min port_max limit) = Pair ip_min port_min

-- the upper end: of a list its greatest value
abbrev pub greatest : Variable → VarValue
greatest (Counter op size init low high step seed position) = One high
greatest (RandLimit size low high limit seed position) = One high
greatest (ListOf op size step values seed position) = One (greatest_of values)
greatest (Tuple ip_min ip_max port_min port_max limit) = Pair ip_max port_max

-- a value lies between two ends of its kind
abbrev pub IsBetween : VarValue → VarValue → VarValue → Type 0
IsBetween (One low) (One value) (One high) = (low ≤ value) × (value ≤ high)
IsBetween (Pair low_ip low_port) (Pair ip port) (Pair high_ip high_port) =
    ((low_ip ≤ ip) × (ip ≤ high_ip)) × ((low_port ≤ port) × (port ≤ high_port))
IsBetween _ _ _ = ⊥
