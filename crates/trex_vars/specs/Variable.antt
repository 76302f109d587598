-- Variables as plain data. Own.
use Rattle.std.specs.Prelude.{ℕ, List}
use Rattle.trex_vars.specs.declared.spec.Op.{Op}
use Rattle.trex_vars.specs.declared.spec.VarSpec.{VarSpec}
use Rattle.trex_vars.specs.declared.spec.VarSpec.TheVariants.{Counter as CounterSpec, RandLimit as RandLimitSpec, List as ListSpec, Tuple as TupleSpec}

-- a variable
pub data Variable : Type 0 where
  -- op, size, init, min, max, step, seed, position
  Counter : Op → ℕ → ℕ → ℕ → ℕ → ℕ → ℕ → ℕ → Variable
  -- size, min, max, limit, seed, position
  RandLimit : ℕ → ℕ → ℕ → ℕ → ℕ → ℕ → Variable
  -- op, size, step, values, seed, position
  ListOf : Op → ℕ → ℕ → List ℕ → ℕ → ℕ → Variable
  -- ip_min, ip_max, port_min, port_max, limit
  Tuple : ℕ → ℕ → ℕ → ℕ → ℕ → Variable

-- a variable as it is held in memory
abbrev pub variable_of : VarSpec → Variable
variable_of (CounterSpec op size init min max step seed position) = Counter op size init min max step seed position
variable_of (RandLimitSpec size min max limit seed position) = RandLimit size min max limit seed position
variable_of (ListSpec op size step values seed position) = ListOf op size step values.items seed position
variable_of (TupleSpec ip_min ip_max port_min port_max limit) = Tuple ip_min ip_max port_min port_max limit
