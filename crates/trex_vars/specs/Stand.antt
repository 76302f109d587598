-- Where a core stands among the values of a variable. Own.
use Rattle.std.specs.Prelude.{ℕ}
use Rattle.trex_vars.specs.Variable.{Variable}

-- a variable, of how many cores one reads its values, and the packet number of the value that it reads
pub record Stand : Type 0 where
  pub variable : Variable
  pub cores : ℕ
  pub number : ℕ
