-- A source and a sink in memory, as a caller sees them. Own.
use Rattle.std.specs.Prelude.{ℕ, ◌+◌, ◌-◌, ◌^◌, min, List}

-- a source in memory
pub record MemReads : Type 0 where
  -- the bytes that it has left
  pub left : List ℕ
  -- the most that a call gives
  pub per_call : ℕ
  -- the numbers of the calls that fail, counted from 1
  pub failing : List ℕ
  -- the number of the last call
  pub calls : ℕ
  -- how often it failed
  pub faults : ℕ

-- a sink in memory
pub record MemWrites : Type 0 where
  -- the bytes that it holds
  pub held : List ℕ
  -- the most that it can hold
  pub room : ℕ
  -- the most that a call takes
  pub per_call : ℕ
  -- the numbers of the calls that fail, counted from 1
  pub failing : List ℕ
  -- the number of the last call
  pub calls : ℕ
  -- how often it failed
  pub faults : ℕ

-- a count that went up by one, or stands at the last value of a u64
abbrev pub counted : ℕ → ℕ
counted n = min (n + 1) (2 ^ 64 - 1)

-- the least of three numbers
abbrev pub least : ℕ → ℕ → ℕ → ℕ
least a b c = min (min a b) c
