-- A wire, as a caller sees it: what it holds of the records that it was sent. Own.
use Rattle.std.specs.Prelude.{◌≡◌, ℕ, ◌*◌, List, length}
use Rattle.rand_pcg.specs.Lcg.{Lcg}
use Rattle.trex_io.specs.Seen.{Seen}
use Rattle.trex_vars.specs.Value.{stands_at}
use Rattle.trex_wire.specs.declared.lanes.Due.{Due}
use Rattle.trex_wire.specs.declared.spec.WireSpec.{WireSpec}
use Rattle.trex_wire.specs.Lanes.{lane, plain_of}
use Rattle.trex_wire.specs.Wired.{bytes_of, with_copies}

-- what a wire holds
pub record Sent : Type 0 where
  -- what it is asked
  pub ask : WireSpec
  -- where its words stand
  pub generator : Lcg
  -- how many records it was sent
  pub sent : ℕ
  -- the first copies of records that count for a flow, and the second ones
  pub first : List Due
  pub second : List Due
  -- how many copies the other records have
  pub plain : ℕ
  -- how many records have no copy, and two
  pub lost : ℕ
  pub copied : ℕ
  -- the captured bytes of all copies
  pub bytes : ℕ

-- What a wire holds is that of these records, of which three words each were drawn.
pub record Carries (s : Sent) (rs : List Seen) : Type 0 where
  pub generator : s.generator ≡ stands_at s.ask.seed 0 (3 * length rs)
  pub sent : s.sent ≡ length rs
  pub first : s.first ≡ lane s.ask 0 0 rs
  pub second : s.second ≡ lane s.ask 1 0 rs
  pub plain : s.plain ≡ plain_of s.ask 0 rs
  pub lost : s.lost ≡ with_copies 0 s.ask 0 rs
  pub copied : s.copied ≡ with_copies 2 s.ask 0 rs
  pub bytes : s.bytes ≡ bytes_of s.ask 0 rs

-- what a wire holds is that of some records
abbrev pub IsCarried : Sent → Type 0
IsCarried s = (rs : List Seen) × Carries s rs
