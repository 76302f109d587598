-- A reader of a capture, as a caller sees it. Own.
use Rattle.std.specs.Prelude.{ℕ, Bool}
use Rattle.trex_pcap.specs.declared.format.Format.{Format}

-- where a reader stands
pub record Place : Type 0 where
  -- how the capture spells its numbers
  pub format : Format
  -- how many records it gave
  pub records : ℕ
  -- it hasn't come to the end or to a fault
  pub live : Bool
