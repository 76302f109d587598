-- A packet as a capture shows it (pcap 2.4, packet record).
use Rattle.std.specs.Prelude.{ℕ, List}

-- a record of a capture
pub record Seen : Type 0 where
  -- its time in nanoseconds since 1970
  pub time : ℕ
  -- the captured bytes, which may be fewer than the packet had
  pub bytes : List ℕ
  -- how many bytes the packet had
  pub original : ℕ
