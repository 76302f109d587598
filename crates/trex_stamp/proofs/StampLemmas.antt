-- The length of a latency header.
use Rattle.std.proofs.Common.{◌≡◌, ℕ, length, refl}
use Rattle.trex_stamp.specs.declared.header.Stamp.{Stamp}
use Rattle.trex_stamp.specs.declared.header.Version.{Version}
use Rattle.trex_stamp.specs.declared.header.Version.TheVariants.{One, Two}
use Rattle.trex_stamp.specs.Stamp.{size_of, stamp_bytes}

-- a header has its version's length
pub length-stamp_bytes : (s : Stamp) → length (stamp_bytes s) ≡ size_of s.version
length-stamp_bytes s = by_version s.version s.flow s.sequence s.time
  where
    by_version : (v : Version) (flow sequence time : ℕ) → length (stamp_bytes (record { version = v; flow = flow; sequence = sequence; time = time })) ≡ size_of v
    by_version One flow sequence time = refl
    by_version Two flow sequence time = refl
