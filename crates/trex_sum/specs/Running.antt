-- The sum of bytes that go by in pieces.
use Rattle.std.specs.Prelude.{ℕ, ◌%◌, ◌==◌, List, length}
use Rattle.trex_sum.specs.declared.running.RunningSum.{RunningSum}
use Rattle.trex_sum.specs.Checksum.{sum_of}

-- what is kept of the bytes so far: their sum (RFC 1071, section 1), and whether their number is odd, so that the next byte ends a word
abbrev pub running : List ℕ → RunningSum
running bytes = record { sum = sum_of bytes; odd = length bytes % 2 == 1 }
