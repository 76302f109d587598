-- What is counted of a run's packets as they go by. Own.
use Rattle.std.specs.Prelude.{List, length, sum_by}
use Rattle.trex_merge.specs.Frames.{Frame}
use Rattle.trex_sum.specs.Checksum.{sum_of, fold_of}
use Rattle.trex_run.specs.declared.counts.Counts.{Counts}
use Rattle.trex_run.specs.Capture.{capture_text}

-- how many packets there are, of how many bytes, and the folded sum of their capture, whose times count from 1970 (RFC 1071, section 1)
abbrev pub counts_of : List Frame → Counts
counts_of frames = record {
  packets = length frames;
  bytes = sum_by (λ frame. length frame.bytes) frames;
  sum = fold_of (sum_of (capture_text 0 frames));
}
