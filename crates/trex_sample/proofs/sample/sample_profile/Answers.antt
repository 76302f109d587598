use Rattle.std.proofs.Common.{map}
use Rattle.trex_profile.specs.Stream.{raw_stream}
use Rattle.trex_sample.proofs.Kept.{not-refused}
use Rattle.trex_sample.proofs.sample.sample_profile.Goals as goal

pub unreachable-requires : goal.unreachable-requires
unreachable-requires c =
    not-refused c.args.seed c.args.streams (map raw_stream c.in_ok-raw.raw.streams.items) c.in-Err-Refused.field-0 c.in-Err-Refused.field-0-0 c.in_ok-raw.ensures.value
    c.in-Err-Refused.field-0-is c.in-Err-Refused.ensures
