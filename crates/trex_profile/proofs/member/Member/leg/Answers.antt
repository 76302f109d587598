use Rattle.trex_profile.proofs.Periods.{period-timed}
use Rattle.trex_profile.specs.Member.{member_stream}
use Rattle.trex_profile.proofs.member.Member.leg.Goals as goal

pub returns : goal.returns
returns c = rw (period-timed (member_stream c.args.self.now) _ c.args.self.now.timed)
