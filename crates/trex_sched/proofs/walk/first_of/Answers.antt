use Rattle.std.proofs.Common.{sym, ◌∙◌}
use Rattle.trex_sched.specs.Chain.{chain_of}
use Rattle.trex_sched.proofs.Remaining.{whole_none, whole_some}
use Rattle.trex_sched.proofs.walk.first_of.Goals as goal

pub returns-in-Some-clause-whole : goal.returns-in-Some-clause-whole
returns-in-Some-clause-whole c =
    c.seek.ensures.rest
    ∙ sym (whole_some (chain_of c.args.chain.now) c.args.core c.args.cores c.args.duration c.in-Some.run' c.requires.chain (sym c.in-Some.ensures))

pub returns-in-None-clause-whole : goal.returns-in-None-clause-whole
returns-in-None-clause-whole c = sym (whole_none (chain_of c.args.chain.now) c.args.core c.args.cores c.args.duration c.requires.chain (sym c.in-None.ensures))
