use Rattle.std.proofs.Common.{◌≡◌, ◌+◌, ◌-◌, length, Some, ⊎_elim, ◌∙◌, arith}
use Rattle.std.proofs.lemmas.Grind.{common_steps}
use Rattle.trex_profile.specs.Visits.{link_at}
use Rattle.trex_profile.proofs.Visiting.{link_at-get}
use Rattle.trex_profile.proofs.Noting.{noting-out, noting-own, noting-shared, noting-last, noting-next}
use Rattle.trex_profile.proofs.chains.reach.note.Goals as goal

pub returns-in-None-clause-noted : goal.returns-in-None-clause-noted
returns-in-None-clause-noted c =
    ⊎_elim
    (noting-own (length c.args.links.now + 1 - c.loop-step._step) (length c.args.links.now + 1 - (c.loop-step._step + 1)) c.args.links.now c.args.reach.now c.loop-step.reach
    c.args.start c.loop-step.at (omega arith) c.loop-step.invariant.noting c.loop-step.invariant.here c.requires.new)
    (noting-shared (length c.args.links.now + 1 - c.loop-step._step) (length c.args.links.now + 1 - (c.loop-step._step + 1)) c.args.links.now c.args.reach.now c.loop-step.reach
    c.args.start c.loop-step.at (omega arith) c.loop-step.invariant.noting c.loop-step.invariant.here c.requires.closed)
    c.in-None.ensures

pub returns-in-None-links-clause-noted : goal.returns-in-None-links-clause-noted
returns-in-None-links-clause-noted c =
    noting-last (length c.args.links.now + 1 - c.loop-step._step) (length c.args.links.now + 1 - (c.loop-step._step + 1)) c.args.links.now c.args.reach.now c.loop-step.reach
    c.args.start c.loop-step.at c.in-Some.further (omega arith) c.loop-step.invariant.noting c.loop-step.invariant.here c.loop-step.invariant.same
    c.in-Some.ensures.1 c.in-Some.ensures.2 c.in-Some.ensures.0 (link_at-get c.args.links.now c.loop-step.at _ c.loop-step.invariant.here ∙ c.in-None-links.is)

pub loop-step-preserved : goal.loop-step-preserved
loop-step-preserved c =
    let follows : link_at c.args.links.now c.loop-step.at ≡ Some c.in-Some-links.next =
    link_at-get c.args.links.now c.loop-step.at _ c.loop-step.invariant.here ∙ c.in-Some-links.is in
    record {
      same = grind (arith, common_steps);
      here = c.requires.within c.loop-step.at c.in-Some-links.next follows;
      noting = noting-next (length c.args.links.now + 1 - c.loop-step._step) (length c.args.links.now + 1 - (c.loop-step._step + 1)) c.args.links.now c.args.reach.now
          c.loop-step.reach c.args.start c.loop-step.at c.in-Some-links.next c.in-Some.further (omega arith) c.loop-step.invariant.noting c.loop-step.invariant.here
          c.loop-step.invariant.same c.in-Some.ensures.1 c.in-Some.ensures.2 c.in-Some.ensures.0 follows;
    }

pub returns-clause-noted : goal.returns-clause-noted
returns-clause-noted c =
    noting-out (length c.args.links.now + 1 - c.loop-step._step) c.args.links.now c.args.reach.now c.loop-step.reach c.args.start c.loop-step.at (omega arith)
    c.loop-step.invariant.noting
