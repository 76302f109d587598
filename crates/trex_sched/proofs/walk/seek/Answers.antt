use Rattle.std.proofs.Common.{arith, sym, ◌∙◌}
use Rattle.trex_sched.specs.Chain.{chain_of}
use Rattle.trex_sched.proofs.Remaining.{next_is, rest_ends, rest_goes_on}
use Rattle.trex_sched.proofs.Reached.{reached_next, sent_before, start_rises, visit_small}
use Rattle.trex_sched.proofs.walk.seek.Goals as goal

pub next_in_run-requires-clause-before : goal.next_in_run-requires-clause-before
next_in_run-requires-clause-before c = sent_before (chain_of c.args.chain.now) c.loop-slot.cursor.run c.requires.chain c.loop-slot.invariant.reached

pub next_run-requires-clause-visit : goal.next_run-requires-clause-visit
next_run-requires-clause-visit c =
    omega (arith, visit_small (chain_of c.args.chain.now) c.loop-slot.cursor.run c.requires.chain c.loop-slot.invariant.reached, c.loop-slot.invariant.begun)

pub returns-in-None-clause-rest : goal.returns-in-None-clause-rest
returns-in-None-clause-rest c =
    sym (rest_ends (chain_of c.args.chain.now) c.args.core c.args.cores c.args.duration c.loop-slot.cursor.run c.loop-slot.from c.requires.chain c.in_default.ensures.rest (sym c.in-None.ensures))
    ∙ c.loop-slot.invariant.rest

pub loop-slot-smaller : goal.loop-slot-smaller
loop-slot-smaller c =
    let next = next_is (chain_of c.args.chain.now) c.args.duration c.loop-slot.cursor.run c.in-Some-next_run.later (sym c.in-Some-next_run.ensures) in
    omega (arith, start_rises (chain_of c.args.chain.now) c.loop-slot.cursor.run c.in-Some-next_run.later c.requires.chain c.loop-slot.invariant.reached next.0, next.1)

pub loop-slot-preserved : goal.loop-slot-preserved
loop-slot-preserved c =
    let chain = chain_of c.args.chain.now in
    let next = next_is chain c.args.duration c.loop-slot.cursor.run c.in-Some-next_run.later (sym c.in-Some-next_run.ensures) in
    record {
      reached = reached_next chain c.loop-slot.cursor.run c.in-Some-next_run.later c.requires.chain c.loop-slot.invariant.reached next.0;
      begun = next.1;
      from = omega arith;
      rest =
          sym (rest_goes_on chain c.args.core c.args.cores c.args.duration c.loop-slot.cursor.run c.in-Some-next_run.later c.loop-slot.from c.requires.chain c.in_default.ensures.rest (sym c.in-Some-next_run.ensures))
          ∙ c.loop-slot.invariant.rest;
    }
