use Rattle.std.proofs.Common.{rules, sym, ◌∙◌}
use Rattle.trex_sched.proofs.Sent.{found_mine, next_found, next_late, next_past}
use Rattle.trex_sched.proofs.steps.next_in_run.Goals as goal

pub returns-then-k-unwrap_or-clause-rest : goal.returns-then-k-unwrap_or-clause-rest
returns-then-k-unwrap_or-clause-rest c =
    next_past c.args.core c.args.cores c.args.duration c.args.run.now _ c.args.from c.steps_to.result (search rules) c.steps_to.ensures.least (search rules)

pub returns-in_err-after-clause-rest : goal.returns-in_err-after-clause-rest
returns-in_err-after-clause-rest c =
    rw c.from_residual.ensures
    (next_late c.args.core c.args.cores c.args.duration c.args.run.now _ c.args.from c.steps_to.result (search rules) c.steps_to.ensures.least c.requires.packets c.requires.begun
    (sym c.offset_below.ensures ∙ c.in_err-after.was))

pub returns-clause-rest : goal.returns-clause-rest
returns-clause-rest c =
    next_found c.args.core c.args.cores c.args.duration c.args.run.now _ c.args.from c.steps_to.result c.in_ok-after.after
    (search rules) c.steps_to.ensures.least c.steps_to.ensures.reached (search rules) c.requires.begun
    (sym c.offset_below.ensures ∙ c.in_ok-after.was)

pub returns-clause-mine : goal.returns-clause-mine
returns-clause-mine c =
    found_mine c.args.core c.args.cores c.args.duration c.args.run.now _ c.args.from c.steps_to.result c.in_ok-after.after
    (search rules) c.steps_to.ensures.reached (search rules) c.requires.begun (sym c.offset_below.ensures ∙ c.in_ok-after.was)
