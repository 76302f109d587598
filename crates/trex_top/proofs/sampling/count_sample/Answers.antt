use Rattle.std.proofs.Common.{List, ap, ◌∙◌, subst}
use Rattle.trex_profile.specs.Stream.{Stream}
use Rattle.trex_run.specs.Capture.{sequence}
use Rattle.trex_run.specs.State.{cores_of}
use Rattle.trex_run.specs.Rounds.{IsEnoughRounds}
use Rattle.trex_run.specs.Counts.{counts_of}
use Rattle.trex_top.specs.Sample.{run_of, sample_counts, sample_sequence}
use Rattle.trex_run.proofs.RoundsLemmas.{tell_all, tell_enough, tell_no_rounds}
use Rattle.trex_top.proofs.sampling.count_sample.Goals as goal

pub returns-clause-counts : goal.returns-clause-counts
unfolding sample_counts
returns-clause-counts g c =
    c.count_run.ensures.counts ∙ ap counts_of (c.in_ok-ready.ensures.all ∙ ap (λ (p : List Stream). sequence p (run_of c.args.ask.now)) c.in_ok-profile.ensures)

pub returns-in_err-profile-clause-rounds : goal.returns-in_err-profile-clause-rounds
returns-in_err-profile-clause-rounds g c = tell_no_rounds g.G.Gate.entries c.args.ask.now.run.cores c.args.gates.now

pub returns-in_err-ready-clause-rounds : goal.returns-in_err-ready-clause-rounds
returns-in_err-ready-clause-rounds g c = tell_no_rounds g.G.Gate.entries c.args.ask.now.run.cores c.args.gates.now

pub returns-clause-rounds : goal.returns-clause-rounds
returns-clause-rounds g c =
    let ready = c.in_ok-ready.ready in
    tell_all g.G.Gate.entries c.args.ask.now.run.cores (cores_of ready) ready.rounds c.count_run.new.ready.rounds c.args.gates.now c.count_run.new.gates
    c.in_ok-ready.ensures.cores c.in_ok-ready.ensures.rounds c.requires.run.cores.0 c.count_run.auto.gates c.count_run.ensures.steps.told

pub returns-clause-enough : goal.returns-clause-enough
returns-clause-enough g c =
    let ready = c.in_ok-ready.ready in
    let all = c.in_ok-ready.ensures.all ∙ ap (λ (p : List Stream). sequence p (run_of c.args.ask.now)) c.in_ok-profile.ensures in
    let enough = subst (IsEnoughRounds (cores_of ready) c.count_run.new.ready.rounds) all c.count_run.ensures.through.enough in
    tell_enough g.G.Gate.entries c.args.ask.now.run.cores (cores_of ready) ready.rounds c.count_run.new.ready.rounds (sample_sequence c.args.ask.now) c.args.gates.now
    c.count_run.new.gates c.in_ok-ready.ensures.cores c.in_ok-ready.ensures.rounds c.requires.run.cores.0 c.count_run.ensures.steps.told enough
