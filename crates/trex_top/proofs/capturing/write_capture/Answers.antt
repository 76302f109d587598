use Rattle.std.proofs.Common.{◌≡◌, List, ap, ◌∙◌, subst}
use Rattle.trex_io.specs.Texts.{Wrote, WrotePart}
use Rattle.trex_core.specs.Plan.{PlanOf}
use Rattle.trex_merge.specs.Frames.{Frame}
use Rattle.trex_profile.specs.Stream.{Stream}
use Rattle.trex_run.specs.Capture.{capture_text, sequence, tallies}
use Rattle.trex_run.specs.State.{all_of, cores_of, packets_reached}
use Rattle.trex_run.specs.Rounds.{IsEnoughRounds}
use Rattle.trex_run.proofs.RoundsLemmas.{tell_all, tell_enough, tell_no_rounds}
use Rattle.trex_run.proofs.StateLemmas.{through_all}
use Rattle.trex_top.proofs.capturing.write_capture.Goals as goal

pub returns-in-Ok-generate-clause-made : goal.returns-in-Ok-generate-clause-made
returns-in-Ok-generate-clause-made g c =
    let ready = c.in-Ok.ready in
    let all : all_of ready ≡ sequence c.args.profile.now c.args.ask.now = c.in-Ok.ensures.all in
    let done = c.generate.new.ready in
    let reached = through_all g.G.Gate.entries ready done c.args.gates.now c.generate.new.gates c.generate.ensures.steps c.in-Ok-generate.ensures.through in
    let profile = ap (λ (p : PlanOf). p.profile) (c.generate.ensures.steps.plan ∙ c.in-Ok.ensures.plan ∙ c.new-plan.ensures) in (
      subst (λ (l : List Frame). Wrote g.O.Sink.held c.args.out.now c.generate.new.out (capture_text c.args.ask.now.base l)) all c.in-Ok-generate.ensures.writes.whole,
      c.into_tallies.ensures
          ∙ ap (λ (p : List Stream). tallies p (packets_reached done)) profile
          ∙ ap (tallies c.args.profile.now) (reached ∙ all),
    )

pub returns-in-Err-clause-stops : goal.returns-in-Err-clause-stops
returns-in-Err-clause-stops g c =
    let all : all_of c.in-Ok.ready ≡ sequence c.args.profile.now c.args.ask.now = c.in-Ok.ensures.all in
    let writes = c.in-Err.ensures.writes in (
      subst (λ (l : List Frame). WrotePart g.O.Sink.held c.args.out.now c.generate.new.out (capture_text c.args.ask.now.base l)) all writes.part,
      writes.cause.failed,
    )

pub returns-in_default-clause-rounds : goal.returns-in_default-clause-rounds
returns-in_default-clause-rounds g c = tell_no_rounds g.G.Gate.entries c.args.ask.now.cores c.args.gates.now

pub returns-in-Ok-generate-clause-rounds : goal.returns-in-Ok-generate-clause-rounds
returns-in-Ok-generate-clause-rounds g c =
    let ready = c.in-Ok.ready in
    tell_all g.G.Gate.entries c.args.ask.now.cores (cores_of ready) ready.rounds c.generate.new.ready.rounds c.args.gates.now c.generate.new.gates
    c.in-Ok.ensures.cores c.in-Ok.ensures.rounds c.requires.cores.0 c.generate.auto.gates c.generate.ensures.steps.told

pub returns-in-Ok-generate-clause-enough : goal.returns-in-Ok-generate-clause-enough
returns-in-Ok-generate-clause-enough g c =
    let ready = c.in-Ok.ready in
    let enough = subst (IsEnoughRounds (cores_of ready) c.generate.new.ready.rounds) c.in-Ok.ensures.all c.in-Ok-generate.ensures.through.enough in
    tell_enough g.G.Gate.entries c.args.ask.now.cores (cores_of ready) ready.rounds c.generate.new.ready.rounds (sequence c.args.profile.now c.args.ask.now) c.args.gates.now
    c.generate.new.gates c.in-Ok.ensures.cores c.in-Ok.ensures.rounds c.requires.cores.0 c.generate.ensures.steps.told enough

pub returns-in-Err-clause-rounds : goal.returns-in-Err-clause-rounds
returns-in-Err-clause-rounds g c =
    let ready = c.in-Ok.ready in
    tell_all g.G.Gate.entries c.args.ask.now.cores (cores_of ready) ready.rounds c.generate.new.ready.rounds c.args.gates.now c.generate.new.gates
    c.in-Ok.ensures.cores c.in-Ok.ensures.rounds c.requires.cores.0 c.generate.auto.gates c.generate.ensures.steps.told
