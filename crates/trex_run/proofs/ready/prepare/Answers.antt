use Rattle.std.proofs.Common.{◌≡◌, List, None, length, ap, sym, ◌∙◌}
use Rattle.trex_core.specs.Plan.{PlanOf, frames_of_plan}
use Rattle.trex_merge.specs.Frames.{sequence}
use Rattle.trex_profile.specs.Admission.{refusal_of}
use Rattle.trex_profile.specs.Stream.{Stream}
use Rattle.trex_run.specs.Capture.{sequence as run_sequence}
use Rattle.trex_run.specs.Ready.{first_works}
use Rattle.trex_run.proofs.ReadyLemmas.{works_count}
use Rattle.trex_run.proofs.StateLemmas.{plan_short, sequence_is}
use Rattle.trex_run.proofs.ready.prepare.Goals as goal

pub start-progress-requires-clause-short : goal.start-progress-requires-clause-short
start-progress-requires-clause-short c =
    let profile = ap (λ (p : PlanOf). p.profile) c.requires.plan in
    plan_short c.args.plan.now (rw profile c.len-streams.ensures.short)

pub start-progress-requires-clause-works : goal.start-progress-requires-clause-works
start-progress-requires-clause-works c =
    let frames = frames_of_plan c.args.plan.now in
    let works = c.in_ok-crew.ensures.works in
    let count = ap length works ∙ works_count c.args.plan.now.base c.args.ask.now.cores frames in
    works ∙ ap (λ n. first_works c.args.plan.now.base n frames) (sym count)

pub start-progress-requires-clause-firsts : goal.start-progress-requires-clause-firsts
start-progress-requires-clause-firsts c =
    let frames = frames_of_plan c.args.plan.now in
    c.in_ok-firsts.ensures ∙ sym (ap length c.in_ok-crew.ensures.works ∙ works_count c.args.plan.now.base c.args.ask.now.cores frames)

pub returns-clause-all : goal.returns-clause-all
returns-clause-all c =
    let frames = frames_of_plan c.args.plan.now in
    let start = c.start-progress.ensures in
    let plan = c.requires.plan in
    let profile = ap (λ (p : PlanOf). p.profile) plan in
    let kept : refusal_of c.args.plan.now.profile ≡ None = rw profile c.len-streams.ensures.kept in
    let same : c.args.plan.now ≡ record { profile = c.args.plan.now.profile; duration = c.args.ask.now.duration; base = c.args.ask.now.base } =
    plan ∙ ap (λ (p : List Stream). record { profile = p; duration = c.args.ask.now.duration; base = c.args.ask.now.base }) (sym profile) in
    ap (λ n. sequence n (frames_of_plan c.start-progress.result.plan)) start.limit
    ∙ ap (λ (p : PlanOf). sequence c.args.ask.now.limit (frames_of_plan p)) start.plan
    ∙ sequence_is c.args.plan.now c.args.ask.now (c.plans_rise.ensures.rising c.args.plan.now kept) (c.plans_rise.ensures.distinct c.args.plan.now kept) same
    ∙ ap (λ (p : List Stream). run_sequence p c.args.ask.now) profile

pub returns-clause-cores : goal.returns-clause-cores
returns-clause-cores c =
    c.start-progress.ensures.cores ∙ ap length c.in_ok-crew.ensures.works ∙ works_count c.args.plan.now.base c.args.ask.now.cores (frames_of_plan c.args.plan.now)
