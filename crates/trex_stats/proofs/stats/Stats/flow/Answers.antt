use Rattle.std.proofs.Common.{sym, subst, ◌<◌, length}
use Rattle.trex_stats.proofs.Standing.{line_by_place}
use Rattle.trex_stats.specs.Counts.{arrivals}
use Rattle.trex_stats.specs.Kept.{AreFlows}
use Rattle.trex_stats.proofs.stats.Stats.flow.Goals as goal

pub returns-clause-line : goal.returns-clause-line
returns-clause-line c rs stands =
    let flows = c.self.inside.flows.entries in
    let are : AreFlows flows (arrivals rs) = subst (λ k. AreFlows k.flows (arrivals rs)) (sym c.self.view_is) stands.flows in
    let within : c.args.place < length flows = subst (λ k. c.args.place < length k.flows) (sym c.self.view_is) c.requires in
    line_by_place flows flows rs c.args.place c.line_at.result c.line_at.ensures.found are within c.line_at.ensures.kept
