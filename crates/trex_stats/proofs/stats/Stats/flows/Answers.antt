use Rattle.std.proofs.Common.{◌∙◌, sym, ap, subst}
use Rattle.std.specs.Map.{keys_of}
use Rattle.trex_stats.proofs.Listed.{flows_same}
use Rattle.trex_stats.proofs.Standing.{found_lines, kept_present}
use Rattle.trex_stats.specs.Counts.{arrivals, lines_of}
use Rattle.trex_stats.specs.Kept.{AreFlows}
use Rattle.trex_stats.proofs.stats.Stats.flows.Goals as goal

pub returns-clause-lines : goal.returns-clause-lines
returns-clause-lines c rs stands =
    let are : AreFlows c.self.inside.flows.entries (arrivals rs) = subst (λ k. AreFlows k.flows (arrivals rs)) (sym c.self.view_is) stands.flows in
    c.over.ensures.rest ∙ found_lines c.self.inside.flows.entries c.self.inside.flows.entries rs c.over.ensures.found are
    ∙ ap (λ k. lines_of rs (keys_of k.flows)) c.self.view_is

pub returns-clause-present : goal.returns-clause-present
returns-clause-present c rs stands = kept_present c.args.self.now.flows (arrivals rs) stands.flows

pub returns-clause-all : goal.returns-clause-all
returns-clause-all c rs stands =
    let are : AreFlows c.self.inside.flows.entries (arrivals rs) = subst (λ k. AreFlows k.flows (arrivals rs)) (sym c.self.view_is) stands.flows in
    c.over.ensures.rest ∙ found_lines c.self.inside.flows.entries c.self.inside.flows.entries rs c.over.ensures.found are
    ∙ ap (lines_of rs) (flows_same (keys_of c.self.inside.flows.entries) rs c.over.ensures.rise (kept_present c.self.inside.flows.entries (arrivals rs) are))
