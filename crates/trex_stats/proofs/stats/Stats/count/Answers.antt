-- One more record, with a stamp or without.
use Rattle.std.proofs.Common.{◌+◌, ◌∙◌, sym, ap, subst}
use Rattle.trex_stats.proofs.Standing.{glimpse_plain, glimpse_stamped, stands_stamped, stands_plain}
use Rattle.trex_stats.specs.Counts.{arrivals, arrival_of, with_one}
use Rattle.trex_stats.specs.Kept.{AreFlows}
use Rattle.trex_stats.proofs.stats.Stats.count.Goals as goal
use Rattle.trex_stats.proofs.stats.Stats.count.Goals.{in-Stamped+in_ok-arrive-in-Stamped, in-Plain}

pub returns-clause-counts : goal.returns-clause-counts
returns-clause-counts c rs r counts time glimpse =
    let flows = c.self.inside.flows.entries in
    elim c.match-glimpse.branch [
      | in-Stamped+in_ok-arrive-in-Stamped w ↦
          let has = glimpse_stamped r _ _ _ (glimpse ∙ w.in-Stamped.is) in
          let were : AreFlows flows (arrivals rs) = subst (λ k. AreFlows k.flows (arrivals rs)) (sym c.self.view_is) counts.flows in
          let are = w.in_ok-arrive-in-Stamped.ensures.kept (arrivals rs) were in
          rw w.self-inside-is
          (stands_stamped c.args.self.now _ rs r counts (ap (λ k. k.records + 1) c.self.view_is) has.stamp has.there (ap (λ k. k.stamped + 1) c.self.view_is)
          (subst (λ f. AreFlows w.arrive.new.flows.entries (with_one (arrivals rs) f (arrival_of r.time has.stamp))) (sym has.flow_is)
          (subst (λ a. AreFlows w.arrive.new.flows.entries (with_one (arrivals rs) w.in-Stamped.flow a)) (sym (ap (λ t. arrival_of t has.stamp) time ∙ has.arrival_is c.args.time)) are)))
      | in-Plain w ↦
          rw w.self-inside-is
          (stands_plain c.args.self.now _ rs r counts (ap (λ k. k.records + 1) c.self.view_is)
          (glimpse_plain r (glimpse ∙ w.in-Plain.is)) (ap (λ k. k.stamped) c.self.view_is) (ap (λ k. k.flows) c.self.view_is))
    ]
