-- Where the flow didn't change, neither did the map that it was lent from.
use Rattle.std.proofs.Common.{◌≡◌, ◌∙◌, sym, ap}
use Rattle.std.proofs.lemmas.Map.Steps.{set_value_same}
use Rattle.std.proofs.lemmas.Result.{on_err_weaker}
use Rattle.std.specs.BTreeMap.{is_at}
use Rattle.std.specs.Map.{set_value}
use Rattle.std.specs.Ordering.{nat_cmp}
use Rattle.trex_stats.proofs.stats.arrive.Goals as goal

pub returns-in-Some-clause-err : goal.returns-in-Some-clause-err
returns-in-Some-clause-err c =
    let test = is_at (nat_cmp c.args.flow) in
    on_err_weaker c.add.result
    (λ (same : c.add.new.self ≡ c.in-Some.kept.now).
    (c.get_mut.follows.holds c.add.new.self).0 ∙ ap (set_value test c.args.flows.now.entries) same
    ∙ set_value_same test c.args.flows.now.entries c.in-Some.kept.now (sym c.in-Some.ensures.value))
    c.add.ensures.err
