use Rattle.std.proofs.Common.{◌≡◌, ◌++◌, [], ◌∷◌, map, slice_get, ap, ◌∙◌, rules}
use Rattle.trex_profile.specs.Packets.{restarts, values_at, values_of, variables}
use Rattle.trex_profile.specs.Spec.{IsSpecOf}
use Rattle.trex_vars.specs.Variable.{variable_of}
use Rattle.trex_core.specs.Registers.{Standing, values_by}
use Rattle.trex_core.proofs.Making.{row_more, some_is}
use Rattle.trex_core.proofs.maker.registers_of.Goals as goal

pub loop-i-preserved : goal.loop-i-preserved
loop-i-preserved c =
    let p = c.args.plan.now.profile in
    let spec = c.stream-spec.result.now in
    let own = c.in_ok-registers.registers in
    let s = some_is (slice_get p c.loop-i.i) (λ s. IsSpecOf s spec) c.stream-spec.ensures in
    let vars : own.variables ≡ variables s.0 = ap (λ (r : Standing). r.variables) c.in_ok-registers.ensures ∙ ap (map variable_of) c.deref.ensures.value ∙ s.2.vars in
    let restart : own.restarts ≡ restarts s.0 = ap (λ (r : Standing). r.restarts) c.in_ok-registers.ensures ∙ c.deref-in-loop-i.ensures.value ∙ s.2.restart in
    let pushed : c.push.new.self.items ≡ c.loop-i.all.items ++ own ∷ [] = search rules in
    ap (map values_by) pushed
    ∙ row_more values_by values_of c.loop-i.all.items p c.loop-i.i own s.0 c.loop-i.invariant s.1 (λ k number place. values_at (vars k) (restart k) number place)
