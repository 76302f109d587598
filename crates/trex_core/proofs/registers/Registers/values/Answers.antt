use Rattle.std.proofs.Common.{◌∙◌, ap}
use Rattle.trex_core.specs.Registers.{Standing, values_by}
use Rattle.trex_core.proofs.Registering.{shown_is}
use Rattle.trex_core.proofs.registers.Registers.values.Goals as goal

pub returns : goal.returns
returns c =
    let i = c.self.inside in
    c.deref.ensures.value ∙ c.self.invariant.read ∙ shown_is i.cores i.number i.place i.registers.items c.self.invariant.stand
    ∙ ap (λ (s : Standing). values_by s s.number s.place) c.self.view_is
