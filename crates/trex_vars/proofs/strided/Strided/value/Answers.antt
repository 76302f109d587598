use Rattle.std.proofs.Common.{◌≡◌, ◌∙◌, sym, ap}
use Rattle.std.specs.Prelude.{None}
use Rattle.trex_vars.specs.Check.{fault_of}
use Rattle.trex_vars.specs.Registers.{shown}
use Rattle.trex_vars.specs.Stand.{Stand}
use Rattle.trex_vars.proofs.BoundsLemmas.{shown-value}
use Rattle.trex_vars.proofs.strided.Strided.value.Goals as goal

pub returns : goal.returns
returns c =
    let stand = c.args.self.now in
    let sound : fault_of stand.variable ≡ None = ap (λ (s : Stand). fault_of s.variable) (sym c.self.view_is) ∙ c.self.invariant.sound in
    c.value_from.ensures ∙ ap (λ (s : Stand). shown s.variable c.place.result) c.self.view_is
    ∙ shown-value stand.variable stand.number c.place.result sound c.place.ensures.value
