use Rattle.std.proofs.Common.{ℕ, List, [], ◌∷◌, ◌∙◌, ap}
use Rattle.trex_measure.proofs.ProgressLemmas.{exact_kept}
use Rattle.trex_wire.specs.Behind.{IsBehind}
use Rattle.trex_wire.specs.declared.spec.WireSpec.{WireSpec}
use Rattle.trex_wire.proofs.BehindLemmas.{ask_is, on_behind}
use Rattle.trex_wire.proofs.behind.measure_behind.Goals as goal

-- the numbers of an ask
numbers_of : WireSpec → List ℕ
numbers_of ask = ask.seed ∷ ask.loss ∷ ask.copy ∷ ask.delay ∷ []

pub returns-clause-counts : goal.returns-clause-counts
unfolding numbers_of
returns-clause-counts g c =
    let w = c.in_ok-wire.wire in
    let same = ask_is w.ask c.args.ask (c.in_ok-wire.ensures.mark ∙ ap numbers_of c.new.ensures.asked) in
    on_behind (g.S.Source.left c.args.input.now) w c.args.ask c.in-Ok.measured.0 c.in-Ok.measured.1 c.in_ok-wire.ensures.counts same c.in-Ok.ensures.stands c.in-Ok.ensures.counts

pub returns-clause-exact : goal.returns-clause-exact
unfolding numbers_of
returns-clause-exact g c =
    let w = c.in_ok-wire.wire in
    let same = ask_is w.ask c.args.ask (c.in_ok-wire.ensures.mark ∙ ap numbers_of c.new.ensures.asked) in
    exact_kept (IsBehind c.args.ask) (g.S.Source.left c.args.input.now) c.in-Ok.measured
    (on_behind (g.S.Source.left c.args.input.now) w c.args.ask c.in-Ok.measured.0 c.in-Ok.measured.1 c.in_ok-wire.ensures.counts same c.in-Ok.ensures.stands c.in-Ok.ensures.counts)
