use Rattle.std.proofs.Common.{ℕ, List, ◌++◌, sym, ap, ◌∙◌, subst}
use Rattle.trex_io.specs.Texts.{Writes}
use Rattle.trex_io.proofs.TextLemmas.{Writes-after}
use Rattle.trex_run.specs.Capture.{capture_text}
use Rattle.trex_run.specs.State.{all_of}
use Rattle.trex_run.proofs.capture_writer.generate.Goals as goal

pub returns-clause-writes : goal.returns-clause-writes
returns-clause-writes g c =
    let gathers = c.in_default.ensures.gathers in
    subst (λ (text : List ℕ). Writes g.O.Sink.held g.O.Sink.faults c.args.out.now c.write_all.new.sink c.write_all.result text)
    (ap (λ l. gathers.0 ++ l) c.deref.ensures.value ∙ sym gathers.2 ∙ ap (λ run. capture_text run.plan.base (all_of run)) c.ready.view_is
    ∙ ap (λ n. capture_text n (all_of c.args.ready.now)) (sym c.requires.base))
    (Writes-after g.O.Sink.held g.O.Sink.faults c.args.out.now c.gather_all.new.out c.write_all.new.sink c.write_all.result gathers.0 c.deref.result.now gathers.1 c.in_default.ensures.cause.later c.write_all.ensures)
