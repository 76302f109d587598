use Rattle.std.proofs.Common.{◌≤◌, ◌++◌, ◌∷◌, [], length, sym, ap, ◌∙◌, arith}
use Rattle.std.proofs.lemmas.List.{take_all}
use Rattle.trex_report.specs.declared.report.Tally.{Tally}
use Rattle.trex_run.specs.Capture.{tallies}
use Rattle.trex_run.proofs.ListLemmas.{take-next}
use Rattle.trex_run.proofs.TallyLemmas.{id-of, tallies-at, length-tallies}
use Rattle.trex_run.proofs.tally.no_tallies.Goals as goal

pub loop-position-preserved : goal.loop-position-preserved
loop-position-preserved c =
    let none : Tally = record { id = c.stream.result.now.id; packets = 0; bytes = 0 } in
    let next = tallies-at c.loop-position.position c.args.profile.now c.stream.result.now.id
    (id-of c.stream.result.now c.loop-position.position c.args.profile.now c.stream.ensures) in
    c.in_ok-push.ensures.items ∙ ap (λ l. l ++ none ∷ []) c.loop-position.invariant ∙ sym (take-next c.loop-position.position (tallies c.args.profile.now []) none next)

pub returns : goal.returns
returns c =
    let all = length-tallies c.args.profile.now [] in
    let passed : length (tallies c.args.profile.now []) ≤ c.loop-position.position = omega (arith, c.requires) in
    c.loop-position.invariant ∙ take_all c.loop-position.position (tallies c.args.profile.now []) passed
