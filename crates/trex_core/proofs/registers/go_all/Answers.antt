use Rattle.std.proofs.Common.{ap, sym, ◌∙◌, arith}
use Rattle.std.specs.Prelude.{slice_set}
use Rattle.std.proofs.lemmas.List.Edits.{map_over_more}
use Rattle.std.proofs.lemmas.Grind.{common_steps}
use Rattle.trex_core.specs.Registers.{moved}
use Rattle.trex_core.proofs.registers.go_all.Goals as goal

pub loop-at-preserved : goal.loop-at-preserved
loop-at-preserved c = record {
  moved = let move = moved c.args.by_number c.args.by_place in
      let k = c.loop-at.at in
      ap (slice_set c.loop-at.registers k) (c.go.ensures.register ∙ ap move (sym c.index-registers-at.is))
      ∙ map_over_more move c.args.registers.now c.loop-at.registers k c.index-registers-at.result c.loop-at-test.true c.loop-at.invariant.moved c.index-registers-at.is;
  shown = grind (arith, common_steps);
}
