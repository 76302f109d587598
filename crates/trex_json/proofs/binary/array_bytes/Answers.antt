use Rattle.std.proofs.Common.{sym, ◌∙◌, arith}
use Rattle.serde_json.specs.View.{view}
use Rattle.trex_json.proofs.Each.{numbers_of-one_more, numbers_of-none}
use Rattle.trex_json.proofs.binary.array_bytes.Goals as goal

pub loop-item-preserved : goal.loop-item-preserved
loop-item-preserved c =
    let at = c.loop-item.item-index in
    let xs = c.loop-item.bytes.items in
    numbers_of-one_more 255 view c.args.items.now at c.item-item.result xs _ c.in-Some.byte (omega arith) c.item-item.is
    c.in_ok-push-in-Some.ensures.items (sym c.in-Some.ensures.value) ∙ c.loop-item.invariant

pub returns-in-None : goal.returns-in-None
returns-in-None c =
    sym (numbers_of-none 255 view c.args.items.now c.loop-item.item-index c.item-item.result c.loop-item.bytes.items (omega arith) c.item-item.is (sym c.in-None.ensures.value))
    ∙ c.loop-item.invariant
