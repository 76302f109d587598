-- The line so far has the ids of the streams so far.
use Rattle.std.proofs.Common.{◌≡◌, ◌++◌, codes, take}
use Rattle.std.specs.List.{flat_map}
use Rattle.trex_rpc.specs.Table.{id_text}
use Rattle.trex_rpc.proofs.session.ids_line.Given as goal

abbrev pub invariant-loop-entry : goal.invariant-loop-entry
invariant-loop-entry l = l.line.items ≡ codes "ids" ++ flat_map id_text (take l.entry-index l.entries)
