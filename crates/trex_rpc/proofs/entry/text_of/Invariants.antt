-- The streams that are left decide.
use Rattle.std.proofs.Common.{◌≡◌, drop}
use Rattle.trex_rpc.specs.Table.{text_of}
use Rattle.trex_rpc.proofs.entry.text_of.Given as goal

abbrev pub invariant-loop-entry : goal.invariant-loop-entry
invariant-loop-entry l = text_of l.id (drop l.entry-index l.entries) ≡ text_of l.id l.entries
