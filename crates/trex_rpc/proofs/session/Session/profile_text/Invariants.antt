-- The text so far has the first stream and the others so far.
use Rattle.std.proofs.Common.{◌≡◌, ◌++◌, take}
use Rattle.std.specs.List.{flat_map}
use Rattle.trex_rpc.specs.Table.{other_text}
use Rattle.trex_rpc.proofs.session.Session.profile_text.Given as goal

abbrev pub invariant-loop-other : goal.invariant-loop-other
invariant-loop-other l = l.text.items ≡ l.initial.text.items ++ flat_map other_text (take l.other-index l.others)
