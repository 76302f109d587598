use Rattle.std.proofs.Common.{◌≡◌, [], take}
use Rattle.trex_run.specs.Capture.{tallies}
use Rattle.trex_run.proofs.tally.no_tallies.Given as goal

abbrev pub invariant-loop-position : goal.invariant-loop-position
invariant-loop-position l = l.all.items ≡ take l.position (tallies l.profile [])
