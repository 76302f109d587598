use Rattle.std.proofs.Common.{◌≡◌, ◌+◌, ◌*◌, ◌≤◌}
use Rattle.trex_bytes.proofs.vars.core_shows.Given as goal

abbrev pub invariant-loop-n : goal.invariant-loop-n
invariant-loop-n g l = (l.strided.cores ≡ l.cores) × (l.strided.number ≤ l.core + l.cores * l.n-counter)
