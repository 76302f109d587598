-- A part has fewer gates than the whole; the functions that pass all gates on go down by one each.
use Rattle.std.proofs.Common.{◌+◌, ◌*◌, length}
use Rattle.trex_crew.proofs.workers.+workers.Given as goal

abbrev pub decreases-work_by_gates : goal.decreases-work_by_gates
decreases-work_by_gates g l = 4 * length l.gates.now + 3

abbrev pub decreases-work_in_threads : goal.decreases-work_in_threads
decreases-work_in_threads g l = 4 * length l.right.now + 5

abbrev pub decreases-work_in_threads-join_mut+arg3 : goal.decreases-work_in_threads-join_mut+arg3
decreases-work_in_threads-join_mut+arg3 g l = 4 * length l.right.now + 4
