-- A run that is ready for its next step. Own.
use Rattle.std.specs.Prelude.{◌≡◌, ℕ, zero, suc, ◌+◌, ◌-◌, ◌≤◌, List, Option, Some, [], ◌∷◌, length, map, slice_get, take}
use Rattle.std.specs.List.{AllByRecursion, range_with_len}
use Rattle.trex_core.specs.Works.{Work}
use Rattle.trex_merge.specs.declared.key.Key.{Key}
use Rattle.trex_merge.specs.declared.next.Next.{Next}
use Rattle.trex_merge.specs.declared.next.Next.TheVariants.{Packet, Need, End}
use Rattle.trex_merge.specs.Frames.{Frame, key_of, share}
use Rattle.trex_merge.specs.Machine.{HaveShares, IsMill}
use Rattle.trex_merge.specs.Order.{ordered}
use Rattle.trex_merge.specs.Queues.{Queue, next_of, waiting_at}
use Rattle.trex_merge.specs.Runs.{run_length}
use Rattle.trex_report.specs.declared.report.Tally.{Tally}
use Rattle.trex_run.specs.Rounds.{HasKeptUp}
use Rattle.trex_run.specs.State.{IsShort}
use Rattle.trex_run.specs.Step.{mill_after, packet_ahead}
use Rattle.trex_run.specs.Tallies.{counted}

-- what the cores have still to send
abbrev pub queues_of : List Work → List Queue
queues_of works = map (λ work. work.queue) works

-- The works, the number of rounds, the limit, the number of packets sent and what comes next are those of a mill over the packets, of which
-- each core has its share. There were no more rounds than packets that were reached.
pub record IsReady (frames : List Frame) (works : List Work) (rounds limit sent : ℕ) (next : Next) : Type 0 where
  pub is : IsMill frames (mill_after frames (queues_of works) sent limit)
  pub counted : sent ≤ length (ordered key_of frames)
  pub next_is : next ≡ next_of (limit - sent) (queues_of works)
  pub short : AllByRecursion IsShort frames
  pub limited : limit ≤ 100000000
  pub turns : AllByRecursion (λ work. work.turns ≤ sent + packet_ahead next) works
  pub rounds_are : rounds ≤ sent + packet_ahead next
  pub cores_are : map (λ work. work.core) works ≡ range_with_len 0 (length works)
  pub shares : HaveShares (length works) frames (mill_after frames (queues_of works) sent limit)
  pub fed : HasKeptUp (length works) frames rounds (queues_of works)

-- The packet that comes next, if any, is counted for its stream: it is the first that waits there.
abbrev pub CountsNext : Next → List Queue → List Tally → List Tally → Type 0
CountsNext (Packet at) queues old new =
    (frame : Frame) × (slice_get (waiting_at at queues) 0 ≡ Some frame) × (new ≡ counted old frame.stream (length frame.bytes))
CountsNext (Need core) queues old new = new ≡ old
CountsNext End queues old new = new ≡ old

-- the work of a core before its first turn
abbrev pub first_work : ℕ → ℕ → List Frame → ℕ → Work
first_work base cores frames core =
    record { core = core; turns = 0; base = base; queue = record { waiting = []; coming = share core cores frames } }

-- the works of all cores before their first turn
abbrev pub first_works : ℕ → ℕ → List Frame → List Work
first_works base cores frames = map (first_work base cores frames) (range_with_len 0 cores)

-- the times of all works' records count from a base
abbrev pub HaveBase : ℕ → List Work → Type 0
HaveBase base works = AllByRecursion (λ work. work.base ≡ base) works

-- what taking packets from works leaves as it is
abbrev pub marks_of : List Work → List (List ℕ)
marks_of works = map (λ work. work.core ∷ work.turns ∷ work.base ∷ []) works

-- the base of the work at a place
abbrev pub base_at : ℕ → List Work → ℕ
base_at at [] = 0
base_at zero (work ∷ works) = work.base
base_at (suc at) (work ∷ works) = base_at at works

-- the packets of the run at a core: those that wait there and stand before a key, or all where there is none, but at most so many
abbrev pub run_at : ℕ → Option Key → ℕ → List Queue → List Frame
run_at at before left queues = take (run_length before left (waiting_at at queues)) (waiting_at at queues)
