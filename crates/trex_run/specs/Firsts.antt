-- The packets that wait first at the cores, and what one look at them tells. Own.
use Rattle.std.specs.Prelude.{◌≡◌, ℕ, if◌then◌else◌, Option, Some, List, map}
use Rattle.std.specs.List.{slice_get}
use Rattle.std.specs.Option.{option_map}
use Rattle.trex_merge.specs.declared.key.Key.{Key}
use Rattle.trex_merge.specs.declared.next.Next.{Next}
use Rattle.trex_merge.specs.declared.next.Next.TheVariants.{Packet}
use Rattle.trex_merge.specs.Frames.{key_of}
use Rattle.trex_merge.specs.Queues.{Queue, waiting_at}
use Rattle.trex_merge.specs.Runs.{IsLeastElsewhere, stands_before}
use Rattle.trex_run.specs.declared.firsts.Lead.{Lead}

-- the key of the packet that waits first, if any
abbrev pub first_of : Queue → Option Key
first_of queue = option_map key_of (slice_get queue.waiting 0)

-- the same at a core
abbrev pub first_at : ℕ → List Queue → Option Key
first_at at queues = option_map key_of (slice_get (waiting_at at queues) 0)

-- the same at each core
abbrev pub firsts_of : List Queue → List (Option Key)
firsts_of queues = map first_of queues

-- Where a packet comes next, a key is the least of those that wait first at all other cores.
abbrev pub IsBound : Next → Option Key → List Queue → Type 0
IsBound next before queues = (at : ℕ) → next ≡ Packet at → IsLeastElsewhere at before queues

-- Of the packets that wait first at some cores the least, and the least of the others, with the packet of one core more, which stands before
-- the least of the others, if any.
abbrev pub led : Lead → Key → ℕ → Lead
led lead key at =
    if stands_before key lead.least
    then record { least = Some key; feed = at; before = lead.least }
    else record { least = lead.least; feed = lead.feed; before = Some key }
