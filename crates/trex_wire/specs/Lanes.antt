-- What arrives, copy by copy: a lane has the first copies of all records that count for a flow, or the second ones. Own.
use Rattle.std.specs.Prelude.{◌≡◌, ℕ, ◌+◌, ◌*◌, ◌<◌, ◌==◌, nat_lt, if◌then◌else◌, List, [], ◌∷◌, ◌++◌, map, Vec, vec_len, vec_capacity}
use Rattle.std.specs.List.{AllByRecursion, slice_get}
use Rattle.std.specs.declared.alloc.Global.{Global}
use Rattle.trex_io.specs.Seen.{Seen}
use Rattle.trex_merge.specs.declared.key.Key.{Key}
use Rattle.trex_merge.specs.Frames.{Frame}
use Rattle.trex_merge.specs.Queues.{Queue}
use Rattle.trex_stats.specs.Counts.{glimpse_of}
use Rattle.trex_stats.specs.declared.glimpse.Glimpse.{Glimpse}
use Rattle.trex_stats.specs.declared.glimpse.Glimpse.TheVariants.{Plain, Stamped}
use Rattle.trex_vars.specs.Value.{word_at}
use Rattle.trex_wire.specs.declared.lanes.Due.{Due}
use Rattle.trex_wire.specs.declared.merge.Lane.{Lane}
use Rattle.trex_wire.specs.declared.spec.WireSpec.{WireSpec}
use Rattle.trex_wire.specs.Wired.{comes_by, copies_by, seen_then}

-- what the counts take of a record
abbrev pub glimpse_at : Seen → Glimpse
glimpse_at r = glimpse_of r.bytes r.original

-- what a lane gets of a copy that arrives at this time, of a record of this place: nothing where the record counts for no flow
abbrev pub due_of : ℕ → ℕ → Glimpse → List Due
due_of time place Plain = []
due_of time place (Stamped flow sequence sent) =
    record { time = time; place = place; flow = flow; sequence = sequence; sent = sent } ∷ []

-- one for a record that counts for no flow
abbrev pub one_plain : Glimpse → ℕ
one_plain Plain = 1
one_plain (Stamped flow sequence sent) = 0

-- what lane j gets of a record of this place and this time, by the record's word and by the copy's word
abbrev pub came_by : WireSpec → ℕ → ℕ → ℕ → Glimpse → ℕ → ℕ → List Due
came_by ask j place time glimpse w v = if nat_lt j (copies_by ask w) then due_of (comes_by ask time v) place glimpse else []

-- copy j of some records, of which the first is record i
abbrev pub lane : WireSpec → ℕ → ℕ → List Seen → List Due
lane ask j i [] = []
lane ask j i (r ∷ rs) =
    came_by ask j i r.time (glimpse_at r) (word_at ask.seed 0 (3 * i)) (word_at ask.seed 0 (3 * i + 1 + j)) ++ lane ask j (i + 1) rs

-- what copy j of a record adds to the copies that are in no lane, by the record's word
abbrev pub plain_by : ℕ → WireSpec → ℕ → Glimpse → ℕ
plain_by j ask w glimpse = if nat_lt j (copies_by ask w) then one_plain glimpse else 0

-- how many copies of some records are in no lane, where the first is record i
abbrev pub plain_of : WireSpec → ℕ → List Seen → ℕ
plain_of ask i [] = 0
plain_of ask i (r ∷ rs) =
    let w = word_at ask.seed 0 (3 * i) in
    plain_by 0 ask w (glimpse_at r) + plain_by 1 ask w (glimpse_at r) + plain_of ask (i + 1) rs

-- one for a record that has so many copies by its word
abbrev pub one_with : ℕ → WireSpec → ℕ → ℕ
one_with n ask w = if copies_by ask w == n then 1 else 0

-- what a lane of a copy has, by its time, the copy and its record
abbrev pub key_in : ℕ → Due → Key
key_in copy due = record { time = due.time; stream = copy; number = due.place }

-- two lanes together
abbrev pub both : List Due → List Due → List Key
both first second = map (key_in 0) first ++ map (key_in 1) second

-- what arrives, as the merge sees it: without its bytes
abbrev pub frame_at : Key → Frame
frame_at k = record { time = k.time; stream = k.stream; number = k.number; bytes = [] }

-- what the merge sees of a lane: all waits, and nothing is to come
abbrev pub lane_of : ℕ → List Due → Queue
lane_of copy dues = record { waiting = map (λ due. frame_at (key_in copy due)) dues; coming = [] }

-- the queue of a lane
abbrev pub queue_of : Lane → Queue
queue_of lane = lane_of lane.copy lane.rest.now

-- the record that arrives
abbrev pub seen_of : List Seen → Frame → Seen
seen_of rs frame = seen_then frame.time (slice_get rs frame.number)

-- what is kept of a copy is what the counts take of its record
abbrev pub IsOf : List Seen → Due → Type 0
IsOf rs due = glimpse_at (seen_then due.time (slice_get rs due.place)) ≡ Stamped due.flow due.sequence due.sent

-- the same of all copies
abbrev pub AreOf : List Seen → List Due → Type 0
AreOf rs dues = AllByRecursion (IsOf rs) dues

-- the same of all copies of some lanes
abbrev pub LanesAreOf : List Seen → List Lane → Type 0
LanesAreOf rs lanes = AllByRecursion (λ lane. AreOf rs lane.rest.now) lanes

-- a lane has room for a copy of a record of which the counts take this
abbrev pub HasRoomFor : Glimpse → Vec Due Global → Type 0
HasRoomFor Plain dues = Unit {0}
HasRoomFor (Stamped flow sequence sent) dues = vec_len dues < vec_capacity dues
