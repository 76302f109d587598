-- The streams that follow one another (own).
use Rattle.std.specs.Prelude.{ℕ, ◌==◌, Bool, true, false, nat_eq, List, map, position, slice_get, Option, None, Some, option_and_then, if◌then◌else◌}
use Rattle.trex_sched.specs.declared.mode.Mode.{Mode}
use Rattle.trex_sched.specs.declared.mode.Mode.TheVariants.{Continuous, SingleBurst, MultiBurst}
use Rattle.trex_profile.specs.Stream.{Stream}

-- the ids of streams
abbrev pub ids : List Stream → List ℕ
ids streams = map (λ s. s.id) streams

-- the position of the stream with an id
abbrev pub place_of : List ℕ → ℕ → Option ℕ
place_of ids id = position (nat_eq id) ids

-- a run of the mode has no end
abbrev pub is_endless : Mode → Bool
is_endless Continuous = true
is_endless (SingleBurst total) = false
is_endless (MultiBurst per_burst ibg count) = count == 0

-- the position, where the stream there is enabled
abbrev pub if_enabled : List Stream → ℕ → Option ℕ
if_enabled streams at = option_and_then (λ s. if s.enabled then Some at else None) (slice_get streams at)

-- The position of the effective next stream. There is none where no next stream is named, where that one is disabled, or
-- where this one never ends.
abbrev pub effective_next : List Stream → Stream → Option ℕ
effective_next streams s =
    if is_endless s.mode then None
    else option_and_then (if_enabled streams) (option_and_then (place_of (ids streams)) s.next)

-- that of each stream
abbrev pub links : List Stream → List (Option ℕ)
links streams = map (effective_next streams) streams
