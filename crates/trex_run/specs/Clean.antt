-- When a run measures clean. Own.
use Rattle.std.specs.Prelude.{◌≡◌, ℕ, ◌==◌, Bool, false, List}
use Rattle.std.specs.List.{AllByRecursion}
use Rattle.std.specs.Option.{option_map_or}
use Rattle.trex_merge.specs.Frames.{Frame}
use Rattle.trex_stamp.specs.Stamp.{stamp_of}

-- a packet ends in a latency header of the flow, of either version
abbrev pub has_flow : ℕ → Frame → Bool
has_flow flow frame = option_map_or (λ stamp. stamp.flow == flow) (stamp_of frame.bytes) false

-- no packet of another stream ends in a latency header of the flow
abbrev pub OwnsFlow : ℕ → ℕ → List Frame → Type 0
OwnsFlow position flow frames = AllByRecursion (λ frame. ¬ (frame.stream ≡ position) → has_flow flow frame ≡ false) frames
