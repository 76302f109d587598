-- What remains of a walk (own).
use Rattle.std.specs.Prelude.{◌≡◌, ℕ, ◌+◌, ◌*◌, ◌%◌, ◌^◌, ◌<◌, ◌≤◌, nat_lt, if◌then◌else◌, unwrap_or, length, Option, None, Some, List, [], ◌∷◌, ◌++◌}
use Rattle.std.specs.List.{flat_map, slice_get}
use Rattle.trex_sched.specs.declared.chain.Leg.{Leg}
use Rattle.trex_sched.specs.declared.run.Run.{Run}
use Rattle.trex_sched.specs.declared.slot.Slot.{Slot}
use Rattle.trex_sched.specs.declared.stride.Stride.{Stride}
use Rattle.trex_sched.specs.Chain.{Chain, IsChain}
use Rattle.trex_sched.specs.Runs.{run_after, later_runs}
use Rattle.trex_sched.specs.Entries.{run_entries, share, slot_of}
use Rattle.trex_sched.specs.Strides.{IsAtStride}
use Rattle.trex_sched.specs.Times.{size}

-- the core's packets of a run from packet k on, and of the runs after it
abbrev pub rest_from : Chain → ℕ → ℕ → ℕ → Run → ℕ → List Slot
rest_from chain core cores d run k =
    share core cores (run_entries d run k ++ flat_map (λ later. run_entries d later 0) (later_runs chain d (run_after chain run)))

-- what remains of a walk: the next packet, and what comes after it
abbrev pub remaining : Chain → ℕ → ℕ → ℕ → Run → Option Slot → List Slot
remaining chain core cores d run None = []
remaining chain core cores d run (Some slot) = slot ∷ rest_from chain core cores d run (slot.in_run + 1)

-- the place from which legs are visited again, or the number of legs
abbrev pub back_of : Chain → ℕ
back_of chain = unwrap_or chain.back (length chain.legs)

-- how often a leg that is visited again was visited before a run
abbrev pub visits_of : Run → ℕ → ℕ
visits_of run place = if nat_lt place run.place then run.visit + 1 else run.visit

-- A run that a chain may come to. The packets of a leg's earlier visits took 1 ns each, so they are no more than the start.
pub record IsReachable (chain : Chain) (run : Run) : Type 0 where
  pub at_place : slice_get chain.legs run.place ≡ Some run.leg
  pub first : run.place < back_of chain → run.visit ≡ 0
  pub sent : (place : ℕ) (leg : Leg) → slice_get chain.legs place ≡ Some leg → back_of chain ≤ place
      → visits_of run place * unwrap_or (size leg) 0 ≤ run.start

-- what remains for a core of one run, where the next packet is known
abbrev pub rest_of_run : ℕ → ℕ → ℕ → Run → Option Slot → List Slot
rest_of_run core cores d run None = []
rest_of_run core cores d run (Some slot) = slot ∷ share core cores (run_entries d run (slot.in_run + 1))

-- a packet of a run that a core sends below the duration
pub record IsMine (core cores d : ℕ) (run : Run) (slot : Slot) : Type 0 where
  pub is : slot ≡ slot_of run slot.in_run
  pub within : (n : ℕ) → size run.leg ≡ Some n → slot.in_run < n
  pub early : slot.time < d
  pub own : slot.number % cores ≡ core

-- Where there is a next packet, its run is reachable and starts below the duration, and it is the core's. A stride is one from there.
abbrev pub IsStanding : Chain → ℕ → ℕ → ℕ → Run → Option Stride → Option Slot → Type 0
IsStanding chain core cores d run stride None = Unit {0}
IsStanding chain core cores d run stride (Some slot) =
    IsReachable chain run × ((run.start < d) × (IsMine core cores d run slot × IsAtStride run.leg run.start cores slot.in_run stride))

-- what holds of a walk
pub record IsWalk (chain : Chain) (core cores d : ℕ) (run : Run) (stride : Option Stride) (next : Option Slot) : Type 0 where
  pub walks : IsChain chain
  pub of_cores : core < cores
  pub few : cores ≤ 64
  pub short : d ≤ 10 ^ 18
  pub stands : IsStanding chain core cores d run stride next
