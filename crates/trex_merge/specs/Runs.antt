-- Runs: the packets at the front of a queue that stand before the packets of all others. Own.
use Rattle.std.specs.Prelude.{◌≡◌, ℕ, zero, suc, Bool, true, IsTrue, if◌then◌else◌, Option, None, Some, List, [], ◌∷◌, ◌++◌, take, drop}
use Rattle.std.specs.List.{slice_get}
use Rattle.trex_merge.specs.declared.key.Key.{Key}
use Rattle.trex_merge.specs.Frames.{Frame, key_of}
use Rattle.trex_merge.specs.Machine.{MillState}
use Rattle.trex_merge.specs.Order.{is_before}
use Rattle.trex_merge.specs.Queues.{Queue, all_waiting, at_place, waiting_at}

-- a key comes before another, or there is no other
abbrev pub stands_before : Key → Option Key → Bool
stands_before key None = true
stands_before key (Some other) = is_before key other

-- how many packets at the front stand before a key, or all where there is none; at most so many
abbrev pub run_length : Option Key → ℕ → List Frame → ℕ
run_length before most [] = 0
run_length before zero (frame ∷ frames) = 0
run_length before (suc most) (frame ∷ frames) = if stands_before (key_of frame) before then suc (run_length before most frames) else 0

-- the first so many packets that wait are taken away
abbrev pub dropped : ℕ → Queue → Queue
dropped many queue = record { waiting = drop many queue.waiting; coming = queue.coming }

-- the first so many packets that wait at a core are sent
abbrev pub passed : ℕ → ℕ → MillState → MillState
passed at many state = record {
  queues = at_place (dropped many) at state.queues;
  sent = state.sent ++ take many (waiting_at at state.queues);
  limit = state.limit;
}

-- there is a key, and another doesn't come before it
abbrev pub StandsNotBefore : Key → Option Key → Type 0
StandsNotBefore key None = ⊥
StandsNotBefore key (Some other) = ¬ IsTrue (is_before key other)

-- the first packets that wait at all cores but one don't stand before a key
abbrev pub OthersNotBefore : ℕ → Option Key → List Queue → Type 0
OthersNotBefore at before queues =
    (core : ℕ) (frame : Frame) (rest : List Frame) → ¬ (core ≡ at) → slice_get (all_waiting queues) core ≡ Some (frame ∷ rest) → StandsNotBefore (key_of frame) before

-- At a core that isn't one, a packet with a key waits first.
pub record WaitsElsewhere (at : ℕ) (key : Key) (queues : List Queue) : Type 0 where
  pub core : ℕ
  pub frame : Frame
  pub rest : List Frame
  pub other : ¬ (core ≡ at)
  pub there : slice_get (all_waiting queues) core ≡ Some (frame ∷ rest)
  pub is : key ≡ key_of frame

-- A key is the least of the first packets that wait at all cores but one, and there is none where no packet waits there.
pub record IsLeastElsewhere (at : ℕ) (before : Option Key) (queues : List Queue) : Type 0 where
  pub least : OthersNotBefore at before queues
  pub is_one : (key : Key) → before ≡ Some key → WaitsElsewhere at key queues
