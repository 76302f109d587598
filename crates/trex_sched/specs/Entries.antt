-- The packets that a chain sends (own).
use Rattle.std.specs.Prelude.{ℕ, ◌+◌, ◌-◌, ◌*◌, ◌%◌, ◌==◌, nat_lt, List}
use Rattle.std.specs.List.{filter, flat_map, range_with_len}
use Rattle.std.specs.Prelude.{map, unwrap_or}
use Rattle.trex_merge.specs.declared.key.Key.{Key}
use Rattle.trex_sched.specs.declared.run.Run.{Run}
use Rattle.trex_sched.specs.declared.slot.Slot.{Slot}
use Rattle.trex_sched.specs.Chain.{Chain}
use Rattle.trex_sched.specs.Runs.{runs}
use Rattle.trex_sched.specs.Times.{offset, size}

-- Packet k of a run. A run without an end is the stream's only one.
abbrev pub slot_of : Run → ℕ → Slot
slot_of run k = record {
  time = run.start + offset run.leg k;
  stream = run.leg.stream;
  number = run.visit * unwrap_or (size run.leg) 0 + k;
  in_run = k;
}

-- What a run sends below the duration, from packet k on. Packet k stands k ns or more after the start, so of a
-- run without an end only the first d can stand below d.
abbrev pub run_entries : ℕ → Run → ℕ → List Slot
run_entries d run k =
    filter (λ slot. nat_lt slot.time d) (map (slot_of run) (range_with_len k (unwrap_or (size run.leg) d - k)))

-- what a chain sends below the duration
abbrev pub entries : Chain → ℕ → List Slot
entries chain d = flat_map (λ run. run_entries d run 0) (runs chain d)

-- the part of one core: the numbers that leave its number as the remainder
abbrev pub share : ℕ → ℕ → List Slot → List Slot
share core cores slots = filter (λ slot. slot.number % cores == core) slots

-- what slots are ordered by
abbrev pub key_of : Slot → Key
key_of slot = record { time = slot.time; stream = slot.stream; number = slot.number }
