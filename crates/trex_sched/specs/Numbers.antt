-- The numbers of a stream's packets. Own.
use Rattle.std.specs.Prelude.{◌≡◌, ℕ, ◌+◌, ◌==◌, List, [], ◌∷◌}
use Rattle.std.specs.List.{filter}
use Rattle.trex_sched.specs.declared.slot.Slot.{Slot}

-- the packets of a stream
abbrev pub of_stream : ℕ → List Slot → List Slot
of_stream stream slots = filter (λ slot. slot.stream == stream) slots

-- the first packet has that number, and each later one the next
abbrev pub AreNumbered : ℕ → List Slot → Type 0
AreNumbered first [] = Unit {0}
AreNumbered first (slot ∷ slots) = (slot.number ≡ first) × AreNumbered (first + 1) slots
