-- What many chains send (own).
use Rattle.std.specs.Prelude.{◌≡◌, ℕ, List, map}
use Rattle.trex_merge.specs.Order.{EachPair, joined}
use Rattle.trex_sched.specs.declared.slot.Slot.{Slot}
use Rattle.trex_sched.specs.Chain.{Chain}
use Rattle.trex_sched.specs.Entries.{entries}

-- the legs of all chains name distinct streams
abbrev pub HaveDistinctStreams : List Chain → Type 0
HaveDistinctStreams chains = EachPair (λ a b. ¬ (a.stream ≡ b.stream)) (joined (map (λ chain. chain.legs) chains))

-- what the chains send below the duration
abbrev pub all_entries : List Chain → ℕ → List Slot
all_entries chains d = joined (map (λ chain. entries chain d) chains)
