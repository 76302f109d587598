-- The chains that a schedule walks.
use Rattle.std.specs.Prelude.{◌≡◌, ℕ, ◌+◌, ◌<◌, length, Option, None, Some, IfSome, List}
use Rattle.std.specs.List.{AllByRecursion, slice_get}
use Rattle.trex_sched.specs.declared.chain.Leg.{Leg}
use Rattle.trex_sched.specs.declared.chain.ChainSpec.{ChainSpec}
use Rattle.trex_sched.specs.Times.{HasPackets, size}
use Rattle.trex_merge.specs.Order.{EachPair}

-- The streams that follow one another, and the place of the one that follows the last (own).
pub record Chain : Type 0 where
  pub legs : List Leg
  pub back : Option ℕ

-- a chain as it is held in memory
abbrev pub chain_of : ChainSpec → Chain
chain_of chain = record { legs = chain.legs.items; back = chain.back }

-- A chain that can be walked: it has a leg, each burst has a packet, the legs name distinct streams, a leg that never ends is the last and
-- nothing follows it, and the leg that follows the last is one of the chain (own).
pub record IsChain (chain : Chain) : Type 0 where
  pub some : 0 < length chain.legs
  pub packets : AllByRecursion (λ leg. HasPackets leg.mode) chain.legs
  pub distinct : EachPair (λ a b. ¬ (a.stream ≡ b.stream)) chain.legs
  pub endless : (place : ℕ) (leg : Leg) → slice_get chain.legs place ≡ Some leg → size leg ≡ None
      → (place + 1 ≡ length chain.legs) × (chain.back ≡ None)
  pub back_within : IfSome chain.back (λ back. back < length chain.legs)
