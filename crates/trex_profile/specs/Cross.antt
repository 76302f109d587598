-- The rules over several streams (own).
use Rattle.std.specs.Prelude.{ℕ, Bool, false, nat_eq, List, [], ◌∷◌, take, Option, None, Some, is_none, option_map}
use Rattle.std.specs.List.{list_any, filter_map}
use Rattle.trex_profile.specs.declared.rule.Rule.{Rule}
use Rattle.trex_profile.specs.declared.rule.Rule.TheVariants.{DuplicateId, NoSuchStream, SharedStream, DuplicateFlow}
use Rattle.trex_profile.specs.declared.refusal.Refusal.{Refusal}
use Rattle.trex_profile.specs.Order.{broken, first, first_each}
use Rattle.trex_profile.specs.Refusal.{whole_stream, in_stream}
use Rattle.trex_profile.specs.Stream.{Stream}
use Rattle.trex_profile.specs.Links.{ids, place_of, links}
use Rattle.trex_profile.specs.Visits.{reach_at, is_shared}
use Rattle.trex_profile.specs.Chains.{starts}

-- a rule about the stream at a position is broken where its test holds
abbrev pub rule_at : Rule → ℕ → Bool → Option Refusal
rule_at r position test = broken (in_stream position (whole_stream r)) test

-- an earlier stream has the same id
abbrev pub repeats_id : List ℕ → ℕ → ℕ → Bool
repeats_id ids position id = list_any (nat_eq id) (take position ids)

abbrev pub duplicate_refusal : List ℕ → ℕ → Stream → Option Refusal
duplicate_refusal ids position s = rule_at DuplicateId position (repeats_id ids position s.id)

-- no stream has the id
abbrev pub is_lost : List ℕ → Option ℕ → Bool
is_lost ids None = false
is_lost ids (Some id) = is_none (place_of ids id)

abbrev pub lost_refusal : List ℕ → ℕ → Stream → Option Refusal
lost_refusal ids position s = rule_at NoSuchStream position (is_lost ids s.next)

-- two different streams that start by themselves reach the stream
abbrev pub shared_refusal : List (Option ℕ) → List ℕ → ℕ → Stream → Option Refusal
shared_refusal links starts position s = rule_at SharedStream position (is_shared (reach_at links starts position))

-- the flow number of a stream, where it has a flow
abbrev pub flow_number : Stream → Option ℕ
flow_number s = option_map (λ flow. flow.number) s.flow

-- the flow numbers of streams, whatever the versions of their latency headers
abbrev pub flows : List Stream → List ℕ
flows streams = filter_map flow_number streams

-- there is a flow number, and it is among these
abbrev pub has_flow : List ℕ → Option ℕ → Bool
has_flow flows None = false
has_flow flows (Some flow) = list_any (nat_eq flow) flows

-- an earlier stream has the same flow number
abbrev pub flow_refusal : List Stream → ℕ → Stream → Option Refusal
flow_refusal streams position s = rule_at DuplicateFlow position (has_flow (flows (take position streams)) (flow_number s))

-- the rules over several streams, in their order
unfoldable pub cross_rules : List Stream → Option Refusal
cross_rules streams = first (
    first_each (duplicate_refusal (ids streams)) 0 streams
    ∷ first_each (lost_refusal (ids streams)) 0 streams
    ∷ first_each (shared_refusal (links streams) (starts streams)) 0 streams
    ∷ first_each (flow_refusal streams) 0 streams
    ∷ [])
