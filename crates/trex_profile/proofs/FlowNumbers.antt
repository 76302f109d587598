-- The flow numbers of a list of members.
use Rattle.std.proofs.Common.{◌≡◌, ℕ, ◌+◌, ◌<◌, false, List, length, get_or, map, take, drop, None, sym, ap, ◌∙◌}
use Rattle.trex_profile.specs.declared.member.Member.{Member}
use Rattle.trex_profile.specs.Cross.{flow_number, flows, has_flow, flow_refusal}
use Rattle.trex_profile.specs.Member.{member_stream}
use Rattle.trex_profile.specs.Order.{first_each}
use Rattle.trex_profile.proofs.OrderLemmas.{first_each-next}

-- the rest of the members, where this one's flow number is new
pub flow-next : (members : List Member) (at : ℕ) (m : Member) (keys : List ℕ) → at < length members → m ≡ get_or members at m
    → keys ≡ flows (take at (map member_stream members)) → has_flow keys (flow_number (member_stream m)) ≡ false
    → first_each (flow_refusal (map member_stream members)) (at + 1) (map member_stream (drop (at + 1) members))
    ≡ first_each (flow_refusal (map member_stream members)) at (map member_stream (drop at members))
flow-next members at m keys small is front absent =
    first_each-next (flow_refusal (map member_stream members)) member_stream members at m small
    (ap (λ (x : Member). flow_refusal (map member_stream members) at (member_stream x)) (sym is) ∙ flow-none)
  where
    flow-none : flow_refusal (map member_stream members) at (member_stream m) ≡ None
    flow-none = let new : has_flow (flows (take at (map member_stream members))) (flow_number (member_stream m)) ≡ false = ap (λ (k : List ℕ). has_flow k (flow_number (member_stream m))) (sym front) ∙ absent in rw new
