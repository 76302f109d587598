use Rattle.std.proofs.Common.{◌≡◌, ℕ, ◌≤◌, List, length, map, All, IfSome, subst}
use Rattle.std.specs.List.{AllByRecursion}
use Rattle.std.proofs.lemmas.List.Elements.{All-map, recursion_from_All}
use Rattle.trex_layers.specs.declared.sizes.TheConstants.{LONGEST_PACKET}
use Rattle.trex_profile.specs.declared.member.Member.{Member}
use Rattle.trex_profile.specs.Flow.{IsFlow}
use Rattle.trex_profile.specs.Member.{member_stream}
use Rattle.trex_profile.specs.Packets.{EndsInStamp, packet_of}
use Rattle.trex_profile.specs.Stream.{Stream}
use Rattle.trex_profile.proofs.profile.Profile.len.Goals as goal

-- no packet of a stream is longer than the longest
abbrev IsShort : Stream → Type 0
IsShort s = (number place time : ℕ) → length (packet_of s number place time) ≤ LONGEST_PACKET

-- what holds of each member holds of each stream
each-stream : (P : Stream → Type 0) (members : List Member) (p : List Stream) → map member_stream members ≡ p → All (λ m. P (member_stream m)) members
    → AllByRecursion P p
each-stream P members p is each = subst (AllByRecursion P) is (recursion_from_All P (map member_stream members) (All-map P member_stream members each))

-- the flow of a stream that has one fits its version
abbrev HasFlow : Stream → Type 0
HasFlow s = IfSome s.flow IsFlow

pub returns-clause-short : goal.returns-clause-short
returns-clause-short c =
    each-stream IsShort c.self.inside.members.items _ c.self.view_is (λ k d below. (c.self.invariant.2 k d below).short)

pub returns-clause-stamped : goal.returns-clause-stamped
returns-clause-stamped c =
    each-stream EndsInStamp c.self.inside.members.items _ c.self.view_is (λ k d below. (c.self.invariant.2 k d below).stamped)

pub returns-clause-flows : goal.returns-clause-flows
returns-clause-flows c =
    each-stream HasFlow c.self.inside.members.items _ c.self.view_is (λ k d below. (c.self.invariant.2 k d below).flows)
