-- The rules on a stream's values (own).
use Rattle.std.specs.Prelude.{ℕ, ◌+◌, ◌*◌, ◌^◌, ◌==◌, ◌||◌, nat_lt, Bool, false, List, [], ◌∷◌, length, Option, option_map}
use Rattle.trex_sched.specs.declared.mode.Mode.{Mode}
use Rattle.trex_sched.specs.declared.mode.Mode.TheVariants.{Continuous, SingleBurst, MultiBurst}
use Rattle.trex_layers.specs.declared.sizes.TheConstants.{LONGEST_PACKET, SHORTEST_PACKET}
use Rattle.trex_vm.specs.Rules.{least_length, room_of, no_room_for_stamp}
use Rattle.trex_profile.specs.declared.raw.RateKind.{RateKind}
use Rattle.trex_profile.specs.declared.raw.RateKind.TheVariants.{Pps, BpsL1, BpsL2}
use Rattle.trex_profile.specs.declared.rule.Rule.TheVariants.{BadLength, RateZero, RateTooHigh, CountZero, NoRoomForStamp}
use Rattle.trex_profile.specs.declared.refusal.Refusal.{Refusal}
use Rattle.trex_profile.specs.declared.refusal.Breach.{Breach}
use Rattle.trex_profile.specs.declared.instructions.steps.Step.{Step}
use Rattle.trex_profile.specs.Given.{givens}
use Rattle.trex_profile.specs.InstrRules.{name_rule, range_rule, unknown_rule, twice_rule, trim_rule, field_rule, room_rule, fix_rule, shape_rule, names_rules, does_rules}
use Rattle.trex_profile.specs.Order.{first, first_each}
use Rattle.trex_profile.specs.Packets.{variables, program, stamp_version}
use Rattle.trex_profile.specs.Refusal.{rule, in_stream}
use Rattle.trex_profile.specs.Steps.{steps_of}
use Rattle.trex_profile.specs.Stream.{Stream}

-- The numerator of the period in nanoseconds, where the denominator is the rate in millionths. A frame has 4 bytes after its
-- template (its check sequence), and 20 more bytes on the line (preamble and gap).
abbrev pub numerator_of : RateKind → ℕ → ℕ
numerator_of Pps len = 10 ^ 15
numerator_of BpsL1 len = 10 ^ 15 * 8 * (len + 24)
numerator_of BpsL2 len = 10 ^ 15 * 8 * (len + 4)

-- the numerator of a stream's period
abbrev pub numerator : Stream → ℕ
numerator s = numerator_of s.rate.kind (length s.template)

-- the template is shorter than an Ethernet header or longer than the longest packet
abbrev pub length_wrong : List ℕ → Bool
length_wrong template = nat_lt (length template) SHORTEST_PACKET || nat_lt LONGEST_PACKET (length template)

-- a burst of the mode has no packets
abbrev pub no_packets : Mode → Bool
no_packets Continuous = false
no_packets (SingleBurst total) = total == 0
no_packets (MultiBurst per_burst ibg count) = per_burst == 0

-- what a stream's instructions come to, in order
abbrev pub steps : Stream → List Step
steps s = steps_of s.template s.instrs

-- the length of a stream's shortest packet
abbrev pub shortest : Stream → ℕ
shortest s = least_length (variables s) (program s) (length s.template)

-- how many bytes of it stand in front of the latency header
abbrev pub room : Stream → ℕ
room s = room_of (shortest s) (stamp_version s)

-- the rules on a stream's length and times, in their order
unfoldable pub time_rules : Stream → Option Breach
time_rules s = first (
    rule BadLength (length_wrong s.template)
    ∷ rule RateZero (s.rate.value == 0)
    ∷ rule RateTooHigh (nat_lt (numerator s) s.rate.value)
    ∷ rule CountZero (no_packets s.mode)
    ∷ [])

-- the rules on a stream's values, in groups
unfoldable pub value_rules : Stream → Option Breach
value_rules s = first (
    time_rules s
    ∷ names_rules s.template s.seed s.instrs
    ∷ does_rules (variables s) s.template (stamp_version s) (steps s)
    ∷ [])

-- The same in one list. A rule that speaks of instructions is looked at over all of them, in order.
abbrev pub value_list : Stream → List (Option Breach)
value_list s =
    rule BadLength (length_wrong s.template)
    ∷ rule RateZero (s.rate.value == 0)
    ∷ rule RateTooHigh (nat_lt (numerator s) s.rate.value)
    ∷ rule CountZero (no_packets s.mode)
    ∷ first_each (name_rule s.instrs) 0 s.instrs
    ∷ first_each (range_rule s.seed) 0 s.instrs
    ∷ first_each (unknown_rule s.template (givens 0 s.instrs)) 0 s.instrs
    ∷ first_each (twice_rule (steps s)) 0 (steps s)
    ∷ first_each (trim_rule (variables s) (length s.template)) 0 (steps s)
    ∷ rule NoRoomForStamp (no_room_for_stamp (shortest s) (stamp_version s))
    ∷ first_each field_rule 0 (steps s)
    ∷ first_each (room_rule (room s)) 0 (steps s)
    ∷ first_each (fix_rule s.template (room s)) 0 (steps s)
    ∷ first_each (shape_rule (program s)) 0 (steps s)
    ∷ []

-- the refusal for the values of the stream at a position
abbrev pub value_refusal : ℕ → Stream → Option Refusal
value_refusal position s = option_map (in_stream position) (value_rules s)
