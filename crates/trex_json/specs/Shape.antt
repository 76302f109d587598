-- The rules on the shape of one entry, and what an entry says (own).
use Rattle.std.specs.Prelude.{ℕ, ◌||◌, ◌&&◌, nat_lt, Bool, true, false, List, [], ◌∷◌, length, map, Option, None, Some, is_none, option_map, if◌then◌else◌}
use Rattle.serde_json.specs.Data.{Data}
use Rattle.trex_sched.specs.declared.mode.Mode.{Mode}
use Rattle.trex_sched.specs.declared.mode.Mode.TheVariants.{Continuous, SingleBurst, MultiBurst}
use Rattle.trex_profile.specs.declared.raw.RawRate.{RawRate}
use Rattle.trex_profile.specs.declared.flow.Flow.{Flow}
use Rattle.trex_profile.specs.declared.refusal.Breach.{Breach}
use Rattle.trex_profile.specs.declared.refusal.Refusal.{Refusal}
use Rattle.trex_profile.specs.declared.rule.Rule.TheVariants.{BadEntry, BadStreamId, BadStream, BadEnabled, BadSelfStart, BadIsg, BadNext, BadActionCount, BadSeed, BadPacket, BadMode, BadRate, BadCount, BadIbg, BadFlowStats, BadVm, TooManyInstructions}
use Rattle.trex_profile.specs.Instruction.{Instruction}
use Rattle.trex_profile.specs.Order.{first, first_each}
use Rattle.trex_profile.specs.Refusal.{rule, in_stream}
use Rattle.trex_profile.specs.Stream.{Stream}
use Rattle.trex_json.specs.declared.kinds.ModeWord.{ModeWord}
use Rattle.trex_json.specs.declared.kinds.ModeWord.TheVariants.{Continuous as ContinuousWord, SingleBurst as SingleBurstWord, MultiBurst as MultiBurstWord}
use Rattle.trex_json.specs.declared.stream.Fields.{Fields}
use Rattle.trex_json.specs.Kinds.{an_object}
use Rattle.trex_json.specs.Layers.{has_binary, has_layers, template_rules, template_of}
use Rattle.trex_json.specs.Names.{wrong, value}
use Rattle.trex_json.specs.Operands.{instr_rules, instruction_of}
use Rattle.trex_json.specs.Rows as row

-- the rules on the plain names of a stream
unfoldable pub field_rules : Data → Option Breach
field_rules stream = first (
    rule BadEnabled (wrong row.enabled stream)
    ∷ rule BadSelfStart (wrong row.self_start stream)
    ∷ rule BadIsg (wrong row.isg stream)
    ∷ rule BadNext (wrong row.next stream)
    ∷ rule BadActionCount (wrong row.action_count stream)
    ∷ rule BadSeed (wrong row.seed stream)
    ∷ [])

-- the plain names of a stream
abbrev pub fields : Data → Fields
fields stream = record {
  enabled = value row.enabled stream;
  self_start = value row.self_start stream;
  isg = value row.isg stream;
  next = value row.next stream;
  action_count = value row.action_count stream;
  seed = value row.seed stream;
}

-- a packet is missing or no object, or has neither bytes nor layers
unfoldable pub packet_wrong : Data → Bool
packet_wrong stream =
    wrong row.packet stream || not_there (has_binary (value row.packet stream)) (has_layers (value row.packet stream))
  where
    not_there : Bool → Bool → Bool
    not_there true layers = false
    not_there false true = false
    not_there false false = true

-- the instructions of a stream
abbrev pub items : Data → List Data
items stream = value row.instructions (value row.vm stream)

-- a rate, its type or its value is wrong
unfoldable pub rate_wrong : Data → Bool
rate_wrong mode =
    wrong row.rate mode || wrong row.rate_type (value row.rate mode) || wrong row.rate_value (value row.rate mode)

-- the rate of a mode
abbrev pub rate : Data → RawRate
rate mode = record { kind = value row.rate_type (value row.rate mode); value = value row.rate_value (value row.rate mode) }

-- a count of a mode is wrong
abbrev pub count_wrong : ModeWord → Data → Bool
count_wrong ContinuousWord mode = false
count_wrong SingleBurstWord mode = wrong row.total_pkts mode
count_wrong MultiBurstWord mode = wrong row.pkts_per_burst mode || wrong row.count mode

-- the gap between bursts is wrong
abbrev pub ibg_wrong : ModeWord → Data → Bool
ibg_wrong ContinuousWord mode = false
ibg_wrong SingleBurstWord mode = false
ibg_wrong MultiBurstWord mode = wrong row.ibg mode

-- the rules on the packets of a mode
unfoldable pub count_rules : ModeWord → Data → Option Breach
count_rules word mode = first (rule BadCount (count_wrong word mode) ∷ rule BadIbg (ibg_wrong word mode) ∷ [])

-- how a mode of that word sends its packets
abbrev pub counted : ModeWord → Data → Mode
counted ContinuousWord mode = Continuous
counted SingleBurstWord mode = SingleBurst (value row.total_pkts mode)
counted MultiBurstWord mode = MultiBurst (value row.pkts_per_burst mode) (value row.ibg mode) (value row.count mode)

-- the word of a stream's mode
abbrev pub word_of : Data → ModeWord
word_of stream = value row.mode_type (value row.mode stream)

-- the rules on a stream's mode
unfoldable pub mode_rules : Data → Option Breach
mode_rules stream = first (
    rule BadMode (wrong row.mode stream || wrong row.mode_type (value row.mode stream))
    ∷ rule BadRate (rate_wrong (value row.mode stream))
    ∷ count_rules (word_of stream) (value row.mode stream)
    ∷ [])

-- the rule, the version or the number of a flow is wrong
unfoldable pub flow_names_wrong : Data → Bool
flow_names_wrong d = wrong row.rule_type d || wrong row.version d || wrong (row.flow_number (value row.version d)) d

-- the version and the number of a flow
abbrev pub flow : Data → Flow
flow d = record { version = value row.version d; number = value (row.flow_number (value row.version d)) d }

-- a flow is wrong: no object, or its `enabled` isn't Bool, or it is enabled and another of its names is wrong
unfoldable pub flow_wrong : Data → Bool
flow_wrong stream =
    wrong row.flow_stats stream
    || wrong row.flow_enabled (value row.flow_stats stream)
    || (value row.flow_enabled (value row.flow_stats stream) && flow_names_wrong (value row.flow_stats stream))

-- a program is wrong: no object, or its instructions are no array
unfoldable pub vm_wrong : Data → Bool
vm_wrong stream = wrong row.vm stream || wrong row.instructions (value row.vm stream)

-- the flow of a stream that has one
abbrev pub flow_of : Data → Option Flow
flow_of stream = if value row.flow_enabled (value row.flow_stats stream) then Some (flow (value row.flow_stats stream)) else None

-- the rules on a stream's flow and instructions
unfoldable pub effect_rules : ℕ → Data → Option Breach
effect_rules seed stream = first (
    rule BadFlowStats (flow_wrong stream)
    ∷ rule BadVm (vm_wrong stream)
    ∷ rule TooManyInstructions (nat_lt 256 (length (items stream)))
    ∷ first_each (instr_rules seed) 0 (items stream)
    ∷ [])

-- the instructions of a stream of that seed
abbrev pub instrs_of : ℕ → Data → List Instruction
instrs_of seed stream = map (instruction_of seed) (items stream)

-- the rules on a stream
unfoldable pub stream_rules : Data → Option Breach
stream_rules stream = first (
    field_rules stream
    ∷ rule BadPacket (packet_wrong stream)
    ∷ template_rules (value row.packet stream)
    ∷ mode_rules stream
    ∷ effect_rules (value row.seed stream) stream
    ∷ [])

-- a stream of that id
unfoldable pub stream_of : ℕ → Data → Stream
stream_of id stream = record {
  id = id;
  enabled = value row.enabled stream;
  self_start = value row.self_start stream;
  isg = value row.isg stream;
  next = value row.next stream;
  action_count = value row.action_count stream;
  seed = value row.seed stream;
  template = template_of (value row.packet stream);
  rate = rate (value row.mode stream);
  mode = counted (word_of stream) (value row.mode stream);
  flow = flow_of stream;
  instrs = instrs_of (value row.seed stream) stream;
}

-- the rules on an entry
unfoldable pub entry_rules : Data → Option Breach
entry_rules entry = first (
    rule BadEntry (is_none (an_object entry))
    ∷ rule BadStreamId (wrong row.stream_id entry)
    ∷ rule BadStream (wrong row.stream entry)
    ∷ stream_rules (value row.stream entry)
    ∷ [])

-- the stream of an entry
abbrev pub entry_stream : Data → Stream
entry_stream entry = stream_of (value row.stream_id entry) (value row.stream entry)

-- the refusal for the shape of the entry at a position
abbrev pub shape_refusal : ℕ → Data → Option Refusal
shape_refusal position entry = option_map (in_stream position) (entry_rules entry)
