-- The rules on the shape of one entry, one a line, in the order in which they are looked at (own).
use Rattle.std.specs.Prelude.{◌||◌, ◌&&◌, nat_lt, if◌then◌else◌, List, [], ◌∷◌, length, Option, None, is_none}
use Rattle.serde_json.specs.Data.{Data}
use Rattle.trex_headers.specs.Built.{too_long}
use Rattle.trex_profile.specs.declared.refusal.Breach.{Breach}
use Rattle.trex_profile.specs.declared.rule.Rule.TheVariants.{BadEntry, BadStreamId, BadStream, BadEnabled, BadSelfStart, BadIsg, BadNext, BadActionCount, BadSeed, BadPacket, BadBinary, BadLayer, LayersTooLong, BadMode, BadRate, BadCount, BadIbg, BadFlowStats, BadVm, TooManyInstructions}
use Rattle.trex_profile.specs.Order.{first_each}
use Rattle.trex_profile.specs.Refusal.{rule}
use Rattle.trex_json.specs.Kinds.{an_object}
use Rattle.trex_json.specs.Layers.{has_binary, layer_rule, layers_of, order_rule}
use Rattle.trex_json.specs.Names.{wrong, value}
use Rattle.trex_json.specs.Operands.{instr_rules}
use Rattle.trex_json.specs.Rows as row
use Rattle.trex_json.specs.Shape.{packet_wrong, rate_wrong, count_wrong, ibg_wrong, flow_wrong, vm_wrong, items, word_of}

-- a rule on a packet without bytes
abbrev pub by_layers : Data → Option Breach → Option Breach
by_layers packet rule = if has_binary packet then None else rule

-- the rules on an entry and on its stream
abbrev pub rules_of : Data → Data → List (Option Breach)
rules_of entry stream =
    rule BadEntry (is_none (an_object entry))
    ∷ rule BadStreamId (wrong row.stream_id entry)
    ∷ rule BadStream (wrong row.stream entry)
    ∷ rule BadEnabled (wrong row.enabled stream)
    ∷ rule BadSelfStart (wrong row.self_start stream)
    ∷ rule BadIsg (wrong row.isg stream)
    ∷ rule BadNext (wrong row.next stream)
    ∷ rule BadActionCount (wrong row.action_count stream)
    ∷ rule BadSeed (wrong row.seed stream)
    ∷ rule BadPacket (packet_wrong stream)
    ∷ rule BadBinary (has_binary (value row.packet stream) && wrong row.binary (value row.packet stream))
    ∷ by_layers (value row.packet stream) (rule BadLayer (wrong row.layers (value row.packet stream)))
    -- BadLayer, layer by layer
    ∷ by_layers (value row.packet stream) (first_each layer_rule 0 (value row.layers (value row.packet stream)))
    -- LayerOrder
    ∷ by_layers (value row.packet stream) (order_rule (layers_of (value row.packet stream)))
    ∷ by_layers (value row.packet stream) (rule LayersTooLong (too_long (layers_of (value row.packet stream))))
    ∷ rule BadMode (wrong row.mode stream || wrong row.mode_type (value row.mode stream))
    ∷ rule BadRate (rate_wrong (value row.mode stream))
    ∷ rule BadCount (count_wrong (word_of stream) (value row.mode stream))
    ∷ rule BadIbg (ibg_wrong (word_of stream) (value row.mode stream))
    ∷ rule BadFlowStats (flow_wrong stream)
    ∷ rule BadVm (vm_wrong stream)
    ∷ rule TooManyInstructions (nat_lt 256 (length (items stream)))
    -- BadInstruction and BadOperand, instruction by instruction
    ∷ first_each (instr_rules (value row.seed stream)) 0 (items stream)
    ∷ []

-- the rules on an entry, its stream as it says it
abbrev pub shape_rules : Data → List (Option Breach)
shape_rules entry = rules_of entry (value row.stream entry)
