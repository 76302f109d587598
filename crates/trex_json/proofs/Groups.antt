-- The groups of rules, and the one list that they make.
use Rattle.std.proofs.Common.{◌≡◌, ◌||◌, ◌&&◌, nat_lt, if◌then◌else◌, Bool, true, false, Option, None, List, [], ◌∷◌, ◌++◌, length, is_none, refl, ◌∙◌}
use Rattle.serde_json.specs.Data.{Data}
use Rattle.trex_headers.specs.Built.{too_long}
use Rattle.trex_profile.specs.declared.refusal.Breach.{Breach}
use Rattle.trex_profile.specs.declared.rule.Rule.TheVariants.{BadEntry, BadStreamId, BadStream, BadEnabled, BadSelfStart, BadIsg, BadNext, BadActionCount, BadSeed, BadPacket, BadBinary, BadLayer, LayersTooLong, BadMode, BadRate, BadCount, BadIbg, BadFlowStats, BadVm, TooManyInstructions}
use Rattle.trex_profile.specs.Order.{first, first_each}
use Rattle.trex_profile.specs.Refusal.{rule}
use Rattle.trex_profile.proofs.RuleLemmas.{after, group}
use Rattle.trex_json.specs.Kinds.{an_object}
use Rattle.trex_json.specs.Layers.{has_binary, layer_rule, layers_of, order_rule, layers_rules, template_rules}
use Rattle.trex_json.specs.Names.{wrong, value}
use Rattle.trex_json.specs.Operands.{instr_rules}
use Rattle.trex_json.specs.Rows as row
use Rattle.trex_json.specs.Order.{by_layers, rules_of, shape_rules}
use Rattle.trex_json.specs.Shape.{field_rules, packet_wrong, rate_wrong, count_wrong, ibg_wrong, count_rules, mode_rules, flow_wrong, vm_wrong, items, effect_rules, word_of, stream_rules, entry_rules}

-- the rules on a packet, one after another
abbrev template_list : Data → List (Option Breach)
template_list packet =
    rule BadBinary (has_binary packet && wrong row.binary packet)
    ∷ by_layers packet (rule BadLayer (wrong row.layers packet))
    ∷ by_layers packet (first_each layer_rule 0 (value row.layers packet))
    ∷ by_layers packet (order_rule (layers_of packet))
    ∷ by_layers packet (rule LayersTooLong (too_long (layers_of packet)))
    ∷ []

-- the rules on a packet and what follows are one list
template_in_order : (packet : Data) (ys zs : List (Option Breach)) → first ys ≡ first zs → first (template_rules packet ∷ ys) ≡ first (template_list packet ++ zs)
unfolding template_rules layers_rules
template_in_order packet ys zs same =
    by_test (has_binary packet) (wrong row.binary packet) (rule BadLayer (wrong row.layers packet)) (first_each layer_rule 0 (value row.layers packet))
    (order_rule (layers_of packet)) (rule LayersTooLong (too_long (layers_of packet)))
  where
    by_test : (test wrong_binary : Bool) (bad each order long : Option Breach)
        → first ((if test then rule BadBinary wrong_binary else first (bad ∷ each ∷ first (order ∷ long ∷ []) ∷ [])) ∷ ys)
        ≡ first (rule BadBinary (test && wrong_binary) ∷ (if test then None else bad) ∷ (if test then None else each) ∷ (if test then None else order) ∷ (if test then None else long) ∷ zs)
    by_test true wrong_binary bad each order long = after (rule BadBinary wrong_binary ∷ []) ys (None ∷ None ∷ None ∷ None ∷ zs) same
    by_test false wrong_binary bad each order long =
        group (bad ∷ each ∷ first (order ∷ long ∷ []) ∷ []) ys zs same
        ∙ after (bad ∷ each ∷ []) (first (order ∷ long ∷ []) ∷ zs) (order ∷ long ∷ zs) (group (order ∷ long ∷ []) zs zs refl)

-- the rules on an entry and on its stream, in groups and in one list
in_order : (entry stream : Data)
    → first (
    rule BadEntry (is_none (an_object entry)) ∷ rule BadStreamId (wrong row.stream_id entry) ∷ rule BadStream (wrong row.stream entry) ∷ stream_rules stream ∷ [])
    ≡ first (rules_of entry stream)
unfolding stream_rules field_rules mode_rules count_rules effect_rules
in_order entry stream =
    let Rules : Type 0 = List (Option Breach) in
    let mode = value row.mode stream in
    let heads : Rules = rule BadEntry (is_none (an_object entry)) ∷ rule BadStreamId (wrong row.stream_id entry) ∷ rule BadStream (wrong row.stream entry) ∷ [] in
    let fields : Rules = rule BadEnabled (wrong row.enabled stream) ∷ rule BadSelfStart (wrong row.self_start stream) ∷ rule BadIsg (wrong row.isg stream)
    ∷ rule BadNext (wrong row.next stream) ∷ rule BadActionCount (wrong row.action_count stream) ∷ rule BadSeed (wrong row.seed stream) ∷ [] in
    let packet = value row.packet stream in
    let packets : Rules = template_list packet in
    let modes : Rules = rule BadMode (wrong row.mode stream || wrong row.mode_type mode) ∷ rule BadRate (rate_wrong mode) ∷ [] in
    let counts : Rules = rule BadCount (count_wrong (word_of stream) mode) ∷ rule BadIbg (ibg_wrong (word_of stream) mode) ∷ [] in
    let works : Rules = rule BadFlowStats (flow_wrong stream) ∷ rule BadVm (vm_wrong stream) ∷ rule TooManyInstructions (nat_lt 256 (length (items stream)))
    ∷ first_each (instr_rules (value row.seed stream)) 0 (items stream) ∷ [] in
    let last : first (first works ∷ []) ≡ first works = group works [] [] refl in
    let from_modes : first (first (modes ++ first counts ∷ []) ∷ first works ∷ []) ≡ first (modes ++ (counts ++ works)) =
    group (modes ++ first counts ∷ []) (first works ∷ []) works last ∙ after modes (first counts ∷ works) (counts ++ works) (group counts works works refl) in
    let from_template = template_in_order packet (first (modes ++ first counts ∷ []) ∷ first works ∷ []) (modes ++ (counts ++ works)) from_modes in
    let bad : Rules = rule BadPacket (packet_wrong stream) ∷ [] in
    let ends : Rules = template_rules packet ∷ first (modes ++ first counts ∷ []) ∷ first works ∷ [] in
    let from_packet = after bad ends (packets ++ (modes ++ (counts ++ works))) from_template in
    let all = group fields (bad ++ ends) (bad ++ (packets ++ (modes ++ (counts ++ works)))) from_packet in
    let whole : Rules = first fields ∷ (bad ++ ends) in
    after heads (first whole ∷ []) (fields ++ (bad ++ (packets ++ (modes ++ (counts ++ works))))) (group whole [] [] refl ∙ all)

-- the same of an entry
pub entry_rules-in_order : (entry : Data) → entry_rules entry ≡ first (shape_rules entry)
unfolding entry_rules
entry_rules-in_order entry = in_order entry (value row.stream entry)
