-- The operands of instructions (own).
use Rattle.std.specs.Prelude.{ℕ, ◌||◌, Bool, List, [], ◌∷◌, Option, None, Some, is_none}
use Rattle.serde_json.specs.Data.{Data}
use Rattle.trex_profile.specs.declared.raw.RawPlace.{RawPlace}
use Rattle.trex_profile.specs.declared.refusal.Breach.{Breach}
use Rattle.trex_profile.specs.declared.rule.Rule.TheVariants.{BadInstruction, BadOperand}
use Rattle.trex_profile.specs.Instruction.{Instruction, FlowVar, ListVar, RandLimit, Tuple, Write, WriteMask, FixIpv4, FixHw, FixL6, Trim}
use Rattle.trex_profile.specs.Order.{first}
use Rattle.trex_profile.specs.Refusal.{rule_there}
use Rattle.trex_json.specs.declared.instr.Numbers.{Numbers}
use Rattle.trex_json.specs.declared.kinds.InstrWord.{InstrWord}
use Rattle.trex_json.specs.declared.kinds.InstrWord.TheVariants.{FlowVar as FlowVarWord, RandLimit as RandLimitWord, Tuple as TupleWord, Write as WriteWord, WriteMask as WriteMaskWord, FixIpv4 as FixIpv4Word, FixHw as FixHwWord, FixIpv6 as FixIpv6Word, Trim as TrimWord}
use Rattle.trex_json.specs.Kinds.{an_object}
use Rattle.trex_json.specs.Names.{wrong, value}
use Rattle.trex_json.specs.Rows as row

-- the numbers of a counter of so many bytes are wrong
unfoldable pub numbers_wrong : ℕ → Data → Bool
numbers_wrong size d =
    wrong row.min_value d || wrong (row.max_value size) d || wrong (row.init_value (value row.min_value d)) d || wrong row.step d

-- the numbers of a counter of so many bytes
abbrev pub numbers : ℕ → Data → Numbers
numbers size d = record {
  min = value row.min_value d;
  max = value (row.max_value size) d;
  init = value (row.init_value (value row.min_value d)) d;
  step = value row.step d;
}

-- the operands of a counter or of a list, but for its name and its values, are wrong
unfoldable pub flow_var_wrong : Data → Bool
flow_var_wrong d = wrong row.size d || wrong row.op d || numbers_wrong (value row.size d) d || wrong row.restart d

-- a counter of that name, or the list where there are values
abbrev pub flow_var : List ℕ → Option (List ℕ) → Data → Instruction
flow_var name None d =
    FlowVar name (value row.size d) (value row.op d) (value (row.init_value (value row.min_value d)) d) (value row.min_value d)
    (value (row.max_value (value row.size d)) d) (value row.step d) (value row.restart d)
flow_var name (Some values) d = ListVar name (value row.size d) (value row.op d) (value row.step d) values (value row.restart d)

-- the operands of random numbers with a limit, but for their name, are wrong
unfoldable pub rand_limit_wrong : ℕ → Data → Bool
rand_limit_wrong seed d =
    wrong row.size d || wrong row.min_value d || wrong (row.max_value (value row.size d)) d || wrong row.limit d
    || wrong (row.own_seed seed) d || wrong row.restart d

-- random numbers of that name with a limit
abbrev pub rand_limit : List ℕ → ℕ → Data → Instruction
rand_limit name seed d =
    RandLimit name (value row.size d) (value row.min_value d) (value (row.max_value (value row.size d)) d) (value row.limit d)
    (value (row.own_seed seed) d) (value row.restart d)

-- the operands of pairs of an address and a port, but for their name, are wrong
unfoldable pub tuple_wrong : Data → Bool
tuple_wrong d =
    wrong row.ip_min d || wrong row.ip_max d || wrong row.port_min d || wrong row.port_max d || wrong row.limit_flows d
    || wrong row.restart d

-- pairs of that name of an address and a port
abbrev pub tuple : List ℕ → Data → Instruction
tuple name d =
    Tuple name (value row.ip_min d) (value row.ip_max d) (value row.port_min d) (value row.port_max d) (value row.limit_flows d)
    (value row.restart d)

-- the operands of a write, but for its name and its place, are wrong
unfoldable pub write_wrong : Data → Bool
write_wrong d = wrong row.add_value d || wrong row.is_big_endian d

-- a write of that variable at a place
abbrev pub write : List ℕ → RawPlace → Data → Instruction
write name place d = Write name place (value row.add_value d) (value row.is_big_endian d)

-- the operands of a masked write, but for its name and its place, are wrong
unfoldable pub write_mask_wrong : Data → Bool
write_mask_wrong d =
    wrong row.add_value d || wrong row.is_big_endian d || wrong row.cast_size d || wrong row.mask d || wrong row.shift d

-- a masked write of that variable at a place
abbrev pub write_mask : List ℕ → RawPlace → Data → Instruction
write_mask name place d =
    WriteMask name place (value row.cast_size d) (value row.mask d) (value row.shift d) (value row.add_value d)
    (value row.is_big_endian d)

-- the operands of the fixes of a header and of what stands behind it are wrong
unfoldable pub fix_hw_wrong : Data → Bool
fix_hw_wrong d = wrong row.l2_len d || wrong row.l3_len d || wrong row.l4_type d

-- the fixes of a header and of what stands behind it
abbrev pub fix_hw : Data → Instruction
fix_hw d = FixHw (value row.l2_len d) (value row.l3_len d) (value row.l4_type d)

-- the operands of the fix of what stands behind an IPv6 header are wrong
unfoldable pub fix_ipv6_wrong : Data → Bool
fix_ipv6_wrong d = wrong row.l2_len d || wrong row.l4_type6 d

-- the fix of what stands behind an IPv6 header
abbrev pub fix_ipv6 : Data → Instruction
fix_ipv6 d = FixL6 (value row.l2_len d) (value row.l4_type6 d)

-- an operand of an instruction of that word is missing or not of its kind, in a stream of that seed
abbrev pub operands_wrong : ℕ → InstrWord → Data → Bool
operands_wrong seed FlowVarWord d = wrong row.name d || wrong row.value_list d || flow_var_wrong d
operands_wrong seed RandLimitWord d = wrong row.name d || rand_limit_wrong seed d
operands_wrong seed TupleWord d = wrong row.name d || tuple_wrong d
operands_wrong seed WriteWord d = wrong row.name d || wrong row.write_offset d || write_wrong d
operands_wrong seed WriteMaskWord d = wrong row.name d || wrong row.write_offset d || write_mask_wrong d
operands_wrong seed FixIpv4Word d = wrong row.fix_offset d
operands_wrong seed FixHwWord d = fix_hw_wrong d
operands_wrong seed FixIpv6Word d = fix_ipv6_wrong d
operands_wrong seed TrimWord d = wrong row.name d

-- the instruction of that word, its defaults filled in
abbrev pub instruction_by : ℕ → InstrWord → Data → Instruction
instruction_by seed FlowVarWord d = flow_var (value row.name d) (value row.value_list d) d
instruction_by seed RandLimitWord d = rand_limit (value row.name d) seed d
instruction_by seed TupleWord d = tuple (value row.name d) d
instruction_by seed WriteWord d = write (value row.name d) (value row.write_offset d) d
instruction_by seed WriteMaskWord d = write_mask (value row.name d) (value row.write_offset d) d
instruction_by seed FixIpv4Word d = FixIpv4 (value row.fix_offset d)
instruction_by seed FixHwWord d = fix_hw d
instruction_by seed FixIpv6Word d = fix_ipv6 d
instruction_by seed TrimWord d = Trim (value row.name d)

-- the rules on the instruction at a place
unfoldable pub instr_rules : ℕ → ℕ → Data → Option Breach
instr_rules seed place d = first (
    rule_there BadInstruction place (is_none (an_object d) || wrong row.instr_type d)
    ∷ rule_there BadOperand place (operands_wrong seed (value row.instr_type d) d)
    ∷ [])

-- the instruction, its defaults filled in
abbrev pub instruction_of : ℕ → Data → Instruction
instruction_of seed d = instruction_by seed (value row.instr_type d) d
