-- What an instruction does to a packet, by three projections: each kind of instruction writes a number, fixes a checksum or cuts the packet. Own.
use Rattle.std.specs.Prelude.{ℕ, ◌+◌, Bool, ◌&&◌, nat_le, nat_lt, List, [], ◌∷◌, Option, Some, None}
use Rattle.std.specs.Option.{option_map_or}
use Rattle.trex_headers.specs.declared.constants.TheConstants.{IPV6_LEN}
use Rattle.trex_headers.specs.declared.layer.Version.TheVariants.{V4, V6}
use Rattle.trex_vm.specs.declared.effect.Fix.{Fix}
use Rattle.trex_vm.specs.declared.effect.Fix.TheVariants.{Header, Segment}
use Rattle.trex_vm.specs.declared.effect.Span.{Span}
use Rattle.trex_vm.specs.declared.instr.Instr.{Instr}
use Rattle.trex_vm.specs.declared.instr.Instr.TheVariants.{Write, WriteMask, FixIpv4, FixL4, FixL6, Trim}
use Rattle.trex_vm.specs.declared.instr.Operand.{Operand}
use Rattle.trex_vm.specs.Fix.{field_of}

-- the first byte behind some bytes
abbrev pub end_of : Span → ℕ
end_of span = span.at + span.size

-- the bytes that a write puts its number in
abbrev pub write_of : Instr → Option Span
write_of (Write from at add big) = Some (record { at = at; size = from.size })
write_of (WriteMask from at cast mask shift add big) = Some (record { at = at; size = cast })
write_of _ = None

-- what a fix writes the checksum of
abbrev pub fix_of : Instr → Option Fix
fix_of (FixIpv4 at) = Some (Header at)
fix_of (FixL4 ip header kind) = Some (Segment V4 ip header kind)
fix_of (FixL6 ip kind) = Some (Segment V6 ip IPV6_LEN kind)
fix_of _ = None

-- the operand whose number of bytes a trim leaves
abbrev pub trim_of : Instr → Option Operand
trim_of (Trim from) = Some from
trim_of _ = None

-- the operand of the first trim, if there is one
abbrev pub first_trim : List Instr → Option Operand
first_trim [] = None
first_trim (instr ∷ rest) = option_map_or (λ from. Some from) (trim_of instr) (first_trim rest)

-- the operand that an instruction takes: that of a write or a trim
abbrev pub operand_of : Instr → Option Operand
operand_of (Write from at add big) = Some from
operand_of (WriteMask from at cast mask shift add big) = Some from
operand_of instr = trim_of instr

-- the bytes that a write or a fix changes: those of the write, or the field of the fix, or none
abbrev pub changed : Option Span → Option Fix → Span
changed (Some span) fix = span
changed None (Some fix) = field_of fix
changed None None = record { at = 0; size = 0 }

-- the bytes that an instruction changes
abbrev pub span_of : Instr → Span
span_of instr = changed (write_of instr) (fix_of instr)

-- the instruction writes byte k
abbrev pub writes_byte : Instr → ℕ → Bool
writes_byte instr k = nat_le (span_of instr).at k && nat_lt k (end_of (span_of instr))
