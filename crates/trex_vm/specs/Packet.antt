-- A packet, made of its template. Own.
use Rattle.std.specs.Prelude.{ℕ, ◌-◌, List, [], ◌∷◌, length, take, Option, Some, None}
use Rattle.std.specs.Option.{option_map, option_map_or}
use Rattle.trex_fields.specs.Bytes.{put}
use Rattle.trex_stamp.specs.declared.header.Stamp.{Stamp}
use Rattle.trex_stamp.specs.declared.header.Version.{Version}
use Rattle.trex_stamp.specs.Stamp.{size_of, stamp_bytes}
use Rattle.trex_vars.specs.declared.value.VarValue.{VarValue}
use Rattle.trex_vm.specs.declared.instr.Instr.{Instr}
use Rattle.trex_vm.specs.declared.instr.Instr.TheVariants.{Write, WriteMask}
use Rattle.trex_vm.specs.Effect.{fix_of, trim_of}
use Rattle.trex_vm.specs.Fix.{fixed}
use Rattle.trex_vm.specs.Write.{number_in, sum_in, shifted, with_number, with_masked_number}

-- the bytes after one instruction. A trim changes none: the template was cut before
abbrev pub after : List VarValue → Instr → List ℕ → List ℕ
after values (Write from at add big) bytes = with_number big from.size at (sum_in values from add) bytes
after values (WriteMask from at cast mask shift add big) bytes = with_masked_number big cast at mask (shifted shift (sum_in values from add)) bytes
after values instr bytes = option_map_or (λ fix. fixed fix bytes) (fix_of instr) bytes

-- the bytes after the instructions, one after another
abbrev pub after_all : List VarValue → List Instr → List ℕ → List ℕ
after_all values [] bytes = bytes
after_all values (instr ∷ rest) bytes = after_all values rest (after values instr bytes)

-- the packet's length: the number of the trim, or the whole template's length where there is none
abbrev pub trimmed : List VarValue → List Instr → ℕ → ℕ
trimmed values [] whole = whole
trimmed values (instr ∷ rest) whole = option_map_or (number_in values) (trim_of instr) (trimmed values rest whole)

-- the version of a latency header, where there is one
abbrev pub version_of : Option Stamp → Option Version
version_of stamp = option_map (λ s. s.version) stamp

-- the bytes with the latency header, where there is one, in place of the last bytes
abbrev pub stamped : Option Stamp → List ℕ → List ℕ
stamped None bytes = bytes
stamped (Some s) bytes = put (length bytes - size_of s.version) (stamp_bytes s) bytes

-- the packet before its instructions: the template, cut to its length, and stamped
abbrev pub stamped_template : List Instr → List VarValue → Option Stamp → List ℕ → List ℕ
stamped_template instrs values stamp template = stamped stamp (take (trimmed values instrs (length template)) template)

-- the packet: the stamped template after all instructions
abbrev pub packet : List Instr → List VarValue → Option Stamp → List ℕ → List ℕ
packet instrs values stamp template = after_all values instrs (stamped_template instrs values stamp template)
