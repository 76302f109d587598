-- Programs, and for which templates and values they are meant. Own.
use Rattle.std.specs.Prelude.{◌≡◌, ℕ, ◌<◌, ◌≤◌, negsuc, pos, ◌≤ℤ◌, false, List, length, take, Option, None, IfSome, All}
use Rattle.std.specs.List.{AllZip, list_any, count_by}
use Rattle.trex_layers.specs.declared.sizes.TheConstants.{LONGEST_PACKET, SHORTEST_PACKET}
use Rattle.trex_fields.specs.Bytes.{IsSize}
use Rattle.trex_stamp.specs.declared.header.Version.{Version}
use Rattle.trex_vars.specs.Variable.{Variable}
use Rattle.trex_vars.specs.Bounds.{IsBetween, least, greatest}
use Rattle.trex_vars.specs.Check.{fault_of}
use Rattle.trex_vars.specs.declared.value.VarValue.{VarValue}
use Rattle.trex_vm.specs.declared.instr.Instr.{Instr}
use Rattle.trex_vm.specs.declared.instr.Instr.TheVariants.{Write, WriteMask}
use Rattle.trex_vm.specs.Effect.{operand_of}
use Rattle.trex_vm.specs.Packet.{trimmed}
use Rattle.trex_vm.specs.Rules.{least_length, room_of, no_room_for_stamp, is_trim, writes_past, misses_header, overwrites_header_kind}

-- what contracts see of a program: its instructions, its template's length, its least packet length, and the version of its latency header
pub record ProgramView : Type 0 where
  pub instrs : List Instr
  pub template : ℕ
  pub least : ℕ
  pub stamp : Option Version

-- the program of some instructions over some variables for a template, whose packets end in a latency header of a version, or in none
abbrev pub program_view : List Instr → List Variable → List ℕ → Option Version → ProgramView
program_view instrs vars template stamp =
    record { instrs = instrs; template = length template; least = least_length vars instrs (length template); stamp = stamp }

-- the bytes of the shortest packet in front of its latency header
abbrev pub room : ProgramView → ℕ
room p = room_of p.least p.stamp

-- the operand's variable is one of so many
abbrev pub TakesFrom : ℕ → Instr → Type 0
TakesFrom count instr = IfSome (operand_of instr) (λ from. from.var < count)

-- a write has 1, 2, 4 or 8 bytes, and a shift goes by at most 63 bits
abbrev pub IsFormed : Instr → Type 0
IsFormed (Write from at add big) = IsSize from.size
IsFormed (WriteMask from at cast mask shift add big) = IsSize cast × (negsuc 62 ≤ℤ shift) × (shift ≤ℤ pos 63)
IsFormed _ = Unit {0}

-- each operand's variable is one of the variables, and each instruction is formed
pub record AreOperandsOf (vars : List Variable) (instrs : List Instr) : Type 0 where
  pub operands : All (TakesFrom (length vars)) instrs
  pub formed : All IsFormed instrs

-- no variable has a fault
abbrev pub AreSound : List Variable → Type 0
AreSound vars = All (λ variable. fault_of variable ≡ None) vars

-- each value is one that its variable can have: it lies between the variable's ends
abbrev pub AreWithin : List Variable → List VarValue → Type 0
AreWithin vars values = AllZip (λ variable value. IsBetween (least variable) value (greatest variable)) vars values

-- what holds of every program
pub record IsProgram (p : ProgramView) : Type 0 where
  pub long : SHORTEST_PACKET ≤ p.least
  pub stamp : no_room_for_stamp p.least p.stamp ≡ false
  pub cut : p.least ≤ p.template
  pub short : p.template ≤ LONGEST_PACKET
  pub trims : count_by is_trim p.instrs ≤ 1
  pub formed : All IsFormed p.instrs
  pub places : list_any (writes_past (room p)) p.instrs ≡ false
  pub kinds : list_any (overwrites_header_kind p.instrs) p.instrs ≡ false

-- the program is meant for the template: its length, and the headers that the program fixes
pub record IsTemplateOf (p : ProgramView) (template : List ℕ) : Type 0 where
  pub long : length template ≡ p.template
  pub headers : list_any (misses_header template (room p)) p.instrs ≡ false

-- the values are values of the program's variables: each operand's is there, and a trim's number lies from the least packet length to the
-- template's length
pub record AreValuesOf (p : ProgramView) (values : List VarValue) : Type 0 where
  pub operands : All (TakesFrom (length values)) p.instrs
  pub least : p.least ≤ trimmed values p.instrs p.template
  pub most : trimmed values p.instrs p.template ≤ p.template

-- the bytes are the front of a template of the program, as long as the packet of the values
pub record IsFrontOf (p : ProgramView) (values : List VarValue) (bytes : List ℕ) : Type 0 where
  pub template : List ℕ
  pub meant : IsTemplateOf p template
  pub is : bytes ≡ take (trimmed values p.instrs (length template)) template
