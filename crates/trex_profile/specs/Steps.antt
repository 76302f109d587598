-- What a stream's instructions come to in a program (own).
use Rattle.std.specs.Prelude.{ℕ, ◌+◌, ◌==◌, nat_lt, Bool, List, [], ◌∷◌, ◌++◌, map, Option, None, Some, option_map, option_to_list, unwrap_or, if◌then◌else◌}
use Rattle.std.specs.Option.{option_or}
use Rattle.trex_layers.specs.Layers.{parsed}
use Rattle.trex_fields.specs.declared.places.Place.{Place}
use Rattle.trex_fields.specs.Fields.{place_by_name}
use Rattle.trex_ipv6.specs.declared.places.Place6.{Place6}
use Rattle.trex_ipv6.specs.Fields.{place6_by_name}
use Rattle.trex_vars.specs.Variable.{Variable, Counter, RandLimit as RandLimitVariable, ListOf, Tuple as TupleVariable}
use Rattle.trex_vm.specs.declared.instr.L4Kind.{L4Kind}
use Rattle.trex_vm.specs.declared.instr.L4Kind.TheVariants.{Tcp, Udp}
use Rattle.trex_vm.specs.declared.instr.Instr.{Instr}
use Rattle.trex_vm.specs.declared.instr.Instr.TheVariants.{Write as WriteInstr, WriteMask as WriteMaskInstr, FixIpv4 as FixIpv4Instr, FixL4, FixL6 as FixL6Instr, Trim as TrimInstr}
use Rattle.trex_profile.specs.declared.raw.RawPlace.{RawPlace}
use Rattle.trex_profile.specs.declared.raw.RawPlace.TheVariants.{At, Named}
use Rattle.trex_profile.specs.declared.instructions.steps.Step.{Step}
use Rattle.trex_profile.specs.declared.instructions.steps.Step.TheVariants.{Makes, Does, MissesField, FixesHeader, FixesSegment}
use Rattle.trex_profile.specs.Instruction.{Instruction, FlowVar, ListVar, RandLimit, Tuple, Write, WriteMask, FixIpv4, FixHw, FixL6, Trim}
use Rattle.trex_profile.specs.Given.{Given, givens, operand_of}

-- The variable of the instruction at a place, where it makes one. A random number is drawn with the stream's seed, or with one of
-- the instruction's own.
abbrev pub variable_at : ℕ → ℕ → Instruction → Option Variable
variable_at seed place (FlowVar name size op init min max step restart) = Some (Counter op size init min max step seed place)
variable_at seed place (ListVar name size op step values restart) = Some (ListOf op size step values seed place)
variable_at seed place (RandLimit name size min max limit own restart) = Some (RandLimitVariable size min max limit own place)
variable_at seed place (Tuple name ip_min ip_max port_min port_max limit restart) = Some (TupleVariable ip_min ip_max port_min port_max limit)
variable_at seed place _ = None

-- the variables of instructions, in order, where the first instruction stands at a place
abbrev pub variables_from : ℕ → ℕ → List Instruction → List Variable
variables_from seed place [] = []
variables_from seed place (x ∷ xs) = option_to_list (variable_at seed place x) ++ variables_from seed (place + 1) xs

-- a field of an IPv6 header as a place
abbrev pub place_in6 : Place6 → Place
place_in6 field = record { at = field.at; size = field.size }

-- where the field of a name lies in a template: in an IPv6 header where the other headers don't have it
abbrev pub field_of : List ℕ → List ℕ → Option Place
field_of template name = option_or (place_by_name (parsed template) name) (option_map place_in6 (place6_by_name template name))

-- the first byte of a field, where the field is there and has so many bytes
abbrev pub byte_in : ℕ → Option Place → Option ℕ
byte_in size None = None
byte_in size (Some field) = if nat_lt field.size size then None else Some field.at

-- whether the variable of an instruction restarts at each visit of its stream, where it makes one
abbrev pub restart_of : Instruction → Option Bool
restart_of (FlowVar name size op init min max step restart) = Some restart
restart_of (ListVar name size op step values restart) = Some restart
restart_of (RandLimit name size min max limit own restart) = Some restart
restart_of (Tuple name ip_min ip_max port_min port_max limit restart) = Some restart
restart_of _ = None

-- the byte of a template at which a write of so many bytes begins
abbrev pub byte_at : List ℕ → ℕ → RawPlace → Option ℕ
byte_at template size (At n) = Some n
byte_at template size (Named name) = byte_in size (field_of template name)

-- what a write comes to: it misses its field where there is no byte at which it begins
abbrev pub write_at : (ℕ → Instr) → Option ℕ → Step
write_at write None = MissesField
write_at write (Some at) = Does (write at)

-- The fix of an IPv4 header of so many bytes (RFC 791, section 3.1), and for 11 that of the UDP segment behind it (RFC 768), for 13
-- that of the TCP segment (RFC 793).
abbrev pub fixes : ℕ → ℕ → ℕ → Step
fixes l2 l3 l4 = if l4 == 11 then FixesSegment l2 l3 Udp else if l4 == 13 then FixesSegment l2 l3 Tcp else FixesHeader l2 l3

-- what stands behind an IPv6 header, by its number
abbrev pub l4_kind : ℕ → L4Kind
l4_kind l4 = if l4 == 11 then Udp else Tcp

-- what an instruction comes to in a template, where the name of the variable that it uses is given
abbrev pub resolved : List ℕ → List Given → Instruction → Option Step
resolved template names (FlowVar name size op init min max step restart) = Some Makes
resolved template names (ListVar name size op step values restart) = Some Makes
resolved template names (RandLimit name size min max limit seed restart) = Some Makes
resolved template names (Tuple name ip_min ip_max port_min port_max limit restart) = Some Makes
resolved template names (Write name place add big) =
    option_map (λ from. write_at (λ at. WriteInstr from at add big) (byte_at template from.size place)) (operand_of names name)
resolved template names (WriteMask name place cast mask shift add big) =
    option_map (λ from. write_at (λ at. WriteMaskInstr from at cast mask shift add big) (byte_at template cast place)) (operand_of names name)
resolved template names (FixIpv4 at) = Some (Does (FixIpv4Instr at))
resolved template names (FixHw l2 l3 l4) = Some (fixes l2 l3 l4)
resolved template names (FixL6 l2 l4) = Some (Does (FixL6Instr l2 (l4_kind l4)))
resolved template names (Trim name) = option_map (λ from. Does (TrimInstr from)) (operand_of names name)

-- the same, nothing where the name isn't given, which a rule then refuses
abbrev pub step : List ℕ → List Given → Instruction → Step
step template names x = unwrap_or (resolved template names x) Makes

-- what instructions come to
abbrev pub steps_of : List ℕ → List Instruction → List Step
steps_of template instrs = map (step template (givens 0 instrs)) instrs

-- the instructions of a step in a program
abbrev pub instrs_of : Step → List Instr
instrs_of Makes = []
instrs_of MissesField = []
instrs_of (Does instr) = instr ∷ []
instrs_of (FixesHeader at header) = FixIpv4Instr at ∷ []
instrs_of (FixesSegment ip header kind) = FixIpv4Instr ip ∷ FixL4 ip header kind ∷ []

-- the program of steps
abbrev pub program_of : List Step → List Instr
program_of [] = []
program_of (s ∷ steps) = instrs_of s ++ program_of steps
