-- The rules on a stream's instructions (own). Each is looked at over all of them in order, before the next rule.
use Rattle.std.specs.Prelude.{ℕ, ◌==◌, ◌&&◌, ◌||◌, not, Bool, true, false, List, [], ◌∷◌, length, take, Option, None, Some, is_none, is_some}
use Rattle.std.specs.List.{list_any}
use Rattle.trex_stamp.specs.declared.header.Version.{Version}
use Rattle.trex_vars.specs.Variable.{Variable}
use Rattle.trex_vars.specs.Check.{fault_of}
use Rattle.trex_vm.specs.declared.instr.Instr.{Instr}
use Rattle.trex_vm.specs.Fix.{header_length}
use Rattle.trex_vm.specs.Rules.{least_length, room_of, no_room_for_stamp, is_trim, trim_wrong, writes_past, misses_header, overwrites_header_kind}
use Rattle.trex_profile.specs.declared.refusal.Breach.{Breach}
use Rattle.trex_profile.specs.declared.rule.Rule.TheVariants.{VarName, VarRange, UnknownVariable, TwoTrims, TrimRange, NoRoomForStamp, BadField, WriteRoom, BadFix, WriteOnShape}
use Rattle.trex_profile.specs.declared.instructions.steps.Step.{Step}
use Rattle.trex_profile.specs.declared.instructions.steps.Step.TheVariants.{Makes, Does, MissesField, FixesHeader, FixesSegment}
use Rattle.trex_profile.specs.Given.{Given, variable_name, is_empty_name, given_by, givens, is_given}
use Rattle.trex_profile.specs.Instruction.{Instruction}
use Rattle.trex_profile.specs.Order.{first, first_each}
use Rattle.trex_profile.specs.Refusal.{rule, rule_there}
use Rattle.trex_profile.specs.Steps.{variable_at, resolved, instrs_of, program_of}

-- an instruction makes a variable of an empty name, or gives a name that an earlier one gives
abbrev pub name_rule : List Instruction → ℕ → Instruction → Option Breach
name_rule instrs place x =
    rule_there VarName place (is_empty_name (variable_name x)
    || list_any (λ g. is_given (givens 0 (take place instrs)) g.name) (given_by 0 x))

-- there is a variable that has a fault
abbrev pub has_fault : Option Variable → Bool
has_fault None = false
has_fault (Some variable) = is_some (fault_of variable)

-- the variable of an instruction has a fault
abbrev pub range_rule : ℕ → ℕ → Instruction → Option Breach
range_rule seed place x = rule_there VarRange place (has_fault (variable_at seed place x))

-- an instruction uses the name of a variable that isn't given
abbrev pub unknown_rule : List ℕ → List Given → ℕ → Instruction → Option Breach
unknown_rule template names place x = rule_there UnknownVariable place (is_none (resolved template names x))

-- a test holds of an instruction of the step
abbrev pub does : (Instr → Bool) → Step → Bool
does test s = list_any test (instrs_of s)

-- a step is a trim, and an earlier one is
abbrev pub twice_rule : List Step → ℕ → Step → Option Breach
twice_rule steps place s = rule_there TwoTrims place (does is_trim s && list_any (does is_trim) (take place steps))

-- a trim of a step is out of range
abbrev pub trim_rule : List Variable → ℕ → ℕ → Step → Option Breach
trim_rule vars whole place s = rule_there TrimRange place (does (trim_wrong vars whole) s)

-- a write of a step has no field that is long enough
abbrev pub misses_field : Step → Bool
misses_field Makes = false
misses_field (Does instr) = false
misses_field MissesField = true
misses_field (FixesHeader at header) = false
misses_field (FixesSegment ip header kind) = false

abbrev pub field_rule : ℕ → Step → Option Breach
field_rule place s = rule_there BadField place (misses_field s)

-- the header isn't as long as a fix says
abbrev pub header_wrong : List ℕ → Step → Bool
header_wrong template Makes = false
header_wrong template (Does instr) = false
header_wrong template MissesField = false
header_wrong template (FixesHeader at header) = not (header == header_length template at)
header_wrong template (FixesSegment ip header kind) = not (header == header_length template ip)

-- a write of a step ends after the room
abbrev pub room_rule : ℕ → ℕ → Step → Option Breach
room_rule room place s = rule_there WriteRoom place (does (writes_past room) s)

-- a fix has no header to fix
abbrev pub fix_wrong : List ℕ → ℕ → Step → Bool
fix_wrong template room s = does (misses_header template room) s || header_wrong template s

abbrev pub fix_rule : List ℕ → ℕ → ℕ → Step → Option Breach
fix_rule template room place s = rule_there BadFix place (fix_wrong template room s)

-- a step writes the version, the length or the protocol of a header that a fix of the program names
abbrev pub shape_rule : List Instr → ℕ → Step → Option Breach
shape_rule program place s = rule_there WriteOnShape place (does (overwrites_header_kind program) s)

-- the rules on the names of instructions, in their order
unfoldable pub names_rules : List ℕ → ℕ → List Instruction → Option Breach
names_rules template seed instrs = first (
    first_each (name_rule instrs) 0 instrs
    ∷ first_each (range_rule seed) 0 instrs
    ∷ first_each (unknown_rule template (givens 0 instrs)) 0 instrs
    ∷ [])

-- the rules on the packets' lengths, in their order
unfoldable pub length_rules : List Variable → ℕ → Option Version → List Step → Option Breach
length_rules vars whole stamp steps = first (
    first_each (twice_rule steps) 0 steps
    ∷ first_each (trim_rule vars whole) 0 steps
    ∷ rule NoRoomForStamp (no_room_for_stamp (least_length vars (program_of steps) whole) stamp)
    ∷ [])

-- the rules on the places that are written, in their order: so many bytes stand in front of the latency header
unfoldable pub place_rules : List ℕ → ℕ → List Step → Option Breach
place_rules template room steps = first (
    first_each field_rule 0 steps
    ∷ first_each (room_rule room) 0 steps
    ∷ first_each (fix_rule template room) 0 steps
    ∷ first_each (shape_rule (program_of steps)) 0 steps
    ∷ [])

-- the rules on what steps do, in their order
unfoldable pub does_rules : List Variable → List ℕ → Option Version → List Step → Option Breach
does_rules vars template stamp steps = first (
    length_rules vars (length template) stamp steps
    ∷ place_rules template (room_of (least_length vars (program_of steps) (length template)) stamp) steps
    ∷ [])
