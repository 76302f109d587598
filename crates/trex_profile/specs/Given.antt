-- The names that a stream's instructions give (own).
use Rattle.std.specs.Prelude.{ℕ, ◌+◌, ◌==◌, bytes_eq, codes, Bool, false, List, [], ◌∷◌, ◌++◌, length, find, Option, None, Some, is_some, option_map, if◌then◌else◌}
use Rattle.std.specs.List.{list_any}
use Rattle.trex_vm.specs.declared.instr.Part.{Part}
use Rattle.trex_vm.specs.declared.instr.Part.TheVariants.{Whole, Ip, Port}
use Rattle.trex_vm.specs.declared.instr.Operand.{Operand}
use Rattle.trex_profile.specs.declared.instructions.names.GivenName.{GivenName}
use Rattle.trex_profile.specs.Instruction.{Instruction, FlowVar, ListVar, RandLimit, Tuple}

-- a name, and the variable or the part of one that it stands for
pub record Given : Type 0 where
  pub name : List ℕ
  pub operand : Operand

-- a name as it is held
abbrev pub given_of : GivenName → Given
given_of g = record { name = g.name.items; operand = g.operand }

-- the name of the variable that an instruction makes, where it makes one
abbrev pub variable_name : Instruction → Option (List ℕ)
variable_name (FlowVar name size op init min max step restart) = Some name
variable_name (ListVar name size op step values restart) = Some name
variable_name (RandLimit name size min max limit seed restart) = Some name
variable_name (Tuple name ip_min ip_max port_min port_max limit restart) = Some name
variable_name _ = None

-- an instruction makes a variable
abbrev pub is_variable : Instruction → Bool
is_variable x = is_some (variable_name x)

-- there is a name, and it is empty
abbrev pub is_empty_name : Option (List ℕ) → Bool
is_empty_name None = false
is_empty_name (Some name) = length name == 0

-- a name for a part of the variable at a place among the stream's variables
abbrev pub given : List ℕ → ℕ → Part → ℕ → Given
given name var part size = record { name = name; operand = record { var = var; part = part; size = size } }

-- The names that an instruction gives, as the variable at a place among the stream's variables: its own, or of a pair of an address
-- and a port those of its parts.
abbrev pub given_by : ℕ → Instruction → List Given
given_by var (FlowVar name size op init min max step restart) = given name var Whole size ∷ []
given_by var (ListVar name size op step values restart) = given name var Whole size ∷ []
given_by var (RandLimit name size min max limit seed restart) = given name var Whole size ∷ []
given_by var (Tuple name ip_min ip_max port_min port_max limit restart) =
    given (name ++ codes ".ip") var Ip 4 ∷ given (name ++ codes ".port") var Port 2 ∷ []
given_by var _ = []

-- the place of the next variable
abbrev pub next_var : ℕ → Instruction → ℕ
next_var var x = if is_variable x then var + 1 else var

-- the names that instructions give, where the first variable stands at a place
abbrev pub givens : ℕ → List Instruction → List Given
givens var [] = []
givens var (x ∷ xs) = given_by var x ++ givens (next_var var x) xs

-- what is given has that name
abbrev pub has_name : List ℕ → Given → Bool
has_name name g = bytes_eq g.name name

-- a name is among those that were given
abbrev pub is_given : List Given → List ℕ → Bool
is_given names name = list_any (has_name name) names

-- what a name stands for
abbrev pub operand_of : List Given → List ℕ → Option Operand
operand_of names name = option_map (λ g. g.operand) (find (has_name name) names)
