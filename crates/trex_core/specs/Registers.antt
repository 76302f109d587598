-- Where a core stands among the values of a stream's variables. Own.
use Rattle.std.specs.Prelude.{◌≡◌, ℕ, ◌+◌, ◌<◌, ◌^◌, Bool, if◌then◌else◌, List, map}
use Rattle.std.specs.List.{AllByRecursion}
use Rattle.trex_vars.specs.declared.value.VarValue.{VarValue}
use Rattle.trex_vars.specs.Value.{value_at}
use Rattle.trex_vars.specs.Variable.{Variable}
use Rattle.trex_profile.specs.Packets.{index_of, values_at}
use Rattle.trex_core.specs.declared.registers.Move.{Move}
use Rattle.trex_core.specs.declared.registers.Move.TheVariants.{Stay, Step, Seek}
use Rattle.trex_core.specs.declared.registers.Register.{Register}

-- some variables, whether each restarts, of how many cores one reads their values, and the packet whose values it reads
pub record Standing : Type 0 where
  pub variables : List Variable
  pub restarts : List Bool
  pub cores : ℕ
  pub number : ℕ
  pub place : ℕ

-- the values that the registers of these variables show in the packet of a number, at a place in its run
abbrev pub values_by : Standing → ℕ → ℕ → List VarValue
values_by standing number place = values_at standing.variables standing.restarts number place

-- where a move leads from an index, of so many cores
abbrev pub end_of : Move → ℕ → ℕ → ℕ
end_of Stay index cores = index
end_of Step index cores = index + cores
end_of (Seek to) index cores = to

-- the move of a register, where one is given for packets' numbers and one for their places
abbrev pub move_of : Move → Move → Register → Move
move_of by_number by_place register = if register.restarts then by_place else by_number

-- the index to which it leads
abbrev pub target_of : Move → Move → Register → ℕ
target_of by_number by_place register = end_of (move_of by_number by_place register) register.strided.number register.strided.cores

-- the register there
abbrev pub moved : Move → Move → Register → Register
moved by_number by_place register =
    record register { strided = record register.strided { number = target_of by_number by_place register } }

-- the value that a register shows
abbrev pub shown : Register → VarValue
shown register = value_at register.strided.variable register.strided.number

-- the variables of registers
abbrev pub variables_of : List Register → List Variable
variables_of registers = map (λ register. register.strided.variable) registers

-- whether each restarts
abbrev pub restarts_of : List Register → List Bool
restarts_of registers = map (λ register. register.restarts) registers

-- a register stands at a packet
pub record IsAt (cores number place : ℕ) (register : Register) : Type 0 where
  pub cores_are : register.strided.cores ≡ cores
  pub index : register.strided.number ≡ index_of register.restarts number place

-- each register stands at that packet, and the values are those that they show
pub record AreAt (cores number place : ℕ) (registers : List Register) (values : List VarValue) : Type 0 where
  pub number_small : number < 2 ^ 63
  pub place_small : place < 2 ^ 63
  pub stand : AllByRecursion (IsAt cores number place) registers
  pub read : values ≡ map shown registers
