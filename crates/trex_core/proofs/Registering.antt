-- Registers that stand at a packet.
use Rattle.std.proofs.Common.{◌≡◌, ℕ, ◌<◌, Bool, true, false, cond, List, [], ◌∷◌, None, get_or, length, map, refl, sym, ap, ◌∙◌, arith}
use Rattle.std.proofs.lemmas.List.{get_or-map, length-map}
use Rattle.std.proofs.lemmas.List.Elements.{All-get_or}
use Rattle.std.specs.List.{AllByRecursion}
use Rattle.trex_core.specs.declared.registers.Move.{Move}
use Rattle.trex_core.specs.declared.registers.Register.{Register}
use Rattle.trex_core.specs.Registers.{IsAt, end_of, moved, restarts_of, shown, variables_of}
use Rattle.trex_profile.specs.Packets.{index_of, values_at}
use Rattle.trex_vars.specs.Check.{fault_of}
use Rattle.trex_vars.specs.declared.spec.VarSpec.{VarSpec}
use Rattle.trex_vars.specs.declared.value.VarValue.{VarValue}
use Rattle.trex_vars.specs.Value.{value_at}
use Rattle.trex_vars.specs.Variable.{Variable, variable_of}
use Rattle.trex_vm.specs.Program.{AreSound}

-- a variable of those that have no fault has none
pub sound_at : (vars : List VarSpec) (k : ℕ) (spec : VarSpec) → AreSound (map variable_of vars) → k < length vars → spec ≡ get_or vars k spec
    → fault_of (variable_of spec) ≡ None
sound_at vars k spec sound below is =
    let here : fault_of (get_or (map variable_of vars) k (variable_of spec)) ≡ None =
    All-get_or (λ v. fault_of v ≡ None) (map variable_of vars) k (variable_of spec) (omega (arith, length-map vars variable_of)) sound in
    ap (λ s. fault_of (variable_of s)) is ∙ ap fault_of (sym (get_or-map variable_of vars k spec (variable_of spec) below)) ∙ here

module _ (cores number place number' place' : ℕ) (by_number by_place : Move) where
  -- the move of a variable that restarts, or of another one, leads to the packet's index
  move_to : (restarts : Bool) (index stride : ℕ) → stride ≡ cores → index ≡ index_of restarts number place → end_of by_number number cores ≡ number'
      → end_of by_place place cores ≡ place' → end_of (cond restarts by_place by_number) index stride ≡ index_of restarts number' place'
  move_to true index stride same is to_number to_place = cc
  move_to false index stride same is to_number to_place = cc

  -- registers that stand at a packet move to another one
  pub moved_at : (rs : List Register) → AllByRecursion (IsAt cores number place) rs → end_of by_number number cores ≡ number' → end_of by_place place cores ≡ place'
      → AllByRecursion (IsAt cores number' place') (map (moved by_number by_place) rs)
  moved_at [] at to_number to_place = tt
  moved_at (r ∷ rs) at to_number to_place = (
    record { cores_are = at.0.cores_are; index = move_to r.restarts r.strided.number r.strided.cores at.0.cores_are at.0.index to_number to_place },
    moved_at rs at.1 to_number to_place,
  )

-- a register that moves keeps its variable
pub variables-moved : (by_number by_place : Move) (rs : List Register) → variables_of (map (moved by_number by_place) rs) ≡ variables_of rs
variables-moved by_number by_place [] = refl
variables-moved by_number by_place (r ∷ rs) = ap (λ (vs : List Variable). r.strided.variable ∷ vs) (variables-moved by_number by_place rs)

-- and whether it restarts
pub restarts-moved : (by_number by_place : Move) (rs : List Register) → restarts_of (map (moved by_number by_place) rs) ≡ restarts_of rs
restarts-moved by_number by_place [] = refl
restarts-moved by_number by_place (r ∷ rs) = ap (λ (bs : List Bool). r.restarts ∷ bs) (restarts-moved by_number by_place rs)

-- what registers show that stand at a packet
pub shown_is : (cores number place : ℕ) (rs : List Register) → AllByRecursion (IsAt cores number place) rs
    → map shown rs ≡ values_at (variables_of rs) (restarts_of rs) number place
shown_is cores number place [] at = refl
shown_is cores number place (r ∷ rs) at =
    ap (λ n. value_at r.strided.variable n ∷ map shown rs) at.0.index
    ∙ ap (λ (vs : List VarValue). value_at r.strided.variable (index_of r.restarts number place) ∷ vs) (shown_is cores number place rs at.1)
