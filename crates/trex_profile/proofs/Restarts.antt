-- The values of a stream's variables, each at an index of its own.
use Rattle.std.proofs.Common.{◌≡◌, ℕ, suc, ◌+◌, Bool, List, [], ◌∷◌, length, None, refl, ap, arith}
use Rattle.std.specs.List.{AllByRecursion, filter_map}
use Rattle.trex_vars.specs.Check.{fault_of}
use Rattle.trex_vars.specs.Variable.{Variable}
use Rattle.trex_vars.proofs.BoundsLemmas.{value-between}
use Rattle.trex_vm.specs.Program.{AreWithin}
use Rattle.trex_profile.specs.Instruction.{Instruction, FlowVar, ListVar, RandLimit, Tuple, Write, WriteMask, FixIpv4, FixHw, FixL6, Trim}
use Rattle.trex_profile.specs.Packets.{index_of, values_at}
use Rattle.trex_profile.specs.Steps.{restart_of, variables_from}

-- of each variable it is said whether it restarts
pub restarts-long : (seed place : ℕ) (xs : List Instruction) → length (filter_map restart_of xs) ≡ length (variables_from seed place xs)
restarts-long seed place [] = refl
restarts-long seed place (FlowVar name size op init min max step restart ∷ xs) = ap suc (restarts-long seed (place + 1) xs)
restarts-long seed place (ListVar name size op step values restart ∷ xs) = ap suc (restarts-long seed (place + 1) xs)
restarts-long seed place (RandLimit name size min max limit own restart ∷ xs) = ap suc (restarts-long seed (place + 1) xs)
restarts-long seed place (Tuple name ip_min ip_max port_min port_max limit restart ∷ xs) = ap suc (restarts-long seed (place + 1) xs)
restarts-long seed place (Write name at add big ∷ xs) = restarts-long seed (place + 1) xs
restarts-long seed place (WriteMask name at cast mask shift add big ∷ xs) = restarts-long seed (place + 1) xs
restarts-long seed place (FixIpv4 at ∷ xs) = restarts-long seed (place + 1) xs
restarts-long seed place (FixHw l2 l3 l4 ∷ xs) = restarts-long seed (place + 1) xs
restarts-long seed place (FixL6 l2 l4 ∷ xs) = restarts-long seed (place + 1) xs
restarts-long seed place (Trim name ∷ xs) = restarts-long seed (place + 1) xs

-- the values of variables without a fault lie between their ends
pub values_at-within : (number place : ℕ) (vars : List Variable) (restarts : List Bool) → length restarts ≡ length vars → AllByRecursion (λ v. fault_of v ≡ None) vars
    → AreWithin vars (values_at vars restarts number place)
values_at-within number place [] restarts same sound = tt
values_at-within number place (v ∷ vars) [] same sound = absurd (cc)
values_at-within number place (v ∷ vars) (restart ∷ restarts) same sound =
    (value-between v (index_of restart number place) sound.0, values_at-within number place vars restarts (omega arith) sound.1)
