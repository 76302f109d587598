-- Each operand of a stream's program is one of the stream's variables.
use Rattle.std.proofs.Common.{◌≡◌, inl, inr, ℕ, ◌+◌, ◌≤◌, ◌<◌, ◌==◌, Bool, true, false, List, [], ◌∷◌, length, map, All, Option, Some, None, IfSome, option_map, if◌then◌else◌, refl, arith}
use Rattle.std.specs.List.{AllByRecursion, find}
use Rattle.std.proofs.lemmas.List.Elements.{All-from_recursion, recursion_from_All}
use Rattle.trex_merge.proofs.ListLemmas.{all-append}
use Rattle.trex_fields.specs.Bytes.{IsSize}
use Rattle.std.specs.Prelude.{unwrap_or}
use Rattle.trex_vm.specs.declared.instr.Instr.{Instr}
use Rattle.trex_vm.specs.declared.instr.Operand.{Operand}
use Rattle.trex_vm.specs.Program.{TakesFrom, IsFormed, AreOperandsOf}
use Rattle.trex_vm.specs.declared.instr.L4Kind.TheVariants.{Tcp, Udp}
use Rattle.trex_vm.specs.declared.instr.Instr.TheVariants.{Write as WriteInstr, WriteMask as WriteMaskInstr, Trim as TrimInstr}
use Rattle.trex_profile.specs.declared.instructions.steps.Step.{Step}
use Rattle.trex_profile.specs.declared.instructions.steps.Step.TheVariants.{Makes, Does, FixesHeader, FixesSegment}
use Rattle.trex_profile.specs.Given.{Given, givens, has_name, operand_of}
use Rattle.trex_profile.specs.Instruction.{Instruction, FlowVar, ListVar, RandLimit, Tuple, Write, WriteMask, FixIpv4, FixHw, FixL6, Trim, IsRawInstr}
use Rattle.trex_profile.specs.Steps.{variables_from, byte_at, write_at, fixes, step, steps_of, instrs_of, program_of}
use Rattle.trex_profile.proofs.Naming.{var_after}

-- an operand is one of so many variables, and of a size that is written
abbrev pub IsOperand : ℕ → Operand → Type 0
IsOperand count operand = (operand.var < count) × IsSize operand.size

-- an instruction of a program has such operands
abbrev pub IsIn : ℕ → Instr → Type 0
IsIn count instr = TakesFrom count instr × IsFormed instr

var_after-above : (var : ℕ) (xs : List Instruction) → var ≤ var_after var xs
var_after-above var [] = omega arith
var_after-above var (FlowVar name size op init min max step restart ∷ xs) = let rest = var_after-above (var + 1) xs in omega arith
var_after-above var (ListVar name size op step values restart ∷ xs) = let rest = var_after-above (var + 1) xs in omega arith
var_after-above var (RandLimit name size min max limit seed restart ∷ xs) = let rest = var_after-above (var + 1) xs in omega arith
var_after-above var (Tuple name ip_min ip_max port_min port_max limit restart ∷ xs) = let rest = var_after-above (var + 1) xs in omega arith
var_after-above var (Write name place add big ∷ xs) = var_after-above var xs
var_after-above var (WriteMask name place cast mask shift add big ∷ xs) = var_after-above var xs
var_after-above var (FixIpv4 at ∷ xs) = var_after-above var xs
var_after-above var (FixHw l2 l3 l4 ∷ xs) = var_after-above var xs
var_after-above var (FixL6 l2 l4 ∷ xs) = var_after-above var xs
var_after-above var (Trim name ∷ xs) = var_after-above var xs

-- there are as many variables as are counted
count-variables : (seed place var : ℕ) (xs : List Instruction) → var + length (variables_from seed place xs) ≡ var_after var xs
count-variables seed place var [] = omega arith
count-variables seed place var (FlowVar name size op init min max step restart ∷ xs) = let rest = count-variables seed (place + 1) (var + 1) xs in omega arith
count-variables seed place var (ListVar name size op step values restart ∷ xs) = let rest = count-variables seed (place + 1) (var + 1) xs in omega arith
count-variables seed place var (RandLimit name size min max limit own restart ∷ xs) = let rest = count-variables seed (place + 1) (var + 1) xs in omega arith
count-variables seed place var (Tuple name ip_min ip_max port_min port_max limit restart ∷ xs) = let rest = count-variables seed (place + 1) (var + 1) xs in omega arith
count-variables seed place var (Write name at add big ∷ xs) = count-variables seed (place + 1) var xs
count-variables seed place var (WriteMask name at cast mask shift add big ∷ xs) = count-variables seed (place + 1) var xs
count-variables seed place var (FixIpv4 at ∷ xs) = count-variables seed (place + 1) var xs
count-variables seed place var (FixHw l2 l3 l4 ∷ xs) = count-variables seed (place + 1) var xs
count-variables seed place var (FixL6 l2 l4 ∷ xs) = count-variables seed (place + 1) var xs
count-variables seed place var (Trim name ∷ xs) = count-variables seed (place + 1) var xs

-- what is given is one of the variables
givens-operands : (var : ℕ) (xs : List Instruction) → AllByRecursion IsRawInstr xs → (count : ℕ) → var_after var xs ≤ count
    → AllByRecursion (λ (g : Given). IsOperand count g.operand) (givens var xs)
givens-operands var [] raw count room = tt
givens-operands var (FlowVar name size op init min max step restart ∷ xs) raw count room =
    let above = var_after-above (var + 1) xs in ((omega arith, raw.0), givens-operands (var + 1) xs raw.1 count room)
givens-operands var (ListVar name size op step values restart ∷ xs) raw count room =
    let above = var_after-above (var + 1) xs in ((omega arith, raw.0), givens-operands (var + 1) xs raw.1 count room)
givens-operands var (RandLimit name size min max limit seed restart ∷ xs) raw count room =
    let above = var_after-above (var + 1) xs in ((omega arith, raw.0), givens-operands (var + 1) xs raw.1 count room)
givens-operands var (Tuple name ip_min ip_max port_min port_max limit restart ∷ xs) raw count room =
    let above = var_after-above (var + 1) xs in
    ((omega arith, inr (inr (inl refl))), ((omega arith, inr (inl refl)), givens-operands (var + 1) xs raw.1 count room))
givens-operands var (Write name place add big ∷ xs) raw count room = givens-operands var xs raw.1 count room
givens-operands var (WriteMask name place cast mask shift add big ∷ xs) raw count room = givens-operands var xs raw.1 count room
givens-operands var (FixIpv4 at ∷ xs) raw count room = givens-operands var xs raw.1 count room
givens-operands var (FixHw l2 l3 l4 ∷ xs) raw count room = givens-operands var xs raw.1 count room
givens-operands var (FixL6 l2 l4 ∷ xs) raw count room = givens-operands var xs raw.1 count room
givens-operands var (Trim name ∷ xs) raw count room = givens-operands var xs raw.1 count room

-- so is what a name stands for
named-operand : (count : ℕ) (name : List ℕ) (names : List Given) → AllByRecursion (λ (g : Given). IsOperand count g.operand) names
    → IfSome (operand_of names name) (IsOperand count)
named-operand count name [] all = tt
named-operand count name (g ∷ names) all = by_test (has_name name g) (named-operand count name names all.1)
  where
    by_test : (test : Bool) → IfSome (operand_of names name) (IsOperand count)
        → IfSome (option_map (λ (h : Given). h.operand) (if test then Some g else find (has_name name) names)) (IsOperand count)
    by_test true rest = all.0
    by_test false rest = rest

-- the instructions of a step that takes an operand, where there is one
by_operand : (count : ℕ) (from : Option Operand) (make : Operand → Step) → IfSome from (IsOperand count)
    → ((operand : Operand) → IsOperand count operand → AllByRecursion (IsIn count) (instrs_of (make operand)))
    → AllByRecursion (IsIn count) (instrs_of (unwrap_or (option_map make from) Makes))
by_operand count None make known made = tt
by_operand count (Some operand) make known made = made operand known

fixes-in : (count l2 l3 l4 : ℕ) → AllByRecursion (IsIn count) (instrs_of (fixes l2 l3 l4))
fixes-in count l2 l3 l4 = by_tests (l4 == 11) (l4 == 13)
  where
    by_tests : (udp tcp : Bool)
        → AllByRecursion (IsIn count) (instrs_of (if udp then FixesSegment l2 l3 Udp else if tcp then FixesSegment l2 l3 Tcp else FixesHeader l2 l3))
    by_tests true tcp = ((tt, tt), ((tt, tt), tt))
    by_tests false true = ((tt, tt), ((tt, tt), tt))
    by_tests false false = ((tt, tt), tt)

-- the instruction of a write, where there is a byte at which it begins
write-in : (count : ℕ) (write : ℕ → Instr) (byte : Option ℕ) → ((at : ℕ) → IsIn count (write at)) → AllByRecursion (IsIn count) (instrs_of (write_at write byte))
write-in count write None known = tt
write-in count write (Some at) known = (known at, tt)

-- the instructions of each step
step-in : (template : List ℕ) (count : ℕ) (names : List Given) (x : Instruction) → AllByRecursion (λ (g : Given). IsOperand count g.operand) names → IsRawInstr x
    → AllByRecursion (IsIn count) (instrs_of (step template names x))
step-in template count names (FlowVar name size op init min max step restart) known raw = tt
step-in template count names (ListVar name size op step values restart) known raw = tt
step-in template count names (RandLimit name size min max limit seed restart) known raw = tt
step-in template count names (Tuple name ip_min ip_max port_min port_max limit restart) known raw = tt
step-in template count names (Write name place add big) known raw =
    by_operand count (operand_of names name) (λ from. write_at (λ at. WriteInstr from at add big) (byte_at template from.size place)) (named-operand count name names known)
    (λ operand is. write-in count (λ at. WriteInstr operand at add big) (byte_at template operand.size place) (λ at. (is.0, is.1)))
step-in template count names (WriteMask name place cast mask shift add big) known raw =
    by_operand count (operand_of names name) (λ from. write_at (λ at. WriteMaskInstr from at cast mask shift add big) (byte_at template cast place)) (named-operand count name names known)
    (λ operand is. write-in count (λ at. WriteMaskInstr operand at cast mask shift add big) (byte_at template cast place) (λ at. (is.0, raw)))
step-in template count names (FixIpv4 at) known raw = ((tt, tt), tt)
step-in template count names (FixHw l2 l3 l4) known raw = fixes-in count l2 l3 l4
step-in template count names (FixL6 l2 l4) known raw = ((tt, tt), tt)
step-in template count names (Trim name) known raw =
    by_operand count (operand_of names name) (λ from. Does (TrimInstr from)) (named-operand count name names known) (λ operand is. ((is.0, tt), tt))

steps-in : (template : List ℕ) (count : ℕ) (names : List Given) (xs : List Instruction) → AllByRecursion (λ (g : Given). IsOperand count g.operand) names → AllByRecursion IsRawInstr xs
    → AllByRecursion (λ (s : Step). AllByRecursion (IsIn count) (instrs_of s)) (map (step template names) xs)
steps-in template count names [] known raw = tt
steps-in template count names (x ∷ xs) known raw = (step-in template count names x known raw.0, steps-in template count names xs known raw.1)

program-in : (count : ℕ) (steps : List Step) → AllByRecursion (λ (s : Step). AllByRecursion (IsIn count) (instrs_of s)) steps → AllByRecursion (IsIn count) (program_of steps)
program-in count [] known = tt
program-in count (s ∷ steps) known = all-append (IsIn count) (instrs_of s) (program_of steps) known.0 (program-in count steps known.1)

taken : (count : ℕ) (instrs : List Instr) → AllByRecursion (IsIn count) instrs → AllByRecursion (TakesFrom count) instrs
taken count [] known = tt
taken count (instr ∷ instrs) known = (known.0.0, taken count instrs known.1)

formed : (count : ℕ) (instrs : List Instr) → AllByRecursion (IsIn count) instrs → AllByRecursion IsFormed instrs
formed count [] known = tt
formed count (instr ∷ instrs) known = (known.0.1, formed count instrs known.1)

steps-taken : (count : ℕ) (steps : List Step) → AllByRecursion (λ (s : Step). AllByRecursion (IsIn count) (instrs_of s)) steps
    → AllByRecursion (λ (s : Step). All (TakesFrom count) (instrs_of s)) steps
steps-taken count [] known = tt
steps-taken count (s ∷ steps) known =
    (All-from_recursion (TakesFrom count) (instrs_of s) (taken count (instrs_of s) known.0), steps-taken count steps known.1)

of_instrs : (template : List ℕ) (seed : ℕ) (xs : List Instruction) → All IsRawInstr xs
    → AllByRecursion (λ (s : Step). AllByRecursion (IsIn (length (variables_from seed 0 xs))) (instrs_of s)) (steps_of template xs)
of_instrs template seed xs raw =
    let all = recursion_from_All IsRawInstr xs raw in
    let counted = count-variables seed 0 0 xs in
    let count = length (variables_from seed 0 xs) in
    steps-in template count (givens 0 xs) xs (givens-operands 0 xs all count (omega arith)) all

-- the operands of a stream's program
pub program-operands : (template : List ℕ) (seed : ℕ) (xs : List Instruction) → All IsRawInstr xs → AreOperandsOf (variables_from seed 0 xs) (program_of (steps_of template xs))
program-operands template seed xs raw =
    let count = length (variables_from seed 0 xs) in
    let program = program_of (steps_of template xs) in
    let known = program-in count (steps_of template xs) (of_instrs template seed xs raw) in
    record {
      operands = All-from_recursion (TakesFrom count) program (taken count program known);
      formed = All-from_recursion IsFormed program (formed count program known);
    }

-- those of each step
pub steps-operands : (template : List ℕ) (seed : ℕ) (xs : List Instruction) → All IsRawInstr xs
    → All (λ (s : Step). All (TakesFrom (length (variables_from seed 0 xs))) (instrs_of s)) (steps_of template xs)
steps-operands template seed xs raw =
    let count = length (variables_from seed 0 xs) in
    All-from_recursion (λ (s : Step). All (TakesFrom count) (instrs_of s)) (steps_of template xs) (steps-taken count (steps_of template xs) (of_instrs template seed xs raw))
