-- The names and the variables of instructions, one instruction after another.
use Rattle.std.proofs.Common.{◌≡◌, ℕ, ◌+◌, ◌≤◌, ◌<◌, Bool, true, false, List, [], ◌∷◌, ◌++◌, length, get_or, map, take, drop, Option, Some, None, IfSome, option_map, option_to_list, if◌then◌else◌, refl, sym, ap, subst, ◌∙◌, append_assoc, append-nil, arith}
use Rattle.std.specs.List.{list_any}
use Rattle.std.proofs.lemmas.List.{get_or-map, length-map, map-append, drop_more, take_more}
use Rattle.std.proofs.lemmas.List.Elements.{All-append, All-from_recursion}
use Rattle.trex_vars.specs.declared.spec.VarSpec.{VarSpec}
use Rattle.trex_vars.specs.Check.{fault_of}
use Rattle.trex_vars.specs.Variable.{Variable, variable_of}
use Rattle.trex_vm.specs.Program.{AreSound}
use Rattle.trex_profile.specs.declared.instructions.names.GivenName.{GivenName}
use Rattle.trex_profile.specs.declared.raw.RawInstr.{RawInstr}
use Rattle.trex_profile.specs.Given.{Given, given_of, given_by, givens, is_given, next_var, is_variable, variable_name, is_empty_name}
use Rattle.trex_profile.specs.InstrRules.{name_rule}
use Rattle.trex_profile.specs.Instruction.{Instruction, instruction, FlowVar, ListVar, RandLimit, Tuple, Write, WriteMask, FixIpv4, FixHw, FixL6, Trim}
use Rattle.trex_profile.specs.Steps.{variable_at, variables_from}

-- the place of the variable after those of some instructions
abbrev pub var_after : ℕ → List Instruction → ℕ
var_after var [] = var
var_after var (x ∷ xs) = var_after (next_var var x) xs

-- the names of further instructions
givens-append : (var : ℕ) (xs ys : List Instruction) → givens var (xs ++ ys) ≡ givens var xs ++ givens (var_after var xs) ys
givens-append var [] ys = refl
givens-append var (x ∷ xs) ys =
    ap (λ rest. given_by var x ++ rest) (givens-append (next_var var x) xs ys)
    ∙ sym (append_assoc (given_by var x) (givens (next_var var x) xs) (givens (var_after (next_var var x) xs) ys))

var_after-append : (var : ℕ) (xs ys : List Instruction) → var_after var (xs ++ ys) ≡ var_after (var_after var xs) ys
var_after-append var [] ys = refl
var_after-append var (x ∷ xs) ys = var_after-append (next_var var x) xs ys

-- one instruction more
take-instruction : (instrs : List RawInstr) (at : ℕ) (x : RawInstr) → at < length instrs → x ≡ get_or instrs at x
    → take (at + 1) (map instruction instrs) ≡ take at (map instruction instrs) ++ instruction x ∷ []
take-instruction instrs at x small is =
    let inside : at < length (map instruction instrs) = rw length-map small in
    take_more (map instruction instrs) at (instruction x) inside
    ∙ ap (λ y. take at (map instruction instrs) ++ y ∷ []) (get_or-map instruction instrs at x (instruction x) small ∙ ap instruction (sym is))

-- the names of one instruction more
givens-more : (instrs : List RawInstr) (at : ℕ) (x : RawInstr) → at < length instrs → x ≡ get_or instrs at x
    → givens 0 (take (at + 1) (map instruction instrs))
    ≡ givens 0 (take at (map instruction instrs)) ++ given_by (var_after 0 (take at (map instruction instrs))) (instruction x)
givens-more instrs at x small is =
    ap (givens 0) (take-instruction instrs at x small is)
    ∙ givens-append 0 (take at (map instruction instrs)) (instruction x ∷ [])
    ∙ ap (λ more. givens 0 (take at (map instruction instrs)) ++ more) (append-nil (given_by (var_after 0 (take at (map instruction instrs))) (instruction x)))

-- the same of names that are held
pub names-more : (instrs : List RawInstr) (at : ℕ) (x : RawInstr) (names given new : List GivenName) (var : ℕ) → at < length instrs → x ≡ get_or instrs at x
    → map given_of names ≡ givens 0 (take at (map instruction instrs)) → var ≡ var_after 0 (take at (map instruction instrs)) → map given_of given ≡ given_by var (instruction x)
    → new ≡ names ++ given → map given_of new ≡ givens 0 (take (at + 1) (map instruction instrs))
names-more instrs at x names given new var small is before place here both =
    ap (map given_of) both ∙ map-append given_of names given ∙ ap (λ (front : List Given). front ++ map given_of given) before
    ∙ ap (λ (more : List Given). givens 0 (take at (map instruction instrs)) ++ more) (here ∙ ap (λ (v : ℕ). given_by v (instruction x)) place)
    ∙ sym (givens-more instrs at x small is)

-- an instruction makes one variable at most
pub next_var-most : (var : ℕ) (x : Instruction) → next_var var x ≤ var + 1
next_var-most var x = by_test (is_variable x)
  where
    by_test : (test : Bool) → (if test then var + 1 else var) ≤ var + 1
    by_test true = omega arith
    by_test false = omega arith

-- the place of the variable after it
pub var_after-more : (instrs : List RawInstr) (at : ℕ) (x : RawInstr) → at < length instrs → x ≡ get_or instrs at x
    → var_after 0 (take (at + 1) (map instruction instrs)) ≡ next_var (var_after 0 (take at (map instruction instrs))) (instruction x)
var_after-more instrs at x small is =
    ap (var_after 0) (take-instruction instrs at x small is) ∙ var_after-append 0 (take at (map instruction instrs)) (instruction x ∷ [])

-- the names that an instruction gives don't hang on the place of its variable
given_by-names : (names : List Given) (var : ℕ) (x : Instruction)
    → list_any (λ (g : Given). is_given names g.name) (given_by var x) ≡ list_any (λ (g : Given). is_given names g.name) (given_by 0 x)
given_by-names names var (FlowVar name size op init min max step restart) = refl
given_by-names names var (ListVar name size op step values restart) = refl
given_by-names names var (RandLimit name size min max limit seed restart) = refl
given_by-names names var (Tuple name ip_min ip_max port_min port_max limit restart) = refl
given_by-names names var (Write name place add big) = refl
given_by-names names var (WriteMask name place cast mask shift add big) = refl
given_by-names names var (FixIpv4 at) = refl
given_by-names names var (FixHw l2 l3 l4) = refl
given_by-names names var (FixL6 l2 l4) = refl
given_by-names names var (Trim name) = refl

-- the rule on names by what was given before and what is given here
name_rule-given : (all : List Instruction) (at var : ℕ) (x : Instruction) (names given : List GivenName) → map given_of names ≡ givens 0 (take at all)
    → map given_of given ≡ given_by var x
    → list_any (λ (g : Given). is_given (givens 0 (take at all)) g.name) (given_by 0 x) ≡ list_any (λ (g : Given). is_given (map given_of names) g.name) (map given_of given)
name_rule-given all at var x names given before here =
    sym (given_by-names (givens 0 (take at all)) var x)
    ∙ ap (list_any (λ (g : Given). is_given (givens 0 (take at all)) g.name)) (sym here)
    ∙ ap (λ (earlier : List Given). list_any (λ (g : Given). is_given earlier g.name) (map given_of given)) (sym before)

-- an instruction that gives no name again
pub name_rule-none : (all : List Instruction) (at var : ℕ) (x : Instruction) (names given : List GivenName) → map given_of names ≡ givens 0 (take at all)
    → map given_of given ≡ given_by var x → is_empty_name (variable_name x) ≡ false → list_any (λ (g : Given). is_given (map given_of names) g.name) (map given_of given) ≡ false
    → name_rule all at x ≡ None
name_rule-none all at var x names given before here named new =
    let again = name_rule-given all at var x names given before here ∙ new in rw named (rw again)

-- the variable of an instruction, where it makes one
held : (var : Option VarSpec) → map variable_of (option_to_list var) ≡ option_to_list (option_map variable_of var)
held None = refl
held (Some var) = refl

variables-here : (seed : ℕ) (instrs : List RawInstr) (at : ℕ) (x : RawInstr) → at < length instrs → x ≡ get_or instrs at x
    → variables_from seed at (map instruction (drop at instrs))
    ≡ option_to_list (variable_at seed at (instruction x)) ++ variables_from seed (at + 1) (map instruction (drop (at + 1) instrs))
variables-here seed instrs at x small is =
    ap (λ (rest : List RawInstr). variables_from seed at (map instruction rest)) (drop_more instrs at x small)
    ∙ ap (λ (y : RawInstr). option_to_list (variable_at seed at (instruction y)) ++ variables_from seed (at + 1) (map instruction (drop (at + 1) instrs))) (sym is)

-- the variables of one instruction more
pub variables-more : (seed : ℕ) (instrs : List RawInstr) (at : ℕ) (x : RawInstr) (vars : List VarSpec) (var : Option VarSpec) → at < length instrs → x ≡ get_or instrs at x
    → variable_at seed at (instruction x) ≡ option_map variable_of var
    → map variable_of (vars ++ option_to_list var) ++ variables_from seed (at + 1) (map instruction (drop (at + 1) instrs))
    ≡ map variable_of vars ++ variables_from seed at (map instruction (drop at instrs))
variables-more seed instrs at x vars var small is here =
    let rest = variables_from seed (at + 1) (map instruction (drop (at + 1) instrs)) in
    ap (λ (front : List Variable). front ++ rest)
    (map-append variable_of vars (option_to_list var) ∙ ap (λ (more : List Variable). map variable_of vars ++ more) (held var ∙ ap option_to_list (sym here)))
    ∙ append_assoc (map variable_of vars) (option_to_list (variable_at seed at (instruction x))) rest
    ∙ ap (λ (more : List Variable). map variable_of vars ++ more) (sym (variables-here seed instrs at x small is))

one-sound : (var : Option VarSpec) → IfSome var (λ (v : VarSpec). fault_of (variable_of v) ≡ None) → AreSound (option_to_list (option_map variable_of var))
one-sound None here = λ k d small. absurd (omega arith)
one-sound (Some var) here = All-from_recursion (λ (v : Variable). fault_of v ≡ None) (variable_of var ∷ []) (here, tt)

-- no variable has a fault, one more included
pub sound-more : (vars : List VarSpec) (var : Option VarSpec) → AreSound (map variable_of vars) → IfSome var (λ (v : VarSpec). fault_of (variable_of v) ≡ None)
    → AreSound (map variable_of (vars ++ option_to_list var))
sound-more vars var sound here =
    subst AreSound (sym (map-append variable_of vars (option_to_list var) ∙ ap (λ (more : List Variable). map variable_of vars ++ more) (held var)))
    (All-append (λ (v : Variable). fault_of v ≡ None) (map variable_of vars) (option_to_list (option_map variable_of var)) sound (one-sound var here))
