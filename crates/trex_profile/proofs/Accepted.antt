-- Where no rule on what a stream's instructions do is broken, its program is accepted.
use Rattle.std.proofs.Common.{◌≡◌, ℕ, ◌+◌, ◌≤◌, Bool, true, false, ◌&&◌, ◌||◌, not, nat_le, List, [], ◌∷◌, ◌++◌, length, take, All, Option, Some, None, if◌then◌else◌, refl, sym, ap, subst, ◌∙◌, append_assoc, arith}
use Rattle.std.specs.List.{list_any, count_by}
use Rattle.std.proofs.Math.Seq.{take-append_seam}
use Rattle.std.proofs.lemmas.Bool.{or_parts}
use Rattle.std.proofs.lemmas.Bool.Decides.{nat_tests}
use Rattle.std.proofs.lemmas.List.{length-append}
use Rattle.std.proofs.lemmas.List.Folds.{list_any-append}
use Rattle.std.proofs.lemmas.List.Sums.{sum_by-append, sum_by-cons}
use Rattle.trex_stamp.specs.declared.header.Version.{Version}
use Rattle.trex_vars.specs.Variable.{Variable}
use Rattle.trex_vm.specs.declared.instr.Instr.{Instr}
use Rattle.trex_vm.specs.Program.{TakesFrom, AreSound}
use Rattle.trex_vm.specs.Rules.{least_length, room_of, no_room_for_stamp, is_trim, trim_wrong, writes_past, misses_header, overwrites_header_kind, accepts}
use Rattle.trex_vm.proofs.ProgramLemmas.{least_length-within}
use Rattle.trex_profile.specs.declared.rule.Rule.{Rule}
use Rattle.trex_profile.specs.declared.rule.Rule.TheVariants.{TwoTrims, TrimRange, NoRoomForStamp, WriteRoom, BadFix, WriteOnShape}
use Rattle.trex_profile.specs.declared.instructions.steps.Step.{Step}
use Rattle.trex_profile.specs.declared.instructions.steps.Step.TheVariants.{Makes, Does, MissesField, FixesHeader, FixesSegment}
use Rattle.trex_profile.specs.InstrRules.{does, twice_rule, trim_rule, field_rule, room_rule, fix_wrong, fix_rule, shape_rule, header_wrong, length_rules, place_rules}
use Rattle.trex_profile.specs.Order.{first, first_each}
use Rattle.trex_profile.specs.Refusal.{rule, rule_there}
use Rattle.trex_profile.specs.Steps.{instrs_of, program_of}
use Rattle.trex_profile.proofs.OrderLemmas.{first-none}

there-none : (r : Rule) (place : ℕ) (test : Bool) → rule_there r place test ≡ None → test ≡ false
there-none r place true none = absurd (cc)
there-none r place false none = refl

whole-none : (r : Rule) (test : Bool) → rule r test ≡ None → test ≡ false
whole-none r true none = absurd (cc)
whole-none r false none = refl

-- where a rule is broken at no step, its test holds of none
each-none : (r : Rule) (test : Step → Bool) (place : ℕ) (steps : List Step) → first_each (λ at s. rule_there r at (test s)) place steps ≡ None → list_any test steps ≡ false
each-none r test place [] none = refl
each-none r test place (s ∷ steps) none =
    let here = first-none (rule_there r place (test s)) (first_each (λ at t. rule_there r at (test t)) (place + 1) steps ∷ []) none in
    let later = first-none (first_each (λ at t. rule_there r at (test t)) (place + 1) steps) [] here.1 in
    both (test s) (list_any test steps) (there-none r place (test s) here.0) (each-none r test (place + 1) steps later.0)
  where
    both : (a b : Bool) → a ≡ false → b ≡ false → (a || b) ≡ false
    both a b first_is other = rw first_is other

-- a test holds of a step where it holds of an instruction of the program
does-program : (test : Instr → Bool) (steps : List Step) → list_any test (program_of steps) ≡ list_any (does test) steps
does-program test [] = refl
does-program test (s ∷ steps) =
    list_any-append test (instrs_of s) (program_of steps) ∙ ap (λ rest. list_any test (instrs_of s) || rest) (does-program test steps)

-- a fix finds its header
finds : (template : List ℕ) (room : ℕ) (steps : List Step) → list_any (fix_wrong template room) steps ≡ false → list_any (does (misses_header template room)) steps ≡ false
finds template room [] none = refl
finds template room (s ∷ steps) none =
    let both = or_parts (fix_wrong template room s) (list_any (fix_wrong template room) steps) none in
    let here = or_parts (does (misses_header template room) s) (header_wrong template s) both.0 in
    ap (λ test. test || list_any (does (misses_header template room)) steps) here.0 ∙ finds template room steps both.1

one-or-none : (test : Bool) → (if test then 1 else 0) + 0 ≡ (if test || false then 1 else 0)
one-or-none true = refl
one-or-none false = refl

-- a step is one trim or none
count-does : (s : Step) → count_by is_trim (instrs_of s) ≡ (if does is_trim s then 1 else 0)
count-does Makes = refl
count-does MissesField = refl
count-does (Does instr) = sum_by-cons (λ (i : Instr). if is_trim i then 1 else 0) instr [] ∙ one-or-none (is_trim instr)
count-does (FixesHeader at header) = refl
count-does (FixesSegment ip header kind) = refl

count-more : (p : Step → Bool) (s : Step) (steps : List Step) → count_by p (s ∷ steps) ≡ (if p s then 1 else 0) + count_by p steps
count-more p s steps = sum_by-cons (λ (t : Step). if p t then 1 else 0) s steps

-- there are as many trims as steps that cut
count-program : (steps : List Step) → count_by is_trim (program_of steps) ≡ count_by (does is_trim) steps
count-program [] = refl
count-program (s ∷ steps) =
    sum_by-append (λ (i : Instr). if is_trim i then 1 else 0) (instrs_of s) (program_of steps)
    ∙ ap (λ (n : ℕ). n + count_by is_trim (program_of steps)) (count-does s)
    ∙ ap (λ (n : ℕ). (if does is_trim s then 1 else 0) + n) (count-program steps)
    ∙ sym (count-more (does is_trim) s steps)

no-count : (p : Step → Bool) (steps : List Step) → list_any p steps ≡ false → count_by p steps ≡ 0
no-count p [] none = refl
no-count p (s ∷ steps) none =
    let both = or_parts (p s) (list_any p steps) none in
    let rest = no-count p steps both.1 in
    count-more p s steps ∙ ap (λ (test : Bool). (if test then 1 else 0) + count_by p steps) both.0 ∙ omega arith

-- one step more before the rest: whether it cuts, whether an earlier one does, whether one of both does, whether a later one does, and how many later ones do
one-more : (here earlier both later : Bool) (count : ℕ) → (here && earlier) ≡ false → both ≡ (earlier || (here || false)) → (both ≡ true → later ≡ false) → (both ≡ false → count ≤ 1)
    → (later ≡ false → count ≡ 0) → (earlier ≡ true → (here || later) ≡ false) × (earlier ≡ false → (if here then 1 else 0) + count ≤ 1)
one-more true true both later count once is none few zero = absurd (cc)
one-more true false both later count once is none few zero = (λ e. absurd (cc), λ e. let n = zero (none is) in omega arith)
one-more false true both later count once is none few zero = (λ e. none is, λ e. absurd (cc))
one-more false false both later count once is none few zero = (λ e. absurd (cc), λ e. let n = few is in omega arith)

-- where no second trim is refused, at most one step cuts
once : (front steps : List Step) → first_each (twice_rule (front ++ steps)) (length front) steps ≡ None
    → (list_any (does is_trim) front ≡ true → list_any (does is_trim) steps ≡ false) × (list_any (does is_trim) front ≡ false → count_by (does is_trim) steps ≤ 1)
once front [] none = (λ e. refl, λ e. omega arith)
once front (s ∷ steps) none =
    let whole = front ++ s ∷ steps in
    let here = first-none (twice_rule whole (length front) s) (first_each (twice_rule whole) (length front + 1) steps ∷ []) none in
    let later = first-none (first_each (twice_rule whole) (length front + 1) steps) [] here.1 in
    let test = there-none TwoTrims (length front) (does is_trim s && list_any (does is_trim) (take (length front) whole)) here.0 in
    let now : (does is_trim s && list_any (does is_trim) front) ≡ false =
    subst (λ (xs : List Step). (does is_trim s && list_any (does is_trim) xs) ≡ false) (take-append_seam front (s ∷ steps)) test in
    let further : first_each (twice_rule ((front ++ s ∷ []) ++ steps)) (length (front ++ s ∷ [])) steps ≡ None =
    rw (append_assoc front (s ∷ []) steps) (rw (length-append front (s ∷ [])) later.0) in
    let rest = once (front ++ s ∷ []) steps further in
    let more = one-more (does is_trim s) (list_any (does is_trim) front) (list_any (does is_trim) (front ++ s ∷ [])) (list_any (does is_trim) steps) (count_by (does is_trim) steps)
    now (list_any-append (does is_trim) front (s ∷ [])) rest.0 rest.1 (no-count (does is_trim) steps) in
    (more.0, λ e. rw (count-more (does is_trim) s steps) (more.1 e))

three-none : {E : Type 0} (a b c : Option E) → first (a ∷ b ∷ c ∷ []) ≡ None → (a ≡ None) × (b ≡ None) × (c ≡ None)
three-none None None None none = (refl, refl, refl)
three-none (Some e) b c none = absurd (cc)
three-none None (Some e) c none = absurd (cc)
three-none None None (Some e) none = absurd (cc)

all-six : (a b c d e f : Bool) → a ≡ true → b ≡ false → c ≡ false → d ≡ false → e ≡ false → f ≡ false → (a && not b && not c && not d && not e && not f) ≡ true
all-six a b c d e f a_is b_is c_is d_is e_is f_is = rw a_is (rw b_is (rw c_is (rw d_is (rw e_is (rw f_is)))))

-- where no rule on lengths is broken, no trim is out of its range
cuts-none : (vars : List Variable) (whole : ℕ) (stamp : Option Version) (steps : List Step) → length_rules vars whole stamp steps ≡ None
    → list_any (trim_wrong vars whole) (program_of steps) ≡ false
unfolding length_rules
cuts-none vars whole stamp steps none =
    let three = three-none (first_each (twice_rule steps) 0 steps) (first_each (trim_rule vars whole) 0 steps) _ none in
    does-program (trim_wrong vars whole) steps ∙ each-none TrimRange (does (trim_wrong vars whole)) 0 steps three.1

few-enough : (n : ℕ) → n ≤ 1 → nat_le n 1 ≡ true
few-enough n few = grind (arith, nat_tests)

-- where no rule on lengths and places is broken, the program is accepted
pub accepted : (vars : List Variable) (template : List ℕ) (stamp : Option Version) (steps : List Step) → length_rules vars (length template) stamp steps ≡ None
    → place_rules template (room_of (least_length vars (program_of steps) (length template)) stamp) steps ≡ None
    → accepts vars template stamp (program_of steps) ≡ true
unfolding length_rules place_rules
accepted vars template stamp steps lengths places =
    let whole = length template in
    let program = program_of steps in
    let shortest = least_length vars program whole in
    let room = room_of shortest stamp in
    let three = three-none (first_each (twice_rule steps) 0 steps) (first_each (trim_rule vars whole) 0 steps) (rule NoRoomForStamp (no_room_for_stamp shortest stamp)) lengths in
    let fields = first-none (first_each field_rule 0 steps) (first_each (room_rule room) 0 steps ∷ first_each (fix_rule template room) 0 steps ∷ first_each (shape_rule program) 0 steps ∷ []) places in
    let further = three-none (first_each (room_rule room) 0 steps) (first_each (fix_rule template room) 0 steps) (first_each (shape_rule program) 0 steps) fields.1 in
    let one = (once [] steps three.0).1 refl in
    let few : count_by is_trim program ≤ 1 = omega (arith, count-program steps) in
    all-six (nat_le (count_by is_trim program) 1) (list_any (trim_wrong vars whole) program) (no_room_for_stamp shortest stamp) (list_any (writes_past room) program)
    (list_any (misses_header template room) program) (list_any (overwrites_header_kind program) program)
    (few-enough (count_by is_trim program) few)
    (cuts-none vars whole stamp steps lengths)
    (whole-none NoRoomForStamp (no_room_for_stamp shortest stamp) three.2)
    (does-program (writes_past room) steps ∙ each-none WriteRoom (does (writes_past room)) 0 steps further.0)
    (does-program (misses_header template room) steps ∙ finds template room steps (each-none BadFix (fix_wrong template room) 0 steps further.1))
    (does-program (overwrites_header_kind program) steps ∙ each-none WriteOnShape (does (overwrites_header_kind program)) 0 steps further.2)

-- the room lies within the template
pub room-within : (vars : List Variable) (whole : ℕ) (stamp : Option Version) (steps : List Step) → AreSound vars → All (TakesFrom (length vars)) (program_of steps)
    → length_rules vars whole stamp steps ≡ None → room_of (least_length vars (program_of steps) whole) stamp ≤ whole
room-within vars whole stamp steps sound operands none =
    let short = least_length-within vars (program_of steps) whole sound operands (cuts-none vars whole stamp steps none) in
    omega arith
