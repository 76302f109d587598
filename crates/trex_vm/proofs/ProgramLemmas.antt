-- The ends between which the numbers of operands lie, and what an accepted program has.
use Rattle.std.proofs.Common.{◌≡◌, ℕ, zero, suc, ◌<◌, ◌≤◌, List, [], ◌∷◌, length, get_or, map, refl, sym, ap, subst, ◌∙◌, arith, Option, Some, None, IfSome, Bool, true, false, not, ◌&&◌, nat_le, nat_lt, All}
use Rattle.std.proofs.lemmas.Bool.{and_parts, or_parts, not-true, leb-true, ltb-false}
use Rattle.std.proofs.lemmas.List.{get_or-map, length-map}
use Rattle.std.proofs.lemmas.List.Elements.{recursion_from_All}
use Rattle.std.specs.List.{AllByRecursion, list_any, count_by}
use Rattle.std.specs.Option.{option_map_or}
use Rattle.trex_layers.specs.declared.sizes.TheConstants.{LONGEST_PACKET, SHORTEST_PACKET}
use Rattle.trex_stamp.specs.declared.header.Version.{Version}
use Rattle.trex_vars.specs.Variable.{Variable, Tuple, variable_of}
use Rattle.trex_vars.specs.Check.{fault_of}
use Rattle.trex_vars.specs.Value.{value_at}
use Rattle.trex_vars.proofs.BoundsLemmas.{value-between}
use Rattle.trex_vars.specs.Bounds.{least, greatest, IsBetween}
use Rattle.trex_vars.specs.declared.spec.VarSpec.{VarSpec}
use Rattle.trex_vars.specs.declared.value.VarValue.{VarValue}
use Rattle.trex_vars.specs.declared.value.VarValue.TheVariants.{One, Pair}
use Rattle.trex_vm.specs.declared.instr.Operand.{Operand}
use Rattle.trex_vm.specs.declared.instr.Part.{Part}
use Rattle.trex_vm.specs.declared.instr.Part.TheVariants.{Whole, Ip, Port}
use Rattle.trex_vm.specs.declared.instr.Instr.{Instr}
use Rattle.trex_vm.specs.declared.instr.Instr.TheVariants.{Write, WriteMask}
use Rattle.trex_vm.specs.Effect.{first_trim, trim_of}
use Rattle.trex_vm.specs.Write.{part_of, number_in}
use Rattle.trex_vm.specs.Packet.{trimmed}
use Rattle.trex_vm.specs.Rules.{least_length, room_of, no_room_for_stamp, is_trim, cuts_wrong, trim_wrong, writes_past, misses_header, overwrites_header_kind, accepts}
use Rattle.trex_vm.specs.Program.{AreSound, AreWithin, IsFormed, IsProgram, TakesFrom, program_view}

-- the number that an operand takes from values that a function gives
pub number_in-map : (f : Variable → VarValue) (vars : List Variable) (from : Operand) (d : Variable) → from.var < length vars
    → number_in (map f vars) from ≡ part_of from.part (f (get_or vars from.var d))
number_in-map f vars from d below = ap (part_of from.part) (get_or-map f vars from.var d (One 0) below)

-- the same of variables as they are held in memory
pub number_in-specs : (f : Variable → VarValue) (vars : List VarSpec) (from : Operand) (d : VarSpec) → from.var < length vars
    → part_of from.part (f (variable_of (get_or vars from.var d))) ≡ number_in (map f (map variable_of vars)) from
number_in-specs f vars from d below =
    ap (λ (v : Variable). part_of from.part (f v)) (sym (get_or-map variable_of vars from.var d (variable_of d) below))
    ∙ sym (number_in-map f (map variable_of vars) from (variable_of d) (omega (arith, length-map vars variable_of)))

-- the parts of a value lie between those of its ends
part-between : (part : Part) (low value high : VarValue) → IsBetween low value high → (part_of part low ≤ part_of part value) × (part_of part value ≤ part_of part high)
part-between Whole (One a) (One b) (One c) between = between
part-between Ip (One a) (One b) (One c) between = (omega arith, omega arith)
part-between Port (One a) (One b) (One c) between = (omega arith, omega arith)
part-between Whole (Pair a x) (Pair b y) (Pair c z) between = (omega arith, omega arith)
part-between Ip (Pair a x) (Pair b y) (Pair c z) between = between.0
part-between Port (Pair a x) (Pair b y) (Pair c z) between = between.1
part-between kind low value high between = absurd between

-- there is a value for each variable
pub within-long : (vars : List Variable) (values : List VarValue) → AreWithin vars values → length values ≡ length vars
within-long [] [] within = refl
within-long [] (x ∷ values) within = absurd within
within-long (v ∷ vars) [] within = absurd within
within-long (v ∷ vars) (x ∷ values) within = ap suc (within-long vars values within.1)

-- the value at a place lies between the ends of the variable there
within-at : (vars : List Variable) (values : List VarValue) (k : ℕ) (d : Variable) → AreWithin vars values → k < length vars
    → IsBetween (least (get_or vars k d)) (get_or values k (One 0)) (greatest (get_or vars k d))
within-at [] values k d within below = absurd (omega arith)
within-at (v ∷ vars) [] k d within below = absurd within
within-at (v ∷ vars) (x ∷ values) zero d within below = within.0
within-at (v ∷ vars) (x ∷ values) (suc k) d within below = within-at vars values k d within.1 (omega arith)

-- the values of variables without a fault at one packet lie between their ends
pub values-within : (n : ℕ) (vars : List Variable) → AllByRecursion (λ v. fault_of v ≡ None) vars → AreWithin vars (map (λ v. value_at v n) vars)
values-within n [] sound = tt
values-within n (v ∷ vars) sound = (value-between v n sound.0, values-within n vars sound.1)

number-between : (vars : List Variable) (values : List VarValue) (from : Operand) (d : Variable) → AreWithin vars values → from.var < length vars
    → (number_in (map least vars) from ≤ number_in values from) × (number_in values from ≤ number_in (map greatest vars) from)
number-between vars values from d within below =
    let v = get_or vars from.var d in
    let both = part-between from.part (least v) (get_or values from.var (One 0)) (greatest v) (within-at vars values from.var d within below) in
    let low = number_in-map least vars from d below in
    let high = number_in-map greatest vars from d below in
    (omega (arith, both.0), omega (arith, both.1))

-- what a trim in its range tells
trim-tells : (vars : List Variable) (whole : ℕ) (from : Operand) → cuts_wrong vars whole from ≡ false
    → (SHORTEST_PACKET ≤ number_in (map least vars) from) × (number_in (map greatest vars) from ≤ whole)
trim-tells vars whole from fine =
    let low = number_in (map least vars) from in
    let high = number_in (map greatest vars) from in
    let cut = or_parts (nat_lt low SHORTEST_PACKET) (nat_lt whole high) fine in
    (ltb-false low SHORTEST_PACKET cut.0, ltb-false whole high cut.1)

-- the operand of a trim is the instruction's
trim-takes : (count : ℕ) (i : Instr) (from : Operand) → trim_of i ≡ Some from → TakesFrom count i → from.var < count
trim-takes count (Write from at add big) other is takes = absurd (cc)
trim-takes count (WriteMask from at cast mask shift add big) other is takes = absurd (cc)
trim-takes count i other is takes = let Takes : Option Operand → Type 0 = λ o. IfSome o (λ from. from.var < count) in subst Takes is takes

-- the operand of the first trim takes from the variables as its instruction does
pub first_trim-takes : (count : ℕ) (instrs : List Instr) (from : Operand) → first_trim instrs ≡ Some from → AllByRecursion (TakesFrom count) instrs → from.var < count
first_trim-takes count [] from is takes = absurd (cc)
first_trim-takes count (i ∷ rest) from is takes = by_trim (trim_of i) (λ other same. trim-takes count i other same takes.0) (λ later. first_trim-takes count rest from later takes.1) is
  where
    by_trim : (trim : Option Operand) → ((other : Operand) → trim ≡ Some other → other.var < count) → (first_trim rest ≡ Some from → from.var < count)
        → option_map_or (λ it. Some it) trim (first_trim rest) ≡ Some from → from.var < count
    by_trim None here later same = later same
    by_trim (Some other) here later same = here from same

-- the packet's length is the number of the first trim's operand, or the whole template's length where there is none
pub trimmed-first_trim : (values : List VarValue) (instrs : List Instr) (whole : ℕ) → trimmed values instrs whole ≡ option_map_or (number_in values) (first_trim instrs) whole
trimmed-first_trim values [] whole = refl
trimmed-first_trim values (i ∷ rest) whole = by_trim (trim_of i) (trimmed-first_trim values rest whole)
  where
    by_trim : (trim : Option Operand) → trimmed values rest whole ≡ option_map_or (number_in values) (first_trim rest) whole
        → option_map_or (number_in values) trim (trimmed values rest whole) ≡ option_map_or (number_in values) (option_map_or (λ it. Some it) trim (first_trim rest)) whole
    by_trim None later = later
    by_trim (Some from) later = refl

-- the packet's length lies from the least packet length to the template's length
pub trimmed-between : (vars : List Variable) (values : List VarValue) (d : Variable) (instrs : List Instr) (whole : ℕ) → AreWithin vars values
    → AllByRecursion (TakesFrom (length vars)) instrs → list_any (trim_wrong vars whole) instrs ≡ false
    → (least_length vars instrs whole ≤ trimmed values instrs whole) × (trimmed values instrs whole ≤ whole)
trimmed-between vars values d [] whole within operands fine = (omega arith, omega arith)
trimmed-between vars values d (i ∷ rest) whole within operands fine =
    let cut = or_parts (trim_wrong vars whole i) (list_any (trim_wrong vars whole) rest) fine in
    by_trim (trim_of i) (λ from is. trim-takes (length vars) i from is operands.0) cut.0 (trimmed-between vars values d rest whole within operands.1 cut.1)
  where
    by_trim : (trim : Option Operand) → ((from : Operand) → trim ≡ Some from → from.var < length vars) → option_map_or (cuts_wrong vars whole) trim false ≡ false
        → (least_length vars rest whole ≤ trimmed values rest whole) × (trimmed values rest whole ≤ whole)
        → (option_map_or (number_in (map least vars)) trim (least_length vars rest whole) ≤ option_map_or (number_in values) trim (trimmed values rest whole))
        × (option_map_or (number_in values) trim (trimmed values rest whole) ≤ whole)
    by_trim None takes fine later = later
    by_trim (Some from) takes fine later =
        let range = trim-tells vars whole from fine in
        let both = number-between vars values from d within (takes from refl) in
        (both.0, omega (arith, both.1, range.1))

-- the least packet length is at most the template's length
pub least_length-within : (vars : List Variable) (instrs : List Instr) (whole : ℕ) → AreSound vars → All (TakesFrom (length vars)) instrs
    → list_any (trim_wrong vars whole) instrs ≡ false → least_length vars instrs whole ≤ whole
least_length-within vars instrs whole sound operands fine =
    let within = values-within 0 vars (recursion_from_All (λ v. fault_of v ≡ None) vars sound) in
    let range = trimmed-between vars (map (λ v. value_at v 0) vars) (Tuple 0 0 0 0 0) instrs whole within (recursion_from_All (TakesFrom (length vars)) instrs operands) fine in
    omega (arith, range.0, range.1)

-- the least packet length is at least that of the shortest packet
pub least_length-bound : (vars : List Variable) (instrs : List Instr) (whole : ℕ) → SHORTEST_PACKET ≤ whole → list_any (trim_wrong vars whole) instrs ≡ false
    → SHORTEST_PACKET ≤ least_length vars instrs whole
least_length-bound vars [] whole long fine = long
least_length-bound vars (i ∷ rest) whole long fine =
    let cut = or_parts (trim_wrong vars whole i) (list_any (trim_wrong vars whole) rest) fine in
    by_trim (trim_of i) cut.0 (least_length-bound vars rest whole long cut.1)
  where
    by_trim : (trim : Option Operand) → option_map_or (cuts_wrong vars whole) trim false ≡ false → SHORTEST_PACKET ≤ least_length vars rest whole
        → SHORTEST_PACKET ≤ option_map_or (number_in (map least vars)) trim (least_length vars rest whole)
    by_trim None fine later = later
    by_trim (Some from) fine later = (trim-tells vars whole from fine).0

-- what an accepted program has
pub record Accepted (vars : List Variable) (template : List ℕ) (stamp : Option Version) (instrs : List Instr) : Type 0 where
  pub trims : count_by is_trim instrs ≤ 1
  pub cuts : list_any (trim_wrong vars (length template)) instrs ≡ false
  pub room : no_room_for_stamp (least_length vars instrs (length template)) stamp ≡ false
  pub places : list_any (writes_past (room_of (least_length vars instrs (length template)) stamp)) instrs ≡ false
  pub headers : list_any (misses_header template (room_of (least_length vars instrs (length template)) stamp)) instrs ≡ false
  pub kinds : list_any (overwrites_header_kind instrs) instrs ≡ false

six_parts : (a b c d e f : Bool) → (a && not b && not c && not d && not e && not f) ≡ true
    → (a ≡ true) × (b ≡ false) × (c ≡ false) × (d ≡ false) × (e ≡ false) × (f ≡ false)
six_parts a b c d e f all =
    let five = and_parts (a && not b && not c && not d && not e) (not f) all in
    let four = and_parts (a && not b && not c && not d) (not e) five.0 in
    let three = and_parts (a && not b && not c) (not d) four.0 in
    let two = and_parts (a && not b) (not c) three.0 in
    let one = and_parts a (not b) two.0 in
    (one.0, not-true b one.1, not-true c two.1, not-true d three.1, not-true e four.1, not-true f five.1)

pub accepts-tells : (vars : List Variable) (template : List ℕ) (stamp : Option Version) (instrs : List Instr) → accepts vars template stamp instrs ≡ true
    → Accepted vars template stamp instrs
accepts-tells vars template stamp instrs accepted =
    let all = six_parts (nat_le (count_by is_trim instrs) 1) _ _ _ _ _ accepted in
    record { trims = leb-true (count_by is_trim instrs) 1 all.0; cuts = all.1; room = all.2; places = all.3; headers = all.4; kinds = all.5 }

-- what is accepted is a program
pub accepted-program : (instrs : List Instr) (vars : List Variable) (template : List ℕ) (stamp : Option Version) → SHORTEST_PACKET ≤ length template → length template ≤ LONGEST_PACKET
    → All IsFormed instrs → least_length vars instrs (length template) ≤ length template → Accepted vars template stamp instrs
    → IsProgram (program_view instrs vars template stamp)
accepted-program instrs vars template stamp long short formed cut known = record {
  long = least_length-bound vars instrs (length template) long known.cuts;
  stamp = known.room;
  cut = cut;
  short = short;
  trims = known.trims;
  formed = formed;
  places = known.places;
  kinds = known.kinds;
}
