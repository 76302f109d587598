use Rattle.std.proofs.Common.{◌≡◌, ℕ, ◌≤◌, List, length, sym, subst, All, Option, Some, true, refl, arith}
use Rattle.std.proofs.lemmas.List.Elements.{recursion_from_All}
use Rattle.trex_vars.specs.Variable.{Variable, Tuple}
use Rattle.trex_vars.specs.declared.value.VarValue.{VarValue}
use Rattle.trex_layers.specs.declared.sizes.TheConstants.{LONGEST_PACKET, SHORTEST_PACKET}
use Rattle.trex_stamp.specs.declared.header.Stamp.{Stamp}
use Rattle.trex_stamp.specs.declared.header.Version.{Version}
use Rattle.trex_vm.specs.declared.instr.Instr.{Instr}
use Rattle.trex_vm.specs.Packet.{version_of}
use Rattle.trex_vm.specs.Program.{AreOperandsOf, AreValuesOf, AreWithin, ProgramView, TakesFrom, program_view}
use Rattle.trex_vm.specs.Rules.{accepts}
use Rattle.trex_vm.proofs.ProgramLemmas.{Accepted, accepted-program, accepts-tells, trimmed-between, within-long}
use Rattle.trex_vm.proofs.Stamped.{packet-stamped}
use Rattle.trex_vm.proofs.Theorem.{Runs, Runs-cut, length-packet}
use Rattle.trex_vm.proofs.laws.programs_fit.Goals as goal

-- an accepted program is meant for values that lie between the ends of its variables
valued : (instrs : List Instr) (vars : List Variable) (template : List ℕ) (stamp : Option Version) (values : List VarValue) → AreOperandsOf vars instrs
    → AreWithin vars values → Accepted vars template stamp instrs → AreValuesOf (program_view instrs vars template stamp) values
valued instrs vars template stamp values operands within known =
    let Taken : ℕ → Type 0 = λ count. All (TakesFrom count) instrs in
    let range = trimmed-between vars values (Tuple 0 0 0 0 0) instrs (length template) within (recursion_from_All (TakesFrom (length vars)) instrs operands.operands) known.cuts in
    record { operands = subst Taken (sym (within-long vars values within)) operands.operands; least = range.0; most = range.1 }

pub returns-clause-values : goal.returns-clause-values
returns-clause-values c instrs vars template stamp values operands within accepted =
    valued instrs vars template stamp values operands within (accepts-tells vars template stamp instrs accepted)

-- an accepted program runs over such values
runs_over : (instrs : List Instr) (vars : List Variable) (template : List ℕ) (stamp : Option Stamp) (values : List VarValue) → AreOperandsOf vars instrs
    → AreWithin vars values → accepts vars template (version_of stamp) instrs ≡ true → SHORTEST_PACKET ≤ length template → length template ≤ LONGEST_PACKET
    → Runs (program_view instrs vars template (version_of stamp)) values stamp template
runs_over instrs vars template stamp values operands within accepted long short =
    let known = accepts-tells vars template (version_of stamp) instrs accepted in
    let taken = valued instrs vars template (version_of stamp) values operands within known in
    record {
      program = accepted-program instrs vars template (version_of stamp) long short operands.formed (omega (arith, taken.least, taken.most)) known;
      meant = record { long = refl; headers = known.headers };
      valued = taken;
      stamps = refl;
    }

pub returns-clause-short : goal.returns-clause-short
returns-clause-short c instrs vars template stamp values operands within accepted long short =
    let plan : ProgramView = program_view instrs vars template (version_of stamp) in
    let runs = runs_over instrs vars template stamp values operands within accepted long short in
    let cut = Runs-cut plan values stamp template runs in
    let is = length-packet plan values stamp template runs in
    omega (arith, is, cut.1)

pub returns-clause-stamped : goal.returns-clause-stamped
returns-clause-stamped c instrs vars template stamp values operands within accepted long short =
    packet-stamped (program_view instrs vars template (Some stamp.version)) values stamp template
    (runs_over instrs vars template (Some stamp) values operands within accepted long short)
