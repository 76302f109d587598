use Rattle.std.proofs.Common.{◌≡◌, ℕ, List, length, ap, ◌∙◌, arith, Bool, Option}
use Rattle.std.proofs.lemmas.List.{length-take-le}
use Rattle.std.proofs.lemmas.List.Folds.{list_any_none}
use Rattle.std.specs.List.{list_any}
use Rattle.trex_stamp.specs.declared.header.Stamp.{Stamp}
use Rattle.trex_vars.specs.declared.value.VarValue.{VarValue}
use Rattle.trex_vm.specs.declared.instr.Instr.{Instr}
use Rattle.trex_vm.specs.Packet.{version_of, stamped, stamped_template}
use Rattle.trex_vm.specs.Rules.{writes_past, misses_header}
use Rattle.trex_vm.specs.Program.{ProgramView, IsProgram, IsFrontOf, AreValuesOf}
use Rattle.trex_vm.proofs.Theorem.{Runs, Runs-cut, Runs-long, Fit-stamped_template, cut, length-stamped_template}
use Rattle.trex_vm.proofs.run.finish_packet.Goals as goal

-- a run over the template of which the bytes are the front
runs_over : (p : ProgramView) (values : List VarValue) (stamp : Option Stamp) (bytes : List ℕ) → IsProgram p → (front : IsFrontOf p values bytes) → AreValuesOf p values
    → version_of stamp ≡ p.stamp → Runs p values stamp front.template
runs_over p values stamp bytes program front valued stamps = record { program = program; meant = front.meant; valued = valued; stamps = stamps }

front_long : (p : ProgramView) (values : List VarValue) (stamp : Option Stamp) (bytes : List ℕ) (front : IsFrontOf p values bytes) → Runs p values stamp front.template
    → length bytes ≡ cut p values front.template
front_long p values stamp bytes front runs =
    ap length front.is ∙ length-take-le (cut p values front.template) front.template (Runs-cut p values stamp front.template runs).1

pub write_header-requires-clause-stamp : goal.write_header-requires-clause-stamp
write_header-requires-clause-stamp c =
    let p = c.args.program.now in
    let values = c.args.values.now in
    let stamp = c.args.stamp in
    let front = c.requires.front in
    let runs = runs_over p values stamp c.args.bytes.now c.instrs-instrs.ensures.sound front c.requires.values c.requires.stamp in
    omega (arith, Runs-long p values stamp front.template runs, front_long p values stamp c.args.bytes.now front runs)

pub apply_all-requires-clause-places : goal.apply_all-requires-clause-places
apply_all-requires-clause-places c =
    let p = c.args.program.now in
    let values = c.args.values.now in
    let stamp = c.args.stamp in
    let front = c.requires.front in
    let runs = runs_over p values stamp c.args.bytes.now c.instrs-instrs.ensures.sound front c.requires.values c.requires.stamp in
    let is : c.write_header.new.bytes ≡ stamped_template p.instrs values stamp front.template = c.write_header.ensures ∙ ap (stamped stamp) front.is in
    ap (λ (m : ℕ). list_any (writes_past m) c.instrs-instrs.result.now) (ap length is ∙ length-stamped_template p values stamp front.template runs)
    ∙ ap (list_any (writes_past (cut p values front.template))) c.instrs-instrs.ensures.instrs
    ∙ list_any_none (writes_past (cut p values front.template)) p.instrs (Fit-stamped_template p values stamp front.template runs).places

pub apply_all-requires-clause-headers : goal.apply_all-requires-clause-headers
apply_all-requires-clause-headers c =
    let p = c.args.program.now in
    let values = c.args.values.now in
    let stamp = c.args.stamp in
    let front = c.requires.front in
    let runs = runs_over p values stamp c.args.bytes.now c.instrs-instrs.ensures.sound front c.requires.values c.requires.stamp in
    let st = stamped_template p.instrs values stamp front.template in
    let is : c.write_header.new.bytes ≡ st = c.write_header.ensures ∙ ap (stamped stamp) front.is in
    let misses : List ℕ → Instr → Bool = λ b. misses_header b (length b) in
    ap (λ (b : List ℕ). list_any (misses b) c.instrs-instrs.result.now) is
    ∙ ap (λ (m : ℕ). list_any (misses_header st m) c.instrs-instrs.result.now) (length-stamped_template p values stamp front.template runs)
    ∙ ap (list_any (misses_header st (cut p values front.template))) c.instrs-instrs.ensures.instrs
    ∙ list_any_none (misses_header st (cut p values front.template)) p.instrs (Fit-stamped_template p values stamp front.template runs).headers
