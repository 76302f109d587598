use Rattle.std.proofs.Common.{List, get_or, length, sym, ap, subst, ◌≡◌, ◌∙◌, ℕ, pos, false}
use Rattle.trex_vm.specs.declared.instr.Instr.{Instr}
use Rattle.trex_vm.specs.declared.instr.Instr.TheVariants.{Write}
use Rattle.trex_vm.specs.declared.instr.Part.TheVariants.{Whole}
use Rattle.trex_vm.specs.Packet.{after}
use Rattle.trex_vm.specs.Rules.{writes_past, misses_header}
use Rattle.trex_vm.proofs.Theorem.{Fit, Fit-in_turn, KeepsKinds-none, none_pass, after_all-more}
use Rattle.trex_vm.proofs.run.apply_all.Goals as goal

abbrev past : Instr
past = Write (record { var = 0; part = Whole; size = 0 }) 0 (pos 0) false

pub apply-requires-clause-header : goal.apply-requires-clause-header
apply-requires-clause-header c =
    let at = c.loop-instr.instr-index in
    let instrs = c.args.instrs.now in
    let bytes = c.args.bytes.now in
    let fit : Fit instrs bytes (length bytes) = record {
      places = none_pass (writes_past (length bytes)) instrs c.requires.places;
      headers = none_pass (misses_header bytes (length bytes)) instrs c.requires.headers;
      kinds = KeepsKinds-none instrs c.requires.kinds;
    } in
    let P : List ℕ → Type 0 = λ b. misses_header b (length b) (get_or instrs at past) ≡ false in
    subst P (sym c.loop-instr.invariant) (Fit-in_turn c.args.values.now instrs bytes at past fit c.loop-instr-test.true).1

pub loop-instr-preserved : goal.loop-instr-preserved
loop-instr-preserved c =
    let at = c.loop-instr.instr-index in
    let instrs = c.args.instrs.now in
    let values = c.args.values.now in
    c.apply.ensures ∙ ap (after values (get_or instrs at past)) c.loop-instr.invariant ∙ sym (after_all-more values instrs c.args.bytes.now at past c.loop-instr-test.true)
