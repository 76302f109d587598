use Rattle.std.proofs.Common.{◌≡◌, ◌≤◌, ◌++◌, ℕ, List, length, take, drop, sym, ap, subst, ◌∙◌, arith, Option}
use Rattle.std.proofs.lemmas.List.{length-take-le, take_at}
use Rattle.trex_stamp.specs.declared.header.Stamp.{Stamp}
use Rattle.trex_vars.specs.declared.value.VarValue.{VarValue}
use Rattle.trex_vm.specs.Packet.{after_all, trimmed, version_of, stamped, packet}
use Rattle.trex_vm.specs.Cover.{StaysFixed, HeaderVerifies}
use Rattle.trex_vm.specs.Program.{ProgramView, IsProgram, IsTemplateOf, AreValuesOf}
use Rattle.trex_vm.proofs.Theorem.{Runs, length-packet, packet-verifies}
use Rattle.trex_vm.proofs.run.run_plain.Goals as goal

-- a run, with the length that was found
record Finds (p : ProgramView) (values : List VarValue) (stamp : Option Stamp) (template : List ℕ) (n : ℕ) : Type 0 where
  runs : Runs p values stamp template
  len : n ≡ trimmed values p.instrs (length template)

finds : (p : ProgramView) (values : List VarValue) (stamp : Option Stamp) (template : List ℕ) (n : ℕ) → IsProgram p → IsTemplateOf p template → AreValuesOf p values
    → version_of stamp ≡ p.stamp → n ≡ trimmed values p.instrs p.template → Finds p values stamp template n
finds p values stamp template n program meant valued stamps len = record {
  runs = record { program = program; meant = meant; valued = valued; stamps = stamps };
  len = len ∙ ap (trimmed values p.instrs) (sym meant.long);
}

-- what was made is the packet, of the length that was found
made : (p : ProgramView) (values : List VarValue) (stamp : Option Stamp) (template : List ℕ) (n : ℕ) (front bytes : List ℕ) → Finds p values stamp template n
    → front ≡ take n template → bytes ≡ after_all values p.instrs (stamped stamp front) → (bytes ≡ packet p.instrs values stamp template) × (length bytes ≡ n)
made p values stamp template n front bytes found copied is =
    let whole : bytes ≡ packet p.instrs values stamp template =
    is ∙ ap (λ (b : List ℕ). after_all values p.instrs (stamped stamp b)) (copied ∙ ap (λ (m : ℕ). take m template) found.len) in
    (whole, ap length whole ∙ length-packet p values stamp template found.runs ∙ sym found.len)

pub returns-clause-verifies : goal.returns-clause-verifies
returns-clause-verifies c = λ before fix later is.
    let p = c.args.program.now in
    let values = c.args.values.now in
    let stamp = c.args.stamp in
    let template = c.args.template.now in
    let n = c.packet_length-len.result in
    let copy = c.copy_from_slice.new.self in
    let out = copy ++ drop n c.args.out.now in
    let bytes = c.finish_packet.new.bytes in
    let found = finds p values stamp template n c.packet_length-len.ensures.sound c.requires.template c.requires.values c.requires.stamp c.packet_length-len.ensures.value in
    let short : n ≤ length template = omega (arith, c.packet_length-len.ensures.within, c.requires.template.long) in
    let long : length copy ≡ n = ap length c.copy_from_slice.ensures.after ∙ length-take-le n template short in
    let copied : take n out ≡ take n template = take_at copy (drop n c.args.out.now) n long ∙ c.copy_from_slice.ensures.after in
    let packet_is = made p values stamp template n (take n out) bytes found copied c.finish_packet.ensures in
    let whole = take_at bytes (drop n out) n packet_is.1 ∙ packet_is.0 in
    let Goal : List ℕ → Type 0 = λ b. StaysFixed fix later b → HeaderVerifies fix b in
    subst Goal (sym whole) (packet-verifies p values stamp template found.runs before fix later is)
