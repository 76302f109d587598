use Rattle.std.proofs.Common.{◌≡◌, ℕ, List, Option, length, sym, ap, subst, ◌∙◌, arith, All}
use Rattle.std.proofs.lemmas.List.Elements.{recursion_from_All}
use Rattle.std.specs.Option.{option_map_or}
use Rattle.trex_vars.specs.declared.value.VarValue.{VarValue}
use Rattle.trex_vm.specs.declared.instr.Operand.{Operand}
use Rattle.trex_vm.specs.Effect.{first_trim}
use Rattle.trex_vm.specs.Packet.{packet, trimmed, version_of}
use Rattle.trex_vm.specs.Program.{AreValuesOf, IsProgram, IsTemplateOf, ProgramView, TakesFrom}
use Rattle.trex_stamp.specs.declared.header.Stamp.{Stamp}
use Rattle.trex_vm.proofs.Theorem.{length-packet}
use Rattle.trex_vm.specs.Write.{number_in}
use Rattle.trex_vm.proofs.ProgramLemmas.{first_trim-takes, trimmed-first_trim}
use Rattle.trex_vm.proofs.program.Program.packet_length.Goals as goal

-- what the trim that is kept tells of the packet's length
of_trim : (values : List VarValue) (trim : Option Operand) (v p : ProgramView) → trim ≡ first_trim v.instrs → v ≡ p
    → option_map_or (number_in values) trim v.template ≡ trimmed values p.instrs p.template
of_trim values trim v p kept is =
    ap (λ (o : Option Operand). option_map_or (number_in values) o v.template) kept ∙ sym (trimmed-first_trim values v.instrs v.template)
    ∙ ap (λ (q : ProgramView). trimmed values q.instrs q.template) is

pub number_in-requires : goal.number_in-requires
number_in-requires c =
    let i = c.self.inside in
    let count = length c.args.values.now in
    let operands : All (TakesFrom count) i.instrs.items = subst (λ (p : ProgramView). All (TakesFrom count) p.instrs) (sym c.self.view_is) c.requires.operands in
    first_trim-takes count i.instrs.items c.in-Some.from (sym c.self.invariant.1 ∙ c.in-Some.is) (recursion_from_All (TakesFrom count) i.instrs.items operands)

pub returns-in-Some-clause-value : goal.returns-in-Some-clause-value
returns-in-Some-clause-value c =
    let i = c.self.inside in
    c.number_in.ensures ∙ ap (λ (o : Option Operand). option_map_or (number_in c.args.values.now) o i.template) (sym c.in-Some.is)
    ∙ of_trim c.args.values.now i.trim (record { instrs = i.instrs.items; template = i.template; least = i.least; stamp = i.stamp }) c.args.self.now c.self.invariant.1 c.self.view_is

pub returns-in-Some-clause-within : goal.returns-in-Some-clause-within
returns-in-Some-clause-within c =
    let i = c.self.inside in
    let value = c.number_in.ensures ∙ ap (λ (o : Option Operand). option_map_or (number_in c.args.values.now) o i.template) (sym c.in-Some.is)
    ∙ of_trim c.args.values.now i.trim (record { instrs = i.instrs.items; template = i.template; least = i.least; stamp = i.stamp }) c.args.self.now c.self.invariant.1 c.self.view_is in
    omega (arith, value, c.requires.most)

pub returns-in-None-clause-value : goal.returns-in-None-clause-value
returns-in-None-clause-value c =
    let i = c.self.inside in
    ap (λ (o : Option Operand). option_map_or (number_in c.args.values.now) o i.template) (sym c.in-None.is)
    ∙ of_trim c.args.values.now i.trim (record { instrs = i.instrs.items; template = i.template; least = i.least; stamp = i.stamp }) c.args.self.now c.self.invariant.1 c.self.view_is

-- a packet has the length that is found
long_is : (p : ProgramView) (values : List VarValue) (n : ℕ) → IsProgram p → AreValuesOf p values → n ≡ trimmed values p.instrs p.template
    → (stamp : Option Stamp) (template : List ℕ) → IsTemplateOf p template → version_of stamp ≡ p.stamp → length (packet p.instrs values stamp template) ≡ n
long_is p values n program valued is = λ stamp template meant stamps.
    length-packet p values stamp template (record { program = program; meant = meant; valued = valued; stamps = stamps })
    ∙ ap (trimmed values p.instrs) meant.long ∙ sym is

pub returns-in-Some-clause-packet : goal.returns-in-Some-clause-packet
returns-in-Some-clause-packet c =
    let i = c.self.inside in
    let value = c.number_in.ensures ∙ ap (λ (o : Option Operand). option_map_or (number_in c.args.values.now) o i.template) (sym c.in-Some.is)
    ∙ of_trim c.args.values.now i.trim (record { instrs = i.instrs.items; template = i.template; least = i.least; stamp = i.stamp }) c.args.self.now c.self.invariant.1 c.self.view_is in
    long_is c.args.self.now c.args.values.now c.number_in.result (subst IsProgram c.self.view_is c.self.invariant.0) c.requires value

pub returns-in-None-clause-packet : goal.returns-in-None-clause-packet
returns-in-None-clause-packet c =
    let i = c.self.inside in
    let value = ap (λ (o : Option Operand). option_map_or (number_in c.args.values.now) o i.template) (sym c.in-None.is)
    ∙ of_trim c.args.values.now i.trim (record { instrs = i.instrs.items; template = i.template; least = i.least; stamp = i.stamp }) c.args.self.now c.self.invariant.1 c.self.view_is in
    long_is c.args.self.now c.args.values.now i.template (subst IsProgram c.self.view_is c.self.invariant.0) c.requires value
