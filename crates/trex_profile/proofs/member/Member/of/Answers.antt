use Rattle.std.proofs.Common.{◌≡◌, ℕ, ◌++◌, Bool, List, true, IfSome, map, ap, subst, sym, ◌∙◌, refl, arith, Option, None, Some}
use Rattle.std.specs.List.{filter_map}
use Rattle.std.specs.Option.{option_map}
use Rattle.std.proofs.lemmas.List.Elements.{recursion_from_All}
use Rattle.trex_stamp.specs.declared.header.Version.{Version}
use Rattle.trex_stamp.specs.Stamp.{stamp_bytes}
use Rattle.trex_vars.specs.Check.{fault_of}
use Rattle.trex_vars.specs.Variable.{Variable, variable_of}
use Rattle.trex_vm.specs.declared.instr.Instr.{Instr}
use Rattle.trex_vm.specs.Packet.{packet, version_of}
use Rattle.trex_vm.specs.Program.{ProgramView, AreOperandsOf, AreSound, AreValuesOf, AreWithin, IsTemplateOf, program_view}
use Rattle.trex_vm.specs.Rules.{accepts}
use Rattle.trex_profile.specs.declared.flow.Flow.{Flow}
use Rattle.trex_profile.specs.Flow.{IsFlow, stamp_with}
use Rattle.trex_profile.specs.Instruction.{instruction}
use Rattle.trex_profile.specs.Packets.{variables, restarts, values_of, program, stamp_at, stamp_version}
use Rattle.trex_profile.specs.Steps.{restart_of, variables_from, steps_of, program_of}
use Rattle.trex_profile.specs.Stream.{Stream, raw_stream}
use Rattle.trex_profile.proofs.FlowLemmas.{flow-there}
use Rattle.trex_profile.proofs.OrderLemmas.{unless-kept}
use Rattle.trex_profile.proofs.Restarts.{values_at-within, restarts-long}
use Rattle.trex_profile.proofs.member.Member.of.Goals as goal

pub returns-clause-spec : goal.returns-clause-spec
returns-clause-spec c =
    let s : Stream = raw_stream c.args.raw in
    let vars : map variable_of c.in_ok-parts.parts.vars.items ≡ variables s =
    c.in_ok-parts.ensures.vars ∙ ap (λ raws. variables_from c.args.raw.seed 0 (map instruction raws)) c.deref-2.ensures.value in
    let steps = c.in_ok-parts.ensures.steps ∙ ap (λ raws. steps_of c.deref.result.now (map instruction raws)) c.deref-2.ensures.value
    ∙ ap (λ bytes. steps_of bytes s.instrs) c.deref.ensures.value in
    let held_vars : map variable_of c.deref-3.result.now ≡ variables s = ap (map variable_of) c.deref-3.ensures.value ∙ vars in
    let held_program : program_of c.deref-4.result.now ≡ program s = ap program_of (c.deref-4.ensures.value ∙ steps) in
    let same : (X : Type 0) (f : List Variable → List Instr → List ℕ → Option Version → X)
    → f (map variable_of c.deref-3.result.now) (program_of c.deref-4.result.now) c.deref-5.result.now c.version_of.result ≡ f (variables s) (program s) s.template (stamp_version s) =
    λ X f. ap (λ v. f v (program_of c.deref-4.result.now) c.deref-5.result.now c.version_of.result) held_vars ∙ ap (λ p. f (variables s) p c.deref-5.result.now c.version_of.result) held_program
    ∙ ap (λ t. f (variables s) (program s) t c.version_of.result) c.deref-5.ensures.value ∙ ap (f (variables s) (program s) s.template) c.version_of.ensures in
    let plan : c.in_ok-program.program ≡ program_view (program s) (variables s) s.template (stamp_version s) =
    sym (unless-kept _ _ _ c.in_ok-program.ensures.value).1 ∙ same ProgramView (λ v p t stamp. program_view p v t stamp) in
    let accepted : accepts (variables s) s.template (stamp_version s) (program s) ≡ true = sym (same Bool (λ v p t stamp. accepts v t stamp p)) ∙ c.in_ok-program.ensures.accepts in
    let operands : AreOperandsOf (variables s) (program s) =
    subst (λ (v : List Variable). AreOperandsOf v (program s)) vars
    (subst (λ (p : List Instr). AreOperandsOf (map variable_of c.in_ok-parts.parts.vars.items) p) (ap program_of steps) c.in_ok-parts.ensures.operands) in
    let sound : AreSound (variables s) = subst AreSound vars c.in_ok-parts.ensures.sound in
    let within : (number place : ℕ) → AreWithin (variables s) (values_of s number place) =
    λ number place. values_at-within number place (variables s) (restarts s) (restarts-long s.seed 0 s.instrs) (recursion_from_All (λ v. fault_of v ≡ None) (variables s) sound) in
    let Ends : ℕ → ℕ → ℕ → Option Flow → Type 0 = λ number place time flow. IfSome (option_map (λ f. stamp_with f number time) flow) (λ st.
    (front : List ℕ) × (packet (program s) (values_of s number place) (option_map (λ f. stamp_with f number time) flow) s.template ≡ front ++ stamp_bytes st)) in
    let ends : (number place time : ℕ) (flow : Option Flow) → accepts (variables s) s.template (option_map (λ f. f.version) flow) (program s) ≡ true → Ends number place time flow =
    λ number place time flow. elim flow as (λ o. accepts (variables s) s.template (option_map (λ f. f.version) o) (program s) ≡ true → Ends number place time o) [
      | None ↦ λ any. tt
      | Some f ↦ λ taken. c.programs_fit.ensures.stamped (program s) (variables s) s.template (stamp_with f number time) (values_of s number place) operands (within number place) taken
          c.in_ok-period.ensures.at_least c.in_ok-period.ensures.at_most
    ] in
    record {
      id = refl;
      template = refl;
      flow = refl;
      vars = vars;
      restart = c.in_ok-parts.ensures.restart ∙ ap (λ raws. filter_map restart_of (map instruction raws)) c.deref-2.ensures.value;
      sound = sound;
      plan = plan;
      fits = subst (λ (p : ProgramView). IsTemplateOf p s.template) (sym plan) (c.programs_fit.ensures.template (program s) (variables s) s.template (stamp_version s) accepted);
      values = λ number place. subst (λ (p : ProgramView). AreValuesOf p (values_of s number place)) (sym plan)
          (c.programs_fit.ensures.values (program s) (variables s) s.template (stamp_version s) (values_of s number place) operands (within number place) accepted);
      short = λ number place time.
          let cut = c.programs_fit.ensures.short (program s) (variables s) s.template (stamp_at s number time) (values_of s number place) operands (within number place)
          (subst (λ v. accepts (variables s) s.template v (program s) ≡ true) (sym (stamps number time s.flow)) accepted) c.in_ok-period.ensures.at_least c.in_ok-period.ensures.at_most in
          let most = c.in_ok-period.ensures.at_most in
          omega (arith, cut, most);
      flows = flow-there IsFlow s.flow c.requires.flow;
      stamped = λ number place time. ends number place time s.flow accepted;
    }
  where
    -- a stream's packets are stamped in the version of its flow
    stamps : (number time : ℕ) (flow : Option Flow) → version_of (option_map (λ f. stamp_with f number time) flow) ≡ option_map (λ f. f.version) flow
    stamps number time None = refl
    stamps number time (Some f) = refl
