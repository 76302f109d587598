use Rattle.std.proofs.Common.{◌≡◌, ℕ, ◌+◌, ◌≤◌, List, [], ◌++◌, length, take, drop, sym, ap, ◌∙◌, subst, arith, take-append-drop, rules}
use Rattle.std.proofs.Math.Seq.{take-add}
use Rattle.std.proofs.lemmas.List.{nil_from_length}
use Rattle.trex_core.specs.Plan.{PlanOf}
use Rattle.trex_core.specs.Texts.{records_text}
use Rattle.trex_io.specs.Texts.{WrotePart}
use Rattle.trex_merge.specs.Frames.{Frame}
use Rattle.trex_run.specs.Capture.{capture_text}
use Rattle.trex_run.specs.Pieces.{WrittenAndPending}
use Rattle.trex_run.specs.State.{ahead, all_of}
use Rattle.trex_run.proofs.CaptureLemmas.{WrittenAndPending-behind, WrittenAndPending-more, capture_text-append}
use Rattle.trex_run.proofs.StateLemmas.{more_steps, same_all, through_after}
use Rattle.trex_run.proofs.capture_writer.gather_all.Goals as goal

pub runs-init : goal.runs-init
runs-init g c =
    let step = c.step-found.ensures in
    let none : length c.step-found.new.self.state.sent ≡ 0 = step.sent ∙ c.requires.none in
    let nothing : c.step-found.new.self.state.sent ≡ [] = nil_from_length c.step-found.new.self.state.sent none in
    let all = all_of c.args.progress.now in
    let base = c.args.progress.now.plan.base in
    record {
      steps = step.steps;
      gathered = subst (λ (l : List Frame). WrittenAndPending g.O.Sink.held c.args.out.now c.args.out.now c.args.piece.now.items (capture_text base l)) (sym nothing)
          (search rules);
      front = nothing ∙ ap (λ n. take n all) (sym none);
      within = omega (arith, none);
      more = step.more;
      whole = step.whole;
      through = step.through;
      as_many = search rules;
      capacity = c.requires.capacity;
      faults = omega arith;
    }

pub pass-requires-clause-packet : goal.pass-requires-clause-packet
pass-requires-clause-packet g c = λ lifetimes order. sym c.runs.invariant.more ∙ c.runs-test.true

pub pass-requires-clause-capacity : goal.pass-requires-clause-capacity
pass-requires-clause-capacity g c = λ lifetimes order. c.runs.invariant.capacity

pub runs-preserved : goal.runs-preserved
runs-preserved g c =
    let entries = g.G.Gate.entries in
    let held = g.O.Sink.held in
    let inv = c.runs.invariant in
    let passes = c.in-Ok.ensures.passes in
    let pass = passes.pass in
    let many = passes.many in
    let old = c.args.progress.now in
    let here = c.runs.progress in
    let new = c.pass.new.self in
    let all = all_of old in
    let base = old.plan.base in
    let k = length here.state.sent in
    let same = same_all entries old here c.args.gates.now c.runs.gates inv.steps in
    let more = WrittenAndPending-more held c.args.out.now c.runs.out c.pass.new.out c.runs.piece.items (capture_text base here.state.sent)
    (records_text here.plan.base (ahead many here)) c.pass.new.piece.items inv.gathered passes.gathers in
    let goes : capture_text base here.state.sent ++ records_text here.plan.base (ahead many here) ≡ capture_text base new.state.sent =
    ap (λ (p : PlanOf). capture_text base here.state.sent ++ records_text p.base (ahead many here)) inv.steps.plan
    ∙ sym (capture_text-append base here.state.sent (ahead many here)) ∙ ap (capture_text base) (sym pass.sent) in
    record {
      steps = more_steps entries old here new c.args.gates.now c.runs.gates c.pass.new.gates inv.as_many inv.steps pass.steps;
      gathered = subst (λ (t : List ℕ). WrittenAndPending held c.args.out.now c.pass.new.out c.pass.new.piece.items t) goes more;
      front = pass.sent ∙ ap (λ (l : List Frame). l ++ ahead many here) inv.front ∙ ap (λ (l : List Frame). take k all ++ take many (drop k l)) same
          ∙ sym (take-add k many all) ∙ ap (λ n. take n all) (sym pass.longer);
      within = subst (λ n. length new.state.sent ≤ n) (ap length same) pass.within;
      more = pass.more;
      whole = λ none. pass.whole none ∙ same;
      through = λ none. through_after entries old here new c.args.gates.now c.runs.gates inv.steps (pass.through none);
      as_many = c.pass.auto.gates ∙ inv.as_many;
      capacity = c.in-Ok.ensures.capacity;
      faults = let a = inv.faults in let b = c.in-Ok.ensures.cause.later in omega arith;
    }

pub runs-smaller : goal.runs-smaller
runs-smaller g c =
    let inv = c.runs.invariant in
    let pass = c.in-Ok.ensures.passes.pass in
    let same = ap length (same_all g.G.Gate.entries c.args.progress.now c.runs.progress c.args.gates.now c.runs.gates inv.steps) in
    let some = pass.some in
    let longer = pass.longer in
    let within = pass.within in
    omega (arith, same, some, longer, within)

pub returns-in-Err-clause-part : goal.returns-in-Err-clause-part
returns-in-Err-clause-part g c =
    let held = g.O.Sink.held in
    let inv = c.runs.invariant in
    let old = c.args.progress.now in
    let here = c.runs.progress in
    let all = all_of old in
    let base = old.plan.base in
    let k = length here.state.sent in
    let part = c.in-Err.ensures.part in
    let many = part.0 in
    let same = same_all g.G.Gate.entries old here c.args.gates.now c.runs.gates inv.steps in
    let rest = records_text base (drop (k + many) all) in
    let behind = WrittenAndPending-behind held c.args.out.now c.runs.out c.pass.new.out c.runs.piece.items (capture_text base here.state.sent)
    (records_text here.plan.base (ahead many here)) rest inv.gathered part.1 in
    let front : here.state.sent ++ ahead many here ≡ take (k + many) all =
    ap (λ (l : List Frame). l ++ ahead many here) inv.front ∙ ap (λ (l : List Frame). take k all ++ take many (drop k l)) same ∙ sym (take-add k many all) in
    let whole : (capture_text base here.state.sent ++ records_text here.plan.base (ahead many here)) ++ rest ≡ capture_text base all =
    ap (λ (p : PlanOf). (capture_text base here.state.sent ++ records_text p.base (ahead many here)) ++ rest) inv.steps.plan
    ∙ ap (λ (l : List ℕ). l ++ rest) (sym (capture_text-append base here.state.sent (ahead many here)) ∙ ap (capture_text base) front)
    ∙ sym (capture_text-append base (take (k + many) all) (drop (k + many) all))
    ∙ ap (capture_text base) (take-append-drop (k + many) all) in
    subst (WrotePart held c.args.out.now c.pass.new.out) whole behind

pub returns-in-Err-clause-steps : goal.returns-in-Err-clause-steps
returns-in-Err-clause-steps g c = rw (c.in-Err.ensures.kept.0, c.in-Err.ensures.kept.1) c.runs.invariant.steps

pub returns-clause-gathers : goal.returns-clause-gathers
returns-clause-gathers g c =
    subst (λ (l : List Frame). WrittenAndPending g.O.Sink.held c.args.out.now c.runs.out c.runs.piece.items (capture_text c.args.progress.now.plan.base l))
    (c.runs.invariant.whole c.runs-test.false) c.runs.invariant.gathered

pub returns-clause-through : goal.returns-clause-through
returns-clause-through g c = c.runs.invariant.through c.runs-test.false
