use Rattle.std.proofs.Common.{◌≡◌, List, [], ◌∷◌, ◌++◌, refl, sym, ap, ◌∙◌, subst, append_assoc, arith}
use Rattle.std.proofs.lemmas.Grind.{common_steps, flat_map-append}
use Rattle.std.proofs.lemmas.List.{append-nil}
use Rattle.std.specs.List.{flat_map}
use Rattle.trex_io.specs.Texts.{Wrote, WrotePart}
use Rattle.trex_io.proofs.FaultLemmas.{HasCause-failed}
use Rattle.trex_io.proofs.TextLemmas.{Wrote-after, WrotePart-after, WrotePart-longer, Writes-after}
use Rattle.trex_stats.specs.declared.line.FlowLine.{FlowLine}
use Rattle.trex_io.specs.Seen.{Seen}
use Rattle.trex_stats.specs.Counts.{Counts, StandsFor, flows_of, lines_in, lines_of}
use Rattle.trex_report.specs.Texts.{flow_line, records_line, kept_text, analysis_text}
use Rattle.trex_report.proofs.flows.write_flows.Goals as goal

-- the lines so far, one more line, and those after it
parted : (lines so_far rest after : List FlowLine) (line : FlowLine) → lines ≡ so_far ++ rest → rest ≡ line ∷ after
    → flat_map flow_line lines ≡ (flat_map flow_line so_far ++ flow_line line) ++ flat_map flow_line after
parted lines so_far rest after line whole next =
    ap (flat_map flow_line) (whole ∙ ap (λ l. so_far ++ l) next)
    ∙ flat_map-append flow_line so_far (line ∷ after)
    ∙ sym (append_assoc (flat_map flow_line so_far) (flow_line line) (flat_map flow_line after))

-- the lines so far, and one more
pushed : (so_far : List FlowLine) (line : FlowLine) → flat_map flow_line (so_far ++ line ∷ []) ≡ flat_map flow_line so_far ++ flow_line line
pushed so_far line = flat_map-append flow_line so_far (line ∷ []) ∙ ap (λ l. flat_map flow_line so_far ++ l) (append-nil (flow_line line))

-- the lines of what is kept are those of the records
analysis : (c : Counts) (rs : List Seen) (lines : List FlowLine) → StandsFor c rs → lines ≡ lines_in c.flows → lines ≡ lines_of rs (flows_of rs) → kept_text c ≡ analysis_text rs
unfolding analysis_text
analysis c rs lines stands kept all = rw (← kept, all, stands.records, stands.bytes, stands.stamped) refl

pub returns-in-Err-clause-analysis : goal.returns-in-Err-clause-analysis
returns-in-Err-clause-analysis g c rs stands =
    analysis c.args.stats.now rs _ stands c.flows-flow-items.ensures.rest (c.flows-flow-items.ensures.all rs stands)

pub returns-clause-analysis : goal.returns-clause-analysis
returns-clause-analysis g c rs stands =
    analysis c.args.stats.now rs _ stands c.flows-flow-items.ensures.rest (c.flows-flow-items.ensures.all rs stands)

pub returns-in-Err-clause-writes : goal.returns-in-Err-clause-writes
returns-in-Err-clause-writes g c =
    let held = g.O.Sink.held in
    let a = c.args.to.now in
    let b = c.write_flow.new.to in
    let so_far = flat_map flow_line c.loop-flow.yielded in
    let line = flow_line c.in-Some.flow in
    let after = flat_map flow_line c.next.new.self in
    let last = records_line (record { records = c.args.stats.now.records; bytes = c.args.stats.now.bytes; stamped = c.args.stats.now.stamped }) in
    let failed = c.in-Err.ensures in
    let all = parted (lines_in c.args.stats.now.flows) c.loop-flow.yielded c.loop-flow.flow-iterator c.next.new.self c.in-Some.flow c.loop-flow.invariant.whole c.in-Some.ensures.steps in
    let part = WrotePart-after held a c.loop-flow.to b so_far line c.loop-flow.invariant.written failed.part in
    record {
      whole = tt;
      part = subst (λ l. WrotePart held a b (l ++ last)) (sym all) (WrotePart-longer held a b ((so_far ++ line) ++ after) last (WrotePart-longer held a b (so_far ++ line) after part));
      cause = HasCause-failed g.O.Sink.faults a c.loop-flow.to b c.in-Err.failed c.loop-flow.invariant.faults failed.cause.later failed.cause.failed;
    }

pub loop-flow-preserved : goal.loop-flow-preserved
loop-flow-preserved g c =
    let held = g.O.Sink.held in
    let done = c.in_default.ensures in
    record {
      can = tt;
      finite = tt;
      whole = grind (arith, common_steps, c.in-Some.ensures.steps);
      written = subst (Wrote held c.args.to.now c.write_flow.new.to) (sym (pushed c.loop-flow.yielded c.in-Some.flow))
          (Wrote-after held c.args.to.now c.loop-flow.to c.write_flow.new.to (flat_map flow_line c.loop-flow.yielded) (flow_line c.in-Some.flow) c.loop-flow.invariant.written done.whole);
      faults = omega (arith, done.cause.later);
    }

pub returns-clause-writes : goal.returns-clause-writes
returns-clause-writes g c =
    let held = g.O.Sink.held in
    let whole : lines_in c.args.stats.now.flows ≡ c.loop-flow.yielded = grind (arith, common_steps, c.in-None.ensures.steps) in
    let written = subst (λ (l : List FlowLine). Wrote held c.args.to.now c.loop-flow.to (flat_map flow_line l)) (sym whole) c.loop-flow.invariant.written in
    rw (← c.totals.ensures.kept)
    (Writes-after held g.O.Sink.faults c.args.to.now c.loop-flow.to c.write_records.new.to c.write_records.result (flat_map flow_line (lines_in c.args.stats.now.flows)) _ written c.loop-flow.invariant.faults c.write_records.ensures)
