-- A turn moves the front of the rest to what was written.
use Rattle.std.proofs.Common.{◌≡◌, ℕ, List, ◌++◌, take, drop, sym, ap, ◌∙◌, subst, arith, append_assoc, take-append-drop}
use Rattle.std.proofs.lemmas.List.{length-take-le, take_rest}
use Rattle.trex_io.specs.Texts.{Writes, WrotePart}
use Rattle.trex_io.proofs.FaultLemmas.{HasCause-failed}
use Rattle.trex_io.proofs.TextLemmas.{Writes-after, Wrote-after, WrotePart-after, WrotePart-longer}
use Rattle.trex_run.specs.declared.pieces.TheConstants.{PIECE}
use Rattle.trex_run.proofs.pieces.write_parts.Goals as goal

-- the front of the rest goes to what is done
moved : (all done rest : List ℕ) (n : ℕ) → all ≡ done ++ rest → all ≡ (done ++ take n rest) ++ drop n rest
moved all done rest n split =
    split ∙ ap (λ l. done ++ l) (sym (take-append-drop n rest)) ∙ sym (append_assoc done (take n rest) (drop n rest))

pub parts-preserved : goal.parts-preserved
parts-preserved g c =
    let inv = c.parts.invariant in
    let rest = c.parts.rest.now in
    let before = inv.faults in
    let later = c.in_default.ensures.cause.later in
    record {
      front = inv.front ++ take PIECE rest;
      wrote = Wrote-after g.O.Sink.held _ _ _ inv.front (take PIECE rest) inv.wrote c.in_default.ensures.whole;
      is = moved _ inv.front rest PIECE inv.is ∙ ap (λ l. (inv.front ++ take PIECE rest) ++ l) (sym (take_rest rest PIECE));
      faults = omega (arith, before, later);
    }

pub returns-in-Err : goal.returns-in-Err
returns-in-Err g c =
    let inv = c.parts.invariant in
    let rest = c.parts.rest.now in
    record {
      whole = tt;
      part = subst (WrotePart g.O.Sink.held c.args.out.now c.write_all.new.sink) (sym (moved _ inv.front rest PIECE inv.is))
          (WrotePart-longer g.O.Sink.held _ _ (inv.front ++ take PIECE rest) (drop PIECE rest)
          (WrotePart-after g.O.Sink.held _ _ _ inv.front (take PIECE rest) inv.wrote c.in-Err.ensures.part));
      cause = HasCause-failed g.O.Sink.faults _ _ _ _ inv.faults c.in-Err.ensures.cause.later c.in-Err.ensures.cause.failed;
    }

pub returns : goal.returns
returns g c =
    let inv = c.parts.invariant in
    subst (Writes g.O.Sink.held g.O.Sink.faults c.args.out.now c.write_all-2.new.sink c.write_all-2.result) (sym inv.is)
    (Writes-after g.O.Sink.held g.O.Sink.faults c.args.out.now c.parts.out c.write_all-2.new.sink c.write_all-2.result inv.front c.parts.rest.now inv.wrote inv.faults c.write_all-2.ensures)

pub slice_bounds-write_all-end : goal.slice_bounds-write_all-end
slice_bounds-write_all-end g c = sym (length-take-le PIECE c.parts.rest.now (omega arith))
