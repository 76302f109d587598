-- A turn moves the front of the rest to what was written; a failed one leaves the rest, which isn't empty.
use Rattle.std.proofs.Common.{◌≡◌, ℕ, ◌-◌, ◌<◌, List, ◌++◌, length, take, drop, sym, ap, ◌∙◌, subst, arith, append_assoc, take-append-drop, length-append, Bool, false, ◌==◌}
use Rattle.std.proofs.Math.Seq.{take-append_seam}
use Rattle.std.proofs.lemmas.List.{take_rest}
use Rattle.std.proofs.KnownBytes.{Appends-kept}
use Rattle.trex_io.specs.Texts.{Wrote}
use Rattle.trex_io.proofs.FaultLemmas.{HasCause-failed}
use Rattle.trex_io.proofs.TextLemmas.{Wrote-after}
use Rattle.trex_io.proofs.writing.write_all.Goals as goal

-- the front of the rest goes to what is done
moved : (all done rest : List ℕ) (n : ℕ) → all ≡ done ++ rest → all ≡ (done ++ take n rest) ++ take (length rest - n) (drop n rest)
moved all done rest n split =
    split ∙ ap (λ l. done ++ l) (sym (take-append-drop n rest)) ∙ sym (append_assoc done (take n rest) (drop n rest))
    ∙ ap (λ l. (done ++ take n rest) ++ l) (sym (take_rest rest n))

-- what is done is the front of all
front : (all done rest : List ℕ) → all ≡ done ++ rest → take (length done) all ≡ done
front all done rest split = ap (take (length done)) split ∙ take-append_seam done rest

-- a rest that isn't empty has a byte
nonempty : (rest : List ℕ) (b : Bool) → b ≡ (length rest == 0) → b ≡ false → 0 < length rest
nonempty rest b is more = grind arith

pub loop-rest-preserved : goal.loop-rest-preserved
loop-rest-preserved g c =
    let (done, split, appended) = c.loop-rest.invariant.written in
    let rest = c.loop-rest.rest.now in
    let n = c.in-Ok.count in
    let before = c.loop-rest.invariant.faults in
    let later = c.in-Ok.ensures.cause.later in
    record {
      written = (done ++ take n rest, moved _ done rest n split, Wrote-after g.O.Sink.held _ _ _ done (take n rest) appended c.in-Ok.ensures.bytes);
      faults = omega (arith, before, later);
    }

pub returns-in-Err : goal.returns-in-Err
returns-in-Err g c =
    let (done, split, appended) = c.loop-rest.invariant.written in
    let rest = c.loop-rest.rest.now in
    let some : 0 < length rest = nonempty rest _ c.is_empty.ensures c.loop-rest-test.true in
    let kept : Wrote g.O.Sink.held c.args.sink.now c.write.new.self done = Appends-kept _ _ _ done appended c.in-Err.ensures.bytes in
    record {
      whole = tt;
      part = (length done, omega (arith, ap length split, length-append done rest), subst (Wrote g.O.Sink.held c.args.sink.now c.write.new.self) (sym (front _ done rest split)) kept);
      cause = HasCause-failed g.O.Sink.faults _ _ _ _ c.loop-rest.invariant.faults c.in-Err.ensures.cause.later c.in-Err.ensures.cause.failed;
    }
