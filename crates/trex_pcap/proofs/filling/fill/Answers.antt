-- A read puts what it gives behind what came before.
use Rattle.std.proofs.Common.{◌≡◌, ℕ, ◌+◌, ◌-◌, ◌≤◌, List, ◌++◌, length, take, drop, sym, ap, ◌∙◌, arith, rules}
use Rattle.std.proofs.KnownBytes.{Consumes-trans}
use Rattle.trex_pcap.proofs.FillingLemmas.{front_grows}
use Rattle.trex_pcap.proofs.filling.fill.Goals as goal

pub loop-done-preserved : goal.loop-done-preserved
loop-done-preserved g c =
    let into = c.loop-done.into in
    let done = c.loop-done.done in
    let n = c.in-Ok.count in
    let new = c.read.new.into in
    let within : done ≤ length into = c.loop-done.invariant.within in
    let fits : n ≤ length new = c.in-Ok.ensures.bound.0 in
    let later = c.in-Ok.ensures.cause.later in
    let before = c.loop-done.invariant.faults in
    record {
      within = search rules;
      taken = rw (front_grows into new (drop (length into - done) (drop done into)) done n within fits) (Consumes-trans _ _ _ (take done into) (take n new) c.loop-done.invariant.taken c.in-Ok.ensures.bytes.0);
      faults = omega (arith, before, later);
    }
