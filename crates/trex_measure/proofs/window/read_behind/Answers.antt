-- A read puts what it gives behind what came before.
use Rattle.std.proofs.Common.{◌≡◌, ◌+◌, ◌-◌, ◌<◌, ◌≤◌, length, take, drop, arith, rules}
use Rattle.std.proofs.lemmas.List.{length-take-le}
use Rattle.trex_pcap.proofs.FillingLemmas.{front_grows}
use Rattle.trex_measure.proofs.window.read_behind.Goals as goal

pub returns-clause-more : goal.returns-clause-more
returns-clause-more g c =
    let buffer = c.args.buffer.now in
    let at = c.args.at in
    let n = c.in_ok-count.count in
    let new = c.read.new.into in
    let fits : n ≤ length new = c.in_ok-count.ensures.bound.0 in
    let some : 0 < length new = search rules in
    record {
      given = take n new;
      behind = front_grows buffer new (drop (at + 65536 - at) (drop at buffer)) at n (omega (arith, c.requires)) fits;
      count = length-take-le n new fits;
      taken = c.in_ok-count.ensures.bytes.0;
      end = λ none. c.in_ok-count.ensures.bytes.1 none some;
    }
