use Rattle.std.proofs.Common.{◌≡◌, ◌+◌, [], length, map, refl, sym, ◌∙◌, arith, length-append}
use Rattle.std.proofs.lemmas.List.{length-map}
use Rattle.trex_stats.specs.Counts.{CountsFor}
use Rattle.trex_wire.specs.Lanes.{AreOf, both, frame_at, key_in, queue_of}
use Rattle.trex_wire.proofs.MergeLemmas.{all_recorded, all_sent, begun, none_needed, one_more}
use Rattle.trex_wire.proofs.merge.merge.Goals as goal

pub sent-init : goal.sent-init
sent-init c =
    let first = c.args.first.now in
    let second = c.args.second.now in
    let stands = c.new-stats.ensures.stands in
    let none : CountsFor c.new-stats.result [] = record { records = stands.records; stamped = stands.stamped; flows = stands.flows } in
    record {
      limit = c.new-mill.ensures.limit;
      two = refl;
      at = rw c.new-mill.ensures.sent (begun first second (λ rs. AreOf rs first × AreOf rs second) c.new-mill.result.limit c.new-stats.result c.requires.distinct c.requires.first c.requires.second none c.new-stats.ensures.records stands.bytes);
      kept = λ rs are. (are.0, (are.1, tt));
    }

pub sent-preserved : goal.sent-preserved
sent-preserved c =
    let first = c.args.first.now in
    let second = c.args.second.now in
    let passed = c.in_ok-pass-in-Packet.ensures in
    let kept = c.sent.invariant.kept in
    let more = one_more (map frame_at (both first second)) (λ rs. AreOf rs first × AreOf rs second) (map queue_of c.sent.lanes) c.sent.mill.sent c.sent.mill.limit c.in-Packet.feed
    c.sent.stats c.pass.new.stats c.sent.invariant.at (sym c.in-Packet.ensures) (λ rs ss are. passed.counts rs ss (kept rs are)) passed.records passed.bytes in
    record {
      limit = passed.limit ∙ c.sent.invariant.limit;
      two = c.pass.auto.lanes ∙ c.sent.invariant.two;
      at = rw (passed.queues, passed.sent, passed.limit) more;
      kept = λ rs are. passed.kept rs (kept rs are);
    }

pub returns-in-Need : goal.returns-in-Need
returns-in-Need c =
    let first = c.args.first.now in
    let second = c.args.second.now in
    absurd (none_needed (map frame_at (both first second)) (λ rs. AreOf rs first × AreOf rs second) (map queue_of c.sent.lanes) c.sent.mill.sent c.sent.mill.limit c.in-Need.core c.sent.stats
    c.sent.invariant.at (sym c.in-Need.ensures))

pub returns-in-End-clause-counts : goal.returns-in-End-clause-counts
returns-in-End-clause-counts c rs one two =
    let first = c.args.first.now in
    let second = c.args.second.now in
    let enough : c.sent.mill.limit ≡ length (both first second) =
    omega (arith, c.sent.invariant.limit, length-append (map (key_in 0) first) (map (key_in 1) second), length-map first (key_in 0), length-map second (key_in 1)) in
    all_sent (both first second) (λ rs. AreOf rs first × AreOf rs second) (map queue_of c.sent.lanes) c.sent.mill.sent c.sent.mill.limit c.sent.stats enough c.sent.invariant.at (sym c.in-End.ensures) rs (one, two)

pub returns-in-End-clause-records : goal.returns-in-End-clause-records
returns-in-End-clause-records c =
    let first = c.args.first.now in
    let second = c.args.second.now in
    let long : length (both first second) ≡ length first + length second =
    omega (arith, length-append (map (key_in 0) first) (map (key_in 1) second), length-map first (key_in 0), length-map second (key_in 1)) in
    all_recorded (both first second) (λ rs. AreOf rs first × AreOf rs second) (map queue_of c.sent.lanes) c.sent.mill.sent c.sent.mill.limit c.sent.stats (c.sent.invariant.limit ∙ sym long)
    c.sent.invariant.at (sym c.in-End.ensures) ∙ long
