use Rattle.std.proofs.Common.{◌≡◌, ◌+◌, ◌≤◌, length, take, [], sym, ap, ◌∙◌, arith, append-nil, rules}
use Rattle.trex_merge.specs.Frames.{Frame, frame_of}
use Rattle.trex_pcap.specs.Writing.{file_header}
use Rattle.trex_sum.specs.declared.running.RunningSum.{RunningSum}
use Rattle.trex_sum.specs.Checksum.{fold_of}
use Rattle.trex_sum.specs.Running.{running}
use Rattle.trex_run.specs.Capture.{capture_text}
use Rattle.trex_run.specs.State.{all_of}
use Rattle.trex_run.specs.Step.{reached}
use Rattle.trex_run.proofs.CaptureLemmas.{summed-more, bytes-more, counted-all}
use Rattle.trex_run.proofs.StateLemmas.{more_steps, no_steps, same_all, through_after, went_to}
use Rattle.trex_run.proofs.counts.count_run.Goals as goal

pub packets-smaller : goal.packets-smaller
packets-smaller g c =
    let went = went_to g.G.Gate.entries c.args.ready.now c.packets.ready c.step.new.self c.args.gates.now c.packets.gates c.step.new.gates
    c.step.result c.current-head.result c.packets.invariant.steps c.step.ensures c.packets-test.true c.current-head.ensures in
    let one = went.one in
    let within = went.within in
    omega (arith, one, within)

pub packets-preserved : goal.packets-preserved
packets-preserved g c =
    let all = all_of c.args.ready.now in
    let k = reached c.packets.ready.state in
    let n = reached c.step.new.self.state in
    let frame : Frame = frame_of c.current-head.result in
    let went = went_to g.G.Gate.entries c.args.ready.now c.packets.ready c.step.new.self c.args.gates.now c.packets.gates c.step.new.gates
    c.step.result c.current-head.result c.packets.invariant.steps c.step.ensures c.packets-test.true c.current-head.ensures in
    let one = went.one in
    let short : length frame.bytes ≤ 9216 = c.current-head.ensures.short in
    let bound = c.add_record.ensures.bound in
    let room = c.packets.invariant.room in
    let packets = c.packets.invariant.packets in
    let small = c.packets.invariant.small in
    record {
      steps = more_steps g.G.Gate.entries c.args.ready.now c.packets.ready c.step.new.self c.args.gates.now c.packets.gates c.step.new.gates
          c.packets.auto.gates c.packets.invariant.steps c.step.ensures.steps;
      within = went.within;
      summed = c.add_record.ensures.value (capture_text 0 (take k all)) c.packets.invariant.summed ∙ ap running (summed-more all k n frame went.found one);
      room = omega (arith, one, short, bound, room);
      packets = omega (arith, one, packets);
      bytes = ap (λ b. b + length frame.bytes) c.packets.invariant.bytes ∙ bytes-more all k n frame went.found one;
      small = omega (arith, one, short, small);
    }

pub packets-init : goal.packets-init
packets-init g c = record {
  steps = no_steps g.G.Gate.entries c.args.ready.now c.args.gates.now;
  within = search rules;
  summed = c.add.ensures.value [] c.new-sum.ensures ∙ ap running (c.header.ensures ∙ sym (append-nil file_header))
      ∙ ap (λ n. running (capture_text 0 (take n (all_of c.args.ready.now)))) (sym c.requires.none);
  room = search rules;
  packets = search rules;
  bytes = search rules;
  small = search rules;
}

pub returns-clause-counts : goal.returns-clause-counts
returns-clause-counts g c =
    let all = all_of c.args.ready.now in
    let k = reached c.packets.ready.state in
    let same = same_all g.G.Gate.entries c.args.ready.now c.packets.ready c.args.gates.now c.packets.gates c.packets.invariant.steps in
    let done : k ≡ length all = sym c.step.ensures.sent ∙ ap length (c.step.ensures.whole c.packets-test.false ∙ same) in
    counted-all all k c.packets.packets c.packets.bytes c.fold.result done c.packets.invariant.packets c.packets.invariant.bytes
    (c.fold.ensures ∙ ap fold_of (c.sum.ensures ∙ ap (λ (s : RunningSum). s.sum) c.packets.invariant.summed))

pub returns-clause-steps : goal.returns-clause-steps
returns-clause-steps g c =
    more_steps g.G.Gate.entries c.args.ready.now c.packets.ready c.step.new.self c.args.gates.now c.packets.gates c.step.new.gates
    c.packets.auto.gates c.packets.invariant.steps c.step.ensures.steps

pub returns-clause-through : goal.returns-clause-through
returns-clause-through g c =
    through_after g.G.Gate.entries c.args.ready.now c.packets.ready c.step.new.self c.args.gates.now c.packets.gates
    c.packets.invariant.steps (c.step.ensures.through c.packets-test.false)
