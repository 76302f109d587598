use Rattle.std.proofs.Common.{◌≡◌, ℕ, ◌+◌, ◌-◌, ◌^◌, ◌++◌, Bool, List, length, take, drop, ap, sym, subst, ◌∙◌, arith}
use Rattle.std.proofs.Math.Seq.{take-append_seam}
use Rattle.std.proofs.lemmas.List.{length-take}
use Rattle.trex_core.specs.Plan.{frames_of_plan}
use Rattle.trex_core.specs.Texts.{records_text}
use Rattle.trex_core.specs.Works.{Work}
use Rattle.trex_crew.specs.Crews.{works_of}
use Rattle.trex_io.specs.Texts.{WrotePart}
use Rattle.trex_merge.specs.Frames.{key_of, sequence}
use Rattle.trex_merge.specs.Order.{ordered}
use Rattle.trex_merge.proofs.QueueLemmas.{packet_is_least}
use Rattle.trex_run.specs.Capture.{tallies}
use Rattle.trex_run.specs.Pieces.{WrittenAndPending}
use Rattle.trex_run.specs.Ready.{CountsNext, queues_of}
use Rattle.trex_run.specs.Rounds.{EnteredAfter}
use Rattle.trex_run.specs.State.{IsPass, RunState, ahead}
use Rattle.trex_run.specs.Step.{mill_after, packet_ahead, rounds_after}
use Rattle.trex_run.proofs.BaseLemmas.{bases_after}
use Rattle.trex_run.proofs.HeadLemmas.{all_waiting_short, counted_next, waits_within}
use Rattle.trex_run.proofs.PassLemmas.{found_bytes, found_counted, found_passed, found_sent, found_small, found_text, is_found, pass_is}
use Rattle.trex_run.proofs.ReadyLemmas.{sent_within, state_of}
use Rattle.trex_run.proofs.TallyLemmas.{AtMostPackets-front}
use Rattle.trex_run.proofs.TurnLemmas.{all_ordered, stems_short, turns_below}
use Rattle.trex_run.proofs.progress.Progress.pass.Goals as goal

-- the core is one of the works
pub run_of-run-requires : goal.run_of-run-requires
run_of-run-requires g c =
    let i = c.self.inside in
    let ready = c.self.invariant.0 in
    let chosen = packet_is_least (i.mill.limit - i.mill.sent) c.in-Packet.feed (queues_of (works_of i.crew)) (sym ready.next_is ∙ c.in-Packet.is) in
    rw c.works.ensures (waits_within (works_of i.crew) c.in-Packet.feed _ chosen.there)

pub returns-in-Err-clause-part : goal.returns-in-Err-clause-part
returns-in-Err-clause-part g c =
    let i = c.self.inside in
    let frames = frames_of_plan i.plan.now in
    let works = works_of i.crew in
    let feed = c.in-Packet.feed in
    let before = i.coming.before in
    let packets = c.run_of-run.result.packets.now in
    let found = is_found frames works c.works.result.now i.crew.rounds i.mill.limit i.mill.sent feed c.left.result before packets i.coming.next
    c.self.invariant.0 c.in-Packet.is (c.self.invariant.5 feed c.in-Packet.is) c.works.ensures c.left.ensures c.run_of-run.ensures.packets in
    let text = found_text i.plan.now works c.works.result.now i.crew.rounds i.mill.limit i.mill.sent feed c.left.result before packets c.run_of-run.result.text.now found
    c.self.invariant.3 c.works.ensures c.left.ensures c.run_of-run.ensures.text in
    let old = state_of i.plan.now works i.crew.rounds i.mill.sent i.mill.limit in
    let Part : RunState → Type 0 = λ run. WrotePart g.O.Sink.held c.args.out.now c.gather.new.out (c.args.piece.now.items ++ records_text run.plan.base (ahead (length packets) run)) in
    let part : Part old = subst (λ (t : List ℕ). WrotePart g.O.Sink.held c.args.out.now c.gather.new.out (c.args.piece.now.items ++ t)) text c.in-Err.ensures.part in
    (length packets, subst Part c.self.view_is part)

-- a run has a packet
pub slice_bounds-count_all-start : goal.slice_bounds-count_all-start
slice_bounds-count_all-start g c =
    let i = c.self.inside in
    let frames = frames_of_plan i.plan.now in
    let works = works_of i.crew in
    let feed = c.in-Packet.feed in
    let before = i.coming.before in
    let packets = c.run_of-run.result.packets.now in
    let found = is_found frames works c.works.result.now i.crew.rounds i.mill.limit i.mill.sent feed c.left.result before packets i.coming.next
    c.self.invariant.0 c.in-Packet.is (c.self.invariant.5 feed c.in-Packet.is) c.works.ensures c.left.ensures c.run_of-run.ensures.packets in
    let some = found.some in
    omega (arith, some)

pub slice_bounds-count_all-count : goal.slice_bounds-count_all-count
slice_bounds-count_all-count g c =
    let i = c.self.inside in
    let frames = frames_of_plan i.plan.now in
    let works = works_of i.crew in
    let feed = c.in-Packet.feed in
    let before = i.coming.before in
    let packets = c.run_of-run.result.packets.now in
    let found = is_found frames works c.works.result.now i.crew.rounds i.mill.limit i.mill.sent feed c.left.result before packets i.coming.next
    c.self.invariant.0 c.in-Packet.is (c.self.invariant.5 feed c.in-Packet.is) c.works.ensures c.left.ensures c.run_of-run.ensures.packets in
    let some = found.some in
    omega (arith, some)

pub count_all-requires-clause-room : goal.count_all-requires-clause-room
count_all-requires-clause-room g c =
    let i = c.self.inside in
    let frames = frames_of_plan i.plan.now in
    let ready = c.self.invariant.0 in
    rw (c.deref_mut.ensures.value, c.self.invariant.1)
    (AtMostPackets-front i.plan.now.profile (ordered key_of frames) i.mill.limit (i.mill.sent + packet_ahead i.coming.next) (all_ordered frames ready.short) ready.limited)

pub count_all-requires-clause-few : goal.count_all-requires-clause-few
count_all-requires-clause-few g c =
    let i = c.self.inside in
    let frames = frames_of_plan i.plan.now in
    let works = works_of i.crew in
    let feed = c.in-Packet.feed in
    let before = i.coming.before in
    let packets = c.run_of-run.result.packets.now in
    let found = is_found frames works c.works.result.now i.crew.rounds i.mill.limit i.mill.sent feed c.left.result before packets i.coming.next
    c.self.invariant.0 c.in-Packet.is (c.self.invariant.5 feed c.in-Packet.is) c.works.ensures c.left.ensures c.run_of-run.ensures.packets in
    let fits = found.fits in
    let limited = found.ready.limited in
    omega (arith, length-take (length packets - 1) (drop 1 packets), fits, limited)

pub count_all-requires-clause-small : goal.count_all-requires-clause-small
count_all-requires-clause-small g c =
    let i = c.self.inside in
    let frames = frames_of_plan i.plan.now in
    let works = works_of i.crew in
    let feed = c.in-Packet.feed in
    let before = i.coming.before in
    let packets = c.run_of-run.result.packets.now in
    let found = is_found frames works c.works.result.now i.crew.rounds i.mill.limit i.mill.sent feed c.left.result before packets i.coming.next
    c.self.invariant.0 c.in-Packet.is (c.self.invariant.5 feed c.in-Packet.is) c.works.ensures c.left.ensures c.run_of-run.ensures.packets in
    found_small frames works c.works.result.now i.crew.rounds i.mill.limit i.mill.sent feed before packets found c.works.ensures c.run_of-run.ensures.short

pub send_run-then-requires-clause-within : goal.send_run-then-requires-clause-within
send_run-then-requires-clause-within g c =
    let i = c.self.inside in
    let frames = frames_of_plan i.plan.now in
    let works = works_of i.crew in
    let feed = c.in-Packet.feed in
    let before = i.coming.before in
    let packets = c.run_of-run.result.packets.now in
    let found = is_found frames works c.works.result.now i.crew.rounds i.mill.limit i.mill.sent feed c.left.result before packets i.coming.next
    c.self.invariant.0 c.in-Packet.is (c.self.invariant.5 feed c.in-Packet.is) c.works.ensures c.left.ensures c.run_of-run.ensures.packets in
    found.within

pub send_run-then-requires-clause-bytes : goal.send_run-then-requires-clause-bytes
send_run-then-requires-clause-bytes g c =
    let i = c.self.inside in
    let frames = frames_of_plan i.plan.now in
    let works = works_of i.crew in
    let feed = c.in-Packet.feed in
    let before = i.coming.before in
    let packets = c.run_of-run.result.packets.now in
    let found = is_found frames works c.works.result.now i.crew.rounds i.mill.limit i.mill.sent feed c.left.result before packets i.coming.next
    c.self.invariant.0 c.in-Packet.is (c.self.invariant.5 feed c.in-Packet.is) c.works.ensures c.left.ensures c.run_of-run.ensures.packets in
    found_bytes frames works c.works.result.now i.crew.rounds i.mill.limit i.mill.sent feed c.left.result before packets c.run_of-run.result.text.now found
    c.works.ensures c.left.ensures c.run_of-run.ensures.text

pub send_run-then-requires-clause-limit : goal.send_run-then-requires-clause-limit
send_run-then-requires-clause-limit g c =
    let i = c.self.inside in
    let frames = frames_of_plan i.plan.now in
    let works = works_of i.crew in
    let feed = c.in-Packet.feed in
    let before = i.coming.before in
    let packets = c.run_of-run.result.packets.now in
    let found = is_found frames works c.works.result.now i.crew.rounds i.mill.limit i.mill.sent feed c.left.result before packets i.coming.next
    c.self.invariant.0 c.in-Packet.is (c.self.invariant.5 feed c.in-Packet.is) c.works.ensures c.left.ensures c.run_of-run.ensures.packets in
    found.fits

pub supply-self-inside-requires-clause-turns : goal.supply-self-inside-requires-clause-turns
supply-self-inside-requires-clause-turns g c =
    let i = c.self.inside in
    let frames = frames_of_plan i.plan.now in
    let works = works_of i.crew in
    let feed = c.in-Packet.feed in
    let before = i.coming.before in
    let packets = c.run_of-run.result.packets.now in
    let found = is_found frames works c.works.result.now i.crew.rounds i.mill.limit i.mill.sent feed c.left.result before packets i.coming.next
    c.self.invariant.0 c.in-Packet.is (c.self.invariant.5 feed c.in-Packet.is) c.works.ensures c.left.ensures c.run_of-run.ensures.packets in
    let send = c.send_run-then.ensures in
    let sent' = c.send_run-then.new.mill.sent in
    let between = works_of c.send_run-then.new.crew in
    let sends = found_sent frames works between i.crew.rounds i.mill.limit c.send_run-then.new.mill.limit i.mill.sent sent' feed before packets c.send_run-then.result.next found
    send.queues send.marks send.sent send.limit send.next in
    let within = sent_within frames between i.crew.rounds i.mill.limit sent' c.send_run-then.result.next sends.ready in
    let few = sends.ready.limited in
    λ lifetimes order. turns_below sent' (2 ^ 63) between (omega (arith, within, few)) sends.turns

pub count_next-requires-clause-least : goal.count_next-requires-clause-least
count_next-requires-clause-least g c at is =
    let i = c.self.inside in
    let frames = frames_of_plan i.plan.now in
    let works = works_of i.crew in
    let feed = c.in-Packet.feed in
    let before = i.coming.before in
    let packets = c.run_of-run.result.packets.now in
    let found = is_found frames works c.works.result.now i.crew.rounds i.mill.limit i.mill.sent feed c.left.result before packets i.coming.next
    c.self.invariant.0 c.in-Packet.is (c.self.invariant.5 feed c.in-Packet.is) c.works.ensures c.left.ensures c.run_of-run.ensures.packets in
    let send = c.send_run-then.ensures in
    let supply = c.supply-self-inside.ensures in
    let between = works_of c.send_run-then.new.crew in
    let works' = works_of c.supply-self-inside.new.crew in
    let sent' = c.send_run-then.new.mill.sent in
    let after = c.send_run-then.result.next in
    let next' = c.supply-self-inside.result.next in
    let rounds' = c.supply-self-inside.new.crew.rounds in
    let gone = found_passed frames works between works' i.crew.rounds c.send_run-then.new.crew.rounds rounds' i.mill.limit c.send_run-then.new.mill.limit i.mill.sent sent'
    feed before packets after next' found send.queues send.marks send.rounds send.sent send.limit send.next supply.works supply.rounds supply.next in
    rw c.works-2.ensures (packet_is_least (i.mill.limit - sent') at (queues_of works') (sym gone.ready.next_is ∙ is))

pub count_next-requires-clause-room : goal.count_next-requires-clause-room
count_next-requires-clause-room g c =
    let i = c.self.inside in
    let frames = frames_of_plan i.plan.now in
    let works = works_of i.crew in
    let feed = c.in-Packet.feed in
    let before = i.coming.before in
    let packets = c.run_of-run.result.packets.now in
    let found = is_found frames works c.works.result.now i.crew.rounds i.mill.limit i.mill.sent feed c.left.result before packets i.coming.next
    c.self.invariant.0 c.in-Packet.is (c.self.invariant.5 feed c.in-Packet.is) c.works.ensures c.left.ensures c.run_of-run.ensures.packets in
    let send = c.send_run-then.ensures in
    let sent' = c.send_run-then.new.mill.sent in
    let all = sequence i.mill.limit frames in
    let counted = found_counted i.plan.now.profile frames works i.crew.rounds i.mill.limit i.mill.sent sent' feed before packets i.coming.next i.tallies.items c.deref_mut.result.now
    c.count_all.new.tallies found c.in-Packet.is c.self.invariant.1 c.deref_mut.ensures.value c.count_all.ensures send.sent in
    let first = c.count_all.new.tallies in
    let long : i.tallies.len ≡ length first = omega (arith, c.deref_mut.ensures.len) in
    let rest = drop (length first) i.tallies.items in
    let back : take i.tallies.len (first ++ rest) ≡ first = ap (λ n. take n (first ++ rest)) long ∙ take-append_seam first rest in
    rw (c.deref_mut-2.ensures.value, back, counted)
    (AtMostPackets-front i.plan.now.profile (ordered key_of frames) i.mill.limit sent' (all_ordered frames found.ready.short) found.ready.limited)

pub count_next-requires-clause-short : goal.count_next-requires-clause-short
count_next-requires-clause-short g c at =
    let i = c.self.inside in
    let frames = frames_of_plan i.plan.now in
    let works = works_of i.crew in
    let feed = c.in-Packet.feed in
    let before = i.coming.before in
    let packets = c.run_of-run.result.packets.now in
    let found = is_found frames works c.works.result.now i.crew.rounds i.mill.limit i.mill.sent feed c.left.result before packets i.coming.next
    c.self.invariant.0 c.in-Packet.is (c.self.invariant.5 feed c.in-Packet.is) c.works.ensures c.left.ensures c.run_of-run.ensures.packets in
    let send = c.send_run-then.ensures in
    let supply = c.supply-self-inside.ensures in
    let between = works_of c.send_run-then.new.crew in
    let works' = works_of c.supply-self-inside.new.crew in
    let sent' = c.send_run-then.new.mill.sent in
    let after = c.send_run-then.result.next in
    let next' = c.supply-self-inside.result.next in
    let rounds' = c.supply-self-inside.new.crew.rounds in
    let gone = found_passed frames works between works' i.crew.rounds c.send_run-then.new.crew.rounds rounds' i.mill.limit c.send_run-then.new.mill.limit i.mill.sent sent'
    feed before packets after next' found send.queues send.marks send.rounds send.sent send.limit send.next supply.works supply.rounds supply.next in
    rw c.works-2.ensures
    (all_waiting_short (queues_of works') at (stems_short frames (mill_after frames (queues_of works') sent' i.mill.limit) gone.ready.is gone.ready.short))

pub invariant_of-self : goal.invariant_of-self
invariant_of-self g c =
    let i = c.self.inside in
    let frames = frames_of_plan i.plan.now in
    let works = works_of i.crew in
    let feed = c.in-Packet.feed in
    let before = i.coming.before in
    let packets = c.run_of-run.result.packets.now in
    let found = is_found frames works c.works.result.now i.crew.rounds i.mill.limit i.mill.sent feed c.left.result before packets i.coming.next
    c.self.invariant.0 c.in-Packet.is (c.self.invariant.5 feed c.in-Packet.is) c.works.ensures c.left.ensures c.run_of-run.ensures.packets in
    let send = c.send_run-then.ensures in
    let supply = c.supply-self-inside.ensures in
    let between = works_of c.send_run-then.new.crew in
    let works' = works_of c.supply-self-inside.new.crew in
    let sent' = c.send_run-then.new.mill.sent in
    let after = c.send_run-then.result.next in
    let next' = c.supply-self-inside.result.next in
    let rounds' = c.supply-self-inside.new.crew.rounds in
    let gone = found_passed frames works between works' i.crew.rounds c.send_run-then.new.crew.rounds rounds' i.mill.limit c.send_run-then.new.mill.limit i.mill.sent sent'
    feed before packets after next' found send.queues send.marks send.rounds send.sent send.limit send.next supply.works supply.rounds supply.next in
    let all = sequence i.mill.limit frames in
    let counted = found_counted i.plan.now.profile frames works i.crew.rounds i.mill.limit i.mill.sent sent' feed before packets i.coming.next i.tallies.items c.deref_mut.result.now
    c.count_all.new.tallies found c.in-Packet.is c.self.invariant.1 c.deref_mut.ensures.value c.count_all.ensures send.sent in
    let first = c.count_all.new.tallies in
    let long : i.tallies.len ≡ length first = omega (arith, c.deref_mut.ensures.len) in
    let rest = drop (length first) i.tallies.items in
    let back : take i.tallies.len (first ++ rest) ≡ first = ap (λ n. take n (first ++ rest)) long ∙ take-append_seam first rest in
    let new = c.count_next.new.tallies in
    let counts : CountsNext next' (queues_of works') first new = rw (c.works-2.ensures, c.deref_mut-2.ensures.value, back) at c.count_next.ensures in
    let is : new ≡ tallies i.plan.now.profile (take (sent' + packet_ahead next') all) =
    counted_next i.plan.now.profile frames works' rounds' i.mill.limit sent' next' first new gone.ready counted counts in
    let long' : i.tallies.len ≡ length new = omega (arith, c.deref_mut-2.ensures.len) in
    let rest' = drop (length new) (take i.tallies.len (first ++ rest)) in
    let back' : take i.tallies.len (new ++ rest') ≡ new = ap (λ n. take n (new ++ rest')) long' ∙ take-append_seam new rest' in
    rw send.limit (gone.ready, back' ∙ is, c.self.invariant.2, bases_after i.plan.now.base after works between works' send.marks supply.works c.self.invariant.3, supply.firsts, supply.bound)

pub returns-clause-passes : goal.returns-clause-passes
returns-clause-passes g c =
    let i = c.self.inside in
    let frames = frames_of_plan i.plan.now in
    let works = works_of i.crew in
    let feed = c.in-Packet.feed in
    let before = i.coming.before in
    let packets = c.run_of-run.result.packets.now in
    let found = is_found frames works c.works.result.now i.crew.rounds i.mill.limit i.mill.sent feed c.left.result before packets i.coming.next
    c.self.invariant.0 c.in-Packet.is (c.self.invariant.5 feed c.in-Packet.is) c.works.ensures c.left.ensures c.run_of-run.ensures.packets in
    let send = c.send_run-then.ensures in
    let supply = c.supply-self-inside.ensures in
    let between = works_of c.send_run-then.new.crew in
    let works' = works_of c.supply-self-inside.new.crew in
    let sent' = c.send_run-then.new.mill.sent in
    let after = c.send_run-then.result.next in
    let next' = c.supply-self-inside.result.next in
    let rounds' = c.supply-self-inside.new.crew.rounds in
    let gone = found_passed frames works between works' i.crew.rounds c.send_run-then.new.crew.rounds rounds' i.mill.limit c.send_run-then.new.mill.limit i.mill.sent sent'
    feed before packets after next' found send.queues send.marks send.rounds send.sent send.limit send.next supply.works supply.rounds supply.next in
    let text = found_text i.plan.now works c.works.result.now i.crew.rounds i.mill.limit i.mill.sent feed c.left.result before packets c.run_of-run.result.text.now found
    c.self.invariant.3 c.works.ensures c.left.ensures c.run_of-run.ensures.text in
    let old = state_of i.plan.now works i.crew.rounds i.mill.sent i.mill.limit in
    let entered : EnteredAfter g.G.Gate.entries (λ (w : Work). w.core) after between i.crew.rounds c.args.gates.now c.supply-self-inside.new.gates =
    subst (λ n. EnteredAfter g.G.Gate.entries (λ (w : Work). w.core) after between n c.args.gates.now c.supply-self-inside.new.gates) send.rounds supply.gates in
    let pass = pass_is g.G.Gate.entries i.plan.now works between works' i.crew.rounds i.mill.limit i.mill.sent sent' feed (length packets) after next'
    c.args.gates.now c.supply-self-inside.new.gates found.ready found.some gone.past send.sent entered in
    let Pass : RunState → ℕ → ℕ → Bool → Type 0 = λ old rounds limit more.
    IsPass g.G.Gate.entries old (state_of i.plan.now works' rounds sent' limit) c.args.gates.now c.supply-self-inside.new.gates (length packets) more in
    let Text : RunState → Type 0 = λ run. WrittenAndPending g.O.Sink.held c.args.out.now c.gather.new.out c.gather.new.piece.items
    (c.args.piece.now.items ++ records_text run.plan.base (ahead (length packets) run)) in
    let gathers : Text old = subst (λ (t : List ℕ). WrittenAndPending g.O.Sink.held c.args.out.now c.gather.new.out c.gather.new.piece.items (c.args.piece.now.items ++ t)) text
    c.in_default.ensures.gathers in
    let more : Pass old (rounds_after after i.crew.rounds) i.mill.limit c.is_packet.result =
    subst (Pass old (rounds_after after i.crew.rounds) i.mill.limit) (sym c.is_packet.ensures) pass in
    let made : Pass old rounds' i.mill.limit c.is_packet.result = subst (λ n. Pass old n i.mill.limit c.is_packet.result) (sym gone.rounds_are) more in
    record {
      many = length packets;
      pass = subst (λ run. Pass run rounds' c.send_run-then.new.mill.limit c.is_packet.result) c.self.view_is
          (subst (λ n. Pass old rounds' n c.is_packet.result) (sym send.limit) made);
      gathers = subst Text c.self.view_is gathers;
    }
