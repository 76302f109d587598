use Rattle.std.proofs.Common.{◌≡◌, ℕ, ◌+◌, ◌-◌, ◌^◌, ◌++◌, Bool, length, take, drop, ap, sym, subst, ◌∙◌, arith}
use Rattle.std.proofs.Math.Seq.{take-append_seam}
use Rattle.trex_core.specs.Plan.{frames_of_plan}
use Rattle.trex_core.specs.Works.{Work}
use Rattle.trex_crew.specs.Crews.{works_of}
use Rattle.trex_merge.specs.Frames.{key_of, sequence}
use Rattle.trex_merge.specs.Order.{ordered}
use Rattle.trex_merge.specs.Queues.{next_of}
use Rattle.trex_merge.proofs.QueueLemmas.{packet_is_least}
use Rattle.trex_run.specs.Capture.{tallies}
use Rattle.trex_run.specs.Ready.{CountsNext, queues_of}
use Rattle.trex_run.specs.Rounds.{EnteredAfter}
use Rattle.trex_run.specs.State.{IsStep, RunState}
use Rattle.trex_run.specs.Step.{mill_after, packet_ahead, rounds_after}
use Rattle.trex_run.proofs.BaseLemmas.{bases_after}
use Rattle.trex_run.proofs.HeadLemmas.{all_waiting_short, counted_next}
use Rattle.trex_run.proofs.ReadyLemmas.{after_emit, gone_to, sent_within, state_of, step_is}
use Rattle.trex_run.proofs.TallyLemmas.{AtMostPackets-front}
use Rattle.trex_run.proofs.TurnLemmas.{all_ordered, stems_short, turns_below}
use Rattle.trex_run.proofs.progress.Progress.step.Goals as goal

pub supply-self-inside-requires-clause-turns : goal.supply-self-inside-requires-clause-turns
supply-self-inside-requires-clause-turns g c =
    let i = c.self.inside in
    let send = c.send-then.ensures in
    let then : c.send-then.result.next ≡ next_of (i.mill.limit - c.send-then.new.mill.sent) (queues_of (works_of c.send-then.new.crew)) = rw send.limit at send.next in
    let sends = after_emit (frames_of_plan i.plan.now) (works_of i.crew) (works_of c.send-then.new.crew) i.crew.rounds
    i.mill.limit i.mill.sent c.send-then.new.mill.sent i.coming.next c.send-then.result.next c.self.invariant.0 send.queues send.marks send.sent then in
    let within = sent_within (frames_of_plan i.plan.now) (works_of c.send-then.new.crew) i.crew.rounds i.mill.limit c.send-then.new.mill.sent c.send-then.result.next sends.ready in
    let few = sends.ready.limited in
    λ lifetimes order. turns_below c.send-then.new.mill.sent (2 ^ 63) (works_of c.send-then.new.crew) (omega (arith, within, few)) sends.turns

pub count_next-requires-clause-least : goal.count_next-requires-clause-least
count_next-requires-clause-least g c feed is =
    let i = c.self.inside in
    let send = c.send-then.ensures in
    let supply = c.supply-self-inside.ensures in
    let gone =
    gone_to (frames_of_plan i.plan.now) (works_of i.crew) (works_of c.send-then.new.crew) (works_of c.supply-self-inside.new.crew) i.crew.rounds c.send-then.new.crew.rounds
    c.supply-self-inside.new.crew.rounds i.mill.limit c.send-then.new.mill.limit i.mill.sent c.send-then.new.mill.sent i.coming.next c.send-then.result.next c.supply-self-inside.result.next
    c.self.invariant.0 send.queues send.marks send.rounds send.sent send.limit send.next supply.works supply.rounds supply.next in
    rw c.works.ensures (packet_is_least (i.mill.limit - c.send-then.new.mill.sent) feed (queues_of (works_of c.supply-self-inside.new.crew)) (sym gone.ready.next_is ∙ is))

pub count_next-requires-clause-room : goal.count_next-requires-clause-room
count_next-requires-clause-room g c =
    let i = c.self.inside in
    let frames = frames_of_plan i.plan.now in
    let ready = c.self.invariant.0 in
    rw (c.deref_mut.ensures.value, c.self.invariant.1)
    (AtMostPackets-front i.plan.now.profile (ordered key_of frames) i.mill.limit (i.mill.sent + packet_ahead i.coming.next) (all_ordered frames ready.short) ready.limited)

pub count_next-requires-clause-short : goal.count_next-requires-clause-short
count_next-requires-clause-short g c feed =
    let i = c.self.inside in
    let send = c.send-then.ensures in
    let supply = c.supply-self-inside.ensures in
    let gone =
    gone_to (frames_of_plan i.plan.now) (works_of i.crew) (works_of c.send-then.new.crew) (works_of c.supply-self-inside.new.crew) i.crew.rounds c.send-then.new.crew.rounds
    c.supply-self-inside.new.crew.rounds i.mill.limit c.send-then.new.mill.limit i.mill.sent c.send-then.new.mill.sent i.coming.next c.send-then.result.next c.supply-self-inside.result.next
    c.self.invariant.0 send.queues send.marks send.rounds send.sent send.limit send.next supply.works supply.rounds supply.next in
    let queues = queues_of (works_of c.supply-self-inside.new.crew) in
    rw c.works.ensures
    (all_waiting_short queues feed (stems_short (frames_of_plan i.plan.now) (mill_after (frames_of_plan i.plan.now) queues c.send-then.new.mill.sent i.mill.limit) gone.ready.is gone.ready.short))

pub invariant_of-self : goal.invariant_of-self
invariant_of-self g c =
    let i = c.self.inside in
    let send = c.send-then.ensures in
    let supply = c.supply-self-inside.ensures in
    let gone =
    gone_to (frames_of_plan i.plan.now) (works_of i.crew) (works_of c.send-then.new.crew) (works_of c.supply-self-inside.new.crew) i.crew.rounds c.send-then.new.crew.rounds
    c.supply-self-inside.new.crew.rounds i.mill.limit c.send-then.new.mill.limit i.mill.sent c.send-then.new.mill.sent i.coming.next c.send-then.result.next c.supply-self-inside.result.next
    c.self.invariant.0 send.queues send.marks send.rounds send.sent send.limit send.next supply.works supply.rounds supply.next in
    let all = sequence i.mill.limit (frames_of_plan i.plan.now) in
    let was : i.tallies.items ≡ tallies i.plan.now.profile (take c.send-then.new.mill.sent all) =
    c.self.invariant.1 ∙ ap (λ n. tallies i.plan.now.profile (take n all)) (sym send.sent) in
    let counts : CountsNext c.supply-self-inside.result.next (queues_of (works_of c.supply-self-inside.new.crew)) i.tallies.items c.count_next.new.tallies =
    rw (c.works.ensures, c.deref_mut.ensures.value) at c.count_next.ensures in
    let is : c.count_next.new.tallies ≡ tallies i.plan.now.profile (take (c.send-then.new.mill.sent + packet_ahead c.supply-self-inside.result.next) all) =
    counted_next i.plan.now.profile (frames_of_plan i.plan.now) (works_of c.supply-self-inside.new.crew) c.supply-self-inside.new.crew.rounds i.mill.limit
    c.send-then.new.mill.sent c.supply-self-inside.result.next i.tallies.items c.count_next.new.tallies gone.ready was counts in
    let new = c.count_next.new.tallies in
    let rest = drop (length new) i.tallies.items in
    let long : i.tallies.len ≡ length new = omega (arith, c.deref_mut.ensures.len) in
    let back : take i.tallies.len (new ++ rest) ≡ new = ap (λ n. take n (new ++ rest)) long ∙ take-append_seam new rest in
    rw send.limit (
      gone.ready,
      back ∙ is,
      c.self.invariant.2,
      bases_after i.plan.now.base c.send-then.result.next (works_of i.crew) (works_of c.send-then.new.crew) (works_of c.supply-self-inside.new.crew) send.marks supply.works c.self.invariant.3,
      supply.firsts,
      supply.bound,
    )

pub returns : goal.returns
returns g c =
    let i = c.self.inside in
    let send = c.send-then.ensures in
    let supply = c.supply-self-inside.ensures in
    let gone =
    gone_to (frames_of_plan i.plan.now) (works_of i.crew) (works_of c.send-then.new.crew) (works_of c.supply-self-inside.new.crew) i.crew.rounds c.send-then.new.crew.rounds
    c.supply-self-inside.new.crew.rounds i.mill.limit c.send-then.new.mill.limit i.mill.sent c.send-then.new.mill.sent i.coming.next c.send-then.result.next c.supply-self-inside.result.next
    c.self.invariant.0 send.queues send.marks send.rounds send.sent send.limit send.next supply.works supply.rounds supply.next in
    let works' = works_of c.supply-self-inside.new.crew in
    let rounds' = c.supply-self-inside.new.crew.rounds in
    let sent' = c.send-then.new.mill.sent in
    let entered : EnteredAfter g.G.Gate.entries (λ (w : Work). w.core) c.send-then.result.next (works_of c.send-then.new.crew) i.crew.rounds c.args.gates.now c.supply-self-inside.new.gates =
    subst (λ n. EnteredAfter g.G.Gate.entries (λ (w : Work). w.core) c.send-then.result.next (works_of c.send-then.new.crew) n c.args.gates.now c.supply-self-inside.new.gates)
    send.rounds supply.gates in
    let step = step_is g.G.Gate.entries i.plan.now (works_of i.crew) (works_of c.send-then.new.crew) works' i.crew.rounds rounds' i.mill.limit i.mill.sent sent'
    i.coming.next c.send-then.result.next c.supply-self-inside.result.next c.args.gates.now c.supply-self-inside.new.gates c.self.invariant.0 gone
    send.sent (supply.rounds ∙ ap (rounds_after c.send-then.result.next) send.rounds) entered in
    let Step : RunState → ℕ → Bool → Type 0 = λ old limit found. IsStep g.G.Gate.entries old (state_of i.plan.now works' rounds' sent' limit) c.args.gates.now c.supply-self-inside.new.gates found in
    let old = state_of i.plan.now (works_of i.crew) i.crew.rounds i.mill.sent i.mill.limit in
    subst (λ run. Step run c.send-then.new.mill.limit c.is_packet.result) c.self.view_is
    (subst (λ n. Step old n c.is_packet.result) (sym send.limit) (subst (Step old i.mill.limit) (sym c.is_packet.ensures) step))
