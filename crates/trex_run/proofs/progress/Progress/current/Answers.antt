use Rattle.std.proofs.Common.{◌≡◌, ◌-◌, length, ap, sym, ◌∙◌, Some, subst}
use Rattle.std.proofs.lemmas.List.{length-take-le}
use Rattle.std.specs.List.{slice_get}
use Rattle.trex_core.specs.Plan.{frames_of_plan}
use Rattle.trex_crew.specs.Crews.{works_of}
use Rattle.trex_merge.specs.declared.next.Next.TheVariants.{Packet}
use Rattle.trex_merge.specs.Frames.{frame_of, key_of, sequence}
use Rattle.trex_merge.specs.Order.{ordered}
use Rattle.trex_merge.proofs.QueueLemmas.{packet_is_least}
use Rattle.trex_run.specs.State.{IsEarly, IsShort, RunState, all_of}
use Rattle.trex_run.specs.Ready.{IsReady, queues_of}
use Rattle.trex_run.proofs.HeadLemmas.{coming_is}
use Rattle.trex_run.proofs.ListLemmas.{all_get}
use Rattle.trex_run.proofs.StateLemmas.{all_sent}
use Rattle.trex_run.proofs.progress.Progress.current.Goals as goal

pub head_of-requires : goal.head_of-requires
head_of-requires c =
    let i = c.self.inside in
    let ready = c.self.invariant.0 in
    rw c.works.ensures (packet_is_least (i.mill.limit - i.mill.sent) c.in-Packet.feed (queues_of (works_of i.crew)) (sym ready.next_is ∙ c.in-Packet.is))

pub returns : goal.returns
returns c =
    let i = c.self.inside in
    let frames = frames_of_plan i.plan.now in
    let ready : IsReady frames (works_of i.crew) i.crew.rounds i.mill.limit i.mill.sent (Packet c.in-Packet.feed) = rw (← c.in-Packet.is) c.self.invariant.0 in
    let there = coming_is frames (works_of i.crew) i.crew.rounds i.mill.limit i.mill.sent c.in-Packet.feed ready in
    let head = rw c.works.ensures at c.head_of.ensures in
    let P : RunState → Type 0 = λ s. slice_get (all_of s) (length s.state.sent) ≡ Some (frame_of c.head_of.result) in
    let found : slice_get (sequence i.mill.limit frames) i.mill.sent ≡ Some (frame_of c.head_of.result) = sym there ∙ head in
    record {
      packet = subst P c.self.view_is
          (ap (slice_get (sequence i.mill.limit frames)) (length-take-le i.mill.sent (ordered key_of frames) ready.counted) ∙ found);
      short = all_get IsShort (sequence i.mill.limit frames) i.mill.sent (frame_of c.head_of.result) (all_sent IsShort i.mill.limit frames ready.short) found;
      early = all_get IsEarly (sequence i.mill.limit frames) i.mill.sent (frame_of c.head_of.result) (all_sent IsEarly i.mill.limit frames c.self.invariant.2) found;
    }
