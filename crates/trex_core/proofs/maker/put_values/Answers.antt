use Rattle.std.proofs.Common.{◌≡◌, ◌∙◌, IfSome, List, Option, length, slice_get, take, sym, ap, subst, ℕ}
use Rattle.std.proofs.lemmas.List.{length-take-le}
use Rattle.trex_core.specs.Batches.{has_room_for}
use Rattle.trex_core.specs.Records.{frame_with, with_frame}
use Rattle.trex_core.proofs.Making.{at_stream, made_of, some_is}
use Rattle.trex_merge.specs.declared.key.Key.{Key}
use Rattle.trex_sched.specs.Entries.{key_of}
use Rattle.trex_profile.specs.declared.flow.Flow.{Flow}
use Rattle.trex_profile.specs.Flow.{IsFlow}
use Rattle.trex_profile.specs.Packets.{values_of}
use Rattle.trex_profile.specs.Spec.{IsSpecOf}
use Rattle.trex_vm.specs.Packet.{after_all, stamped}
use Rattle.trex_vm.specs.Program.{AreValuesOf, IsFrontOf}
use Rattle.trex_core.proofs.maker.put_values.Goals as goal

pub packet_length-length-requires : goal.packet_length-length-requires
packet_length-length-requires c =
    let p = c.args.plan.now.profile in
    let slot = c.args.slot.now in
    let spec = c.stream-spec.result.now in
    let s = some_is (slice_get p slot.stream) (λ s. IsSpecOf s spec) c.stream-spec.ensures in
    let read = at_stream p slot.stream s.0 (λ s. c.args.values.now ≡ values_of s slot.number slot.in_run) s.1 c.requires.values in
    subst (AreValuesOf spec.program) (sym read) (s.2.values slot.number slot.in_run)

pub stamp_of-stamp-requires : goal.stamp_of-stamp-requires
stamp_of-stamp-requires c flow there =
    let spec = c.stream-spec.result.now in
    let s = some_is (slice_get c.args.plan.now.profile c.args.slot.now.stream) (λ s. IsSpecOf s spec) c.stream-spec.ensures in
    subst (λ (o : Option Flow). IfSome o IsFlow) (sym s.2.flow ∙ there) s.2.flows

pub push-requires-clause-front : goal.push-requires-clause-front
push-requires-clause-front c =
    let spec = c.stream-spec.result.now in
    let n = c.packet_length-length.result in
    let found = c.packet_length-length.ensures in
    let made = made_of c.args.plan.now.profile c.args.plan.now.base c.args.slot.now spec c.args.values.now c.stamp_of-stamp.result n c.time_of.result
    c.stream-spec.ensures c.requires.values c.time_of.ensures c.stamp_of-stamp.ensures.value found.value found.within found.sound found.packet in
    subst (λ (t : List ℕ). IsFrontOf spec.program c.args.values.now (take n t)) (sym c.deref.ensures.value) made.front

pub push-requires-clause-values : goal.push-requires-clause-values
push-requires-clause-values c =
    let spec = c.stream-spec.result.now in
    let n = c.packet_length-length.result in
    let found = c.packet_length-length.ensures in
    let made = made_of c.args.plan.now.profile c.args.plan.now.base c.args.slot.now spec c.args.values.now c.stamp_of-stamp.result n c.time_of.result
    c.stream-spec.ensures c.requires.values c.time_of.ensures c.stamp_of-stamp.ensures.value found.value found.within found.sound found.packet in
    made.valued

pub push-requires-clause-stamp : goal.push-requires-clause-stamp
push-requires-clause-stamp c =
    let spec = c.stream-spec.result.now in
    let n = c.packet_length-length.result in
    let found = c.packet_length-length.ensures in
    let made = made_of c.args.plan.now.profile c.args.plan.now.base c.args.slot.now spec c.args.values.now c.stamp_of-stamp.result n c.time_of.result
    c.stream-spec.ensures c.requires.values c.time_of.ensures c.stamp_of-stamp.ensures.value found.value found.within found.sound found.packet in
    made.stamps

pub push-requires-clause-room : goal.push-requires-clause-room
push-requires-clause-room c =
    let spec = c.stream-spec.result.now in
    let n = c.packet_length-length.result in
    let found = c.packet_length-length.ensures in
    let made = made_of c.args.plan.now.profile c.args.plan.now.base c.args.slot.now spec c.args.values.now c.stamp_of-stamp.result n c.time_of.result
    c.stream-spec.ensures c.requires.values c.time_of.ensures c.stamp_of-stamp.ensures.value found.value found.within found.sound found.packet in
    ap (λ (t : List ℕ). has_room_for c.args.batch.now.waiting (length (take n t))) c.deref.ensures.value
    ∙ ap (has_room_for c.args.batch.now.waiting) (length-take-le n spec.template.items made.within) ∙ sym c.has_room_for.ensures.value ∙ c.if-not-has_room_for.false

pub returns-then-not-has_room_for-clause-room : goal.returns-then-not-has_room_for-clause-room
returns-then-not-has_room_for-clause-room c =
    let spec = c.stream-spec.result.now in
    let n = c.packet_length-length.result in
    let found = c.packet_length-length.ensures in
    let made = made_of c.args.plan.now.profile c.args.plan.now.base c.args.slot.now spec c.args.values.now c.stamp_of-stamp.result n c.time_of.result
    c.stream-spec.ensures c.requires.values c.time_of.ensures c.stamp_of-stamp.ensures.value found.value found.within found.sound found.packet in
    sym c.if-not-has_room_for.true ∙ c.has_room_for.ensures.value ∙ ap (has_room_for c.args.batch.now.waiting) (sym made.long)

pub returns-then-not-has_room_for-clause-short : goal.returns-then-not-has_room_for-clause-short
returns-then-not-has_room_for-clause-short c =
    let spec = c.stream-spec.result.now in
    let n = c.packet_length-length.result in
    let found = c.packet_length-length.ensures in
    let made = made_of c.args.plan.now.profile c.args.plan.now.base c.args.slot.now spec c.args.values.now c.stamp_of-stamp.result n c.time_of.result
    c.stream-spec.ensures c.requires.values c.time_of.ensures c.stamp_of-stamp.ensures.value found.value found.within found.sound found.packet in
    made.short

pub returns-clause-room : goal.returns-clause-room
returns-clause-room c =
    let spec = c.stream-spec.result.now in
    let n = c.packet_length-length.result in
    let found = c.packet_length-length.ensures in
    let made = made_of c.args.plan.now.profile c.args.plan.now.base c.args.slot.now spec c.args.values.now c.stamp_of-stamp.result n c.time_of.result
    c.stream-spec.ensures c.requires.values c.time_of.ensures c.stamp_of-stamp.ensures.value found.value found.within found.sound found.packet in
    sym c.if-not-has_room_for.false ∙ c.has_room_for.ensures.value ∙ ap (has_room_for c.args.batch.now.waiting) (sym made.long)

pub returns-clause-short : goal.returns-clause-short
returns-clause-short c =
    let spec = c.stream-spec.result.now in
    let n = c.packet_length-length.result in
    let found = c.packet_length-length.ensures in
    let made = made_of c.args.plan.now.profile c.args.plan.now.base c.args.slot.now spec c.args.values.now c.stamp_of-stamp.result n c.time_of.result
    c.stream-spec.ensures c.requires.values c.time_of.ensures c.stamp_of-stamp.ensures.value found.value found.within found.sound found.packet in
    made.short

pub returns-clause-added : goal.returns-clause-added
returns-clause-added c =
    let spec = c.stream-spec.result.now in
    let n = c.packet_length-length.result in
    let found = c.packet_length-length.ensures in
    let made = made_of c.args.plan.now.profile c.args.plan.now.base c.args.slot.now spec c.args.values.now c.stamp_of-stamp.result n c.time_of.result
    c.stream-spec.ensures c.requires.values c.time_of.ensures c.stamp_of-stamp.ensures.value found.value found.within found.sound found.packet in
    let old = c.args.batch.now in
    λ yes. c.push.ensures
    ∙ ap (λ (t : List ℕ). with_frame (frame_with c.key.result (after_all c.args.values.now spec.program.instrs (stamped c.stamp_of-stamp.result (take n t)))) old) c.deref.ensures.value
    ∙ ap (λ (k : Key). with_frame (frame_with k (after_all c.args.values.now spec.program.instrs (stamped c.stamp_of-stamp.result (take n spec.template.items)))) old) c.key.ensures
    ∙ ap (λ (bytes : List ℕ). with_frame (frame_with (key_of c.args.slot.now) bytes) old) made.is
