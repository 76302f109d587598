use Rattle.std.proofs.Common.{◌≡◌, ℕ, ◌+◌, Option, Some, sym, ap, ◌∙◌, subst, arith}
use Rattle.std.specs.Borrow.{MutBor}
use Rattle.std.specs.Option.{option_copied_mut}
use Rattle.trex_sched.specs.declared.chain.Leg.{Leg}
use Rattle.trex_sched.specs.declared.stride.Stride.{Stride}
use Rattle.trex_sched.specs.Strides.{IsAtStride, IsStride}
use Rattle.trex_sched.proofs.Strides.{later_time, stride_on, stride_slot, stride_time}
use Rattle.trex_sched.proofs.stride.next_by_stride.Goals as goal

-- the stride that is there
stride_is : (leg : Leg) (start cores k : ℕ) (stride : Option Stride) (found : Option (MutBor Stride)) (there : MutBor Stride)
    → option_copied_mut found ≡ stride → found ≡ Some there → IsAtStride leg start cores k stride → IsStride leg start cores k there.now
stride_is leg start cores k stride found there value was at = subst (IsAtStride leg start cores k) (sym value ∙ ap option_copied_mut was) at

pub later-place-requires-clause-wholes : goal.later-place-requires-clause-wholes
later-place-requires-clause-wholes c =
    let run = c.args.run.now in
    let s = stride_is run.leg run.start c.args.cores c.args.slot.now.in_run c.args.stride.now c.as_mut.result c.in_ok-stride.stride c.as_mut.ensures.value c.in_ok-stride.was c.requires.stride in
    (omega (arith, stride_time run c.args.cores c.args.slot.now c.in_ok-stride.stride.now c.requires.is s), s.small)

pub overflow_add-time : goal.overflow_add-time
overflow_add-time c =
    let run = c.args.run.now in
    let s = stride_is run.leg run.start c.args.cores c.args.slot.now.in_run c.args.stride.now c.as_mut.result c.in_ok-stride.stride c.as_mut.ensures.value c.in_ok-stride.was c.requires.stride in
    omega (arith, stride_time run c.args.cores c.args.slot.now c.in_ok-stride.stride.now c.requires.is s, s.small, c.later-place.ensures.bound)

pub returns-clause-is : goal.returns-clause-is
returns-clause-is c =
    let run = c.args.run.now in
    let slot = c.args.slot.now in
    let stride = c.in_ok-stride.stride.now in
    let s = stride_is run.leg run.start c.args.cores slot.in_run c.args.stride.now c.as_mut.result c.in_ok-stride.stride c.as_mut.ensures.value c.in_ok-stride.was c.requires.stride in
    let split = c.later-place.ensures.split s.burst c.args.cores s.place s.step in
    let time = later_time run c.args.cores slot.in_run stride c.later-place.result s c.if-stride-cores.false split in
    stride_slot run c.args.cores (c.from.result + c.later-place.result.whole) slot c.requires.is (omega (arith, time))

pub returns-clause-within : goal.returns-clause-within
returns-clause-within c =
    let run = c.args.run.now in
    let s = stride_is run.leg run.start c.args.cores c.args.slot.now.in_run c.args.stride.now c.as_mut.result c.in_ok-stride.stride c.as_mut.ensures.value c.in_ok-stride.was c.requires.stride in
    λ n sized. s.there.within c.args.cores n c.if-stride-cores.false sized

pub returns-clause-stride : goal.returns-clause-stride
returns-clause-stride c =
    let run = c.args.run.now in
    let slot = c.args.slot.now in
    let stride = c.in_ok-stride.stride.now in
    let s = stride_is run.leg run.start c.args.cores slot.in_run c.args.stride.now c.as_mut.result c.in_ok-stride.stride c.as_mut.ensures.value c.in_ok-stride.was c.requires.stride in
    stride_on run.leg run.start c.args.cores slot.in_run stride c.later-place.result s c.if-stride-cores.false (c.later-place.ensures.split s.burst c.args.cores s.place s.step)
