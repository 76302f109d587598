use Rattle.std.proofs.Common.{◌≡◌, ℕ, ◌+◌, ap, arith}
use Rattle.trex_sched.specs.declared.slot.Slot.{Slot}
use Rattle.trex_sched.specs.declared.run.Run.{Run}
use Rattle.trex_sched.specs.Entries.{slot_of}
use Rattle.trex_sched.specs.Strides.{AreInBurst}
use Rattle.trex_sched.specs.Times.{burst_offset, offset}
use Rattle.trex_sched.proofs.Offsets.{burst_spread}
use Rattle.trex_sched.proofs.Strides.{own_time}
use Rattle.trex_sched.proofs.stride.stride_from.Goals as goal

-- a packet's time is that of its burst and that in its burst
parts : (run : Run) (slot : Slot) (burst left : ℕ) → slot ≡ slot_of run slot.in_run → (there : AreInBurst run.leg slot.in_run burst left)
    → slot.time ≡ run.start + (there.begins + burst_offset run.leg.period burst)
parts run slot burst left is there =
    let time : slot.time ≡ run.start + offset run.leg slot.in_run = ap (λ (s : Slot). s.time) is in
    omega (arith, own_time run.leg slot.in_run burst left there)

pub split-after-requires : goal.split-after-requires
split-after-requires c =
    let place = c.place_of-place.result in
    omega (arith, parts c.args.run.now c.args.slot.now place.burst place.left c.requires.is c.place_of-place.ensures, burst_spread c.args.run.now.leg.period place.burst)

pub overflow_cast-result : goal.overflow_cast-result
overflow_cast-result c =
    let place = c.place_of-place.result in
    omega (arith, parts c.args.run.now c.args.slot.now place.burst place.left c.requires.is c.place_of-place.ensures, c.split-after.ensures.split.whole)

pub overflow_sub-result : goal.overflow_sub-result
overflow_sub-result c =
    let place = c.place_of-place.result in
    omega (arith, parts c.args.run.now c.args.slot.now place.burst place.left c.requires.is c.place_of-place.ensures, c.split-after.ensures.split.whole)

pub returns : goal.returns
returns c =
    let place = c.place_of-place.result in
    record {
      burst = place.burst;
      there = c.place_of-place.ensures;
      start_is = omega (arith, parts c.args.run.now c.args.slot.now place.burst place.left c.requires.is c.place_of-place.ensures, c.split-after.ensures.split.whole);
      place = c.split-after.ensures.split;
      step = c.split.ensures.split;
      small = omega (arith, c.split.ensures.small);
    }
