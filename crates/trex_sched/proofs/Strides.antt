-- Where packets stand in their bursts, and strides from one to a later one.
use Rattle.std.proofs.Common.{◌≡◌, ℕ, zero, suc, ◌+◌, ◌-◌, ◌*◌, ◌/◌, ◌%◌, ◌<◌, ◌≤◌, Some, refl, sym, ap, ◌∙◌, subst, arith, inl, inr}
use Rattle.std.proofs.lemmas.Bool.{cases_lt}
use Rattle.std.proofs.lemmas.Nat.{div-add-mod'}
use Rattle.std.proofs.Math.Nat.{add-mul, mul_comm, mul-le-mul_right}
use Rattle.trex_sched.specs.declared.chain.Leg.{Leg}
use Rattle.trex_sched.specs.declared.mode.Mode.{Mode}
use Rattle.trex_sched.specs.declared.mode.Mode.TheVariants.{MultiBurst}
use Rattle.trex_sched.specs.declared.period.Split.{Split}
use Rattle.trex_sched.specs.declared.run.Run.{Run}
use Rattle.trex_sched.specs.declared.slot.Slot.{Slot}
use Rattle.trex_sched.specs.declared.stride.Stride.{Stride}
use Rattle.trex_sched.specs.Entries.{slot_of}
use Rattle.trex_sched.specs.Strides.{AreInBurst, IsSplit, IsStride}
use Rattle.trex_sched.specs.Times.{burst_offset, HasPackets, offset, offset_of, size, size_of}
use Rattle.trex_sched.proofs.Splits.{parts_of}

-- ---- several bursts

-- the packets after a packet of a burst, up to the burst's last one, are those of the same burst
in_one_burst : (p k m : ℕ) → 0 < p → m ≤ p - 1 - k % p → (k / p ≡ (k + m) / p) × (k % p + m ≡ (k + m) % p)
in_one_burst p k m some left = parts_of (k + m) (k / p) p (k % p + m) (omega arith) (omega (arith, div-add-mod' k p))

-- so none of them is past the run's last
not_past : (p gap count k m n : ℕ) → 0 < p → m ≤ p - 1 - k % p → size_of (MultiBurst p gap count) ≡ Some n → k < n → k + m < n
not_past p gap zero k m n some left sized within = absurd cc
not_past p gap (suc count) k m n some left sized within =
    let is_n : p * (count + 1) ≡ n = cc in
    let turned : p * (count + 1) ≡ (count + 1) * p = mul_comm p (count + 1) in
    let bursts : (k / p + 1) * p ≡ k / p * p + 1 * p = add-mul (k / p) 1 p in
    elim (cases_lt count (k / p)) [
      | inl more ↦
          let over : (count + 1) * p ≤ k / p * p = mul-le-mul_right p (omega arith) in
          absurd (omega (arith, div-add-mod' k p))
      | inr not_more ↦
          let under : (k / p + 1) * p ≤ (count + 1) * p = mul-le-mul_right p (omega arith) in
          omega (arith, div-add-mod' k p)
    ]

pub multi_burst : (leg : Leg) (p gap count k : ℕ) → leg.mode ≡ MultiBurst p gap count → HasPackets leg.mode
    → ((n : ℕ) → size leg ≡ Some n → k < n) → AreInBurst leg k (k % p) (p - 1 - k % p)
multi_burst leg p gap count k is packets within =
    let some : 0 < p = subst HasPackets is packets in
    record {
      begins = k / p * (burst_offset leg.period p + gap);
      times = λ m left.
          let one = in_one_burst p k m some left in
          ap (λ (mode : Mode). offset_of leg.period mode (k + m)) is ∙ rw (← one.0, ← one.1) refl;
      within = λ m n left sized. not_past p gap count k m n some left (ap size_of (sym is) ∙ sized) (within n sized);
    }

-- ---- strides

-- the time of the packet itself
pub own_time : (leg : Leg) (k burst left : ℕ) → (there : AreInBurst leg k burst left) → offset leg k ≡ there.begins + burst_offset leg.period burst
own_time leg k burst left there =
    let e : k + 0 ≡ k = omega arith in
    let e' : burst + 0 ≡ burst = omega arith in
    ap (offset leg) (sym e) ∙ there.times 0 (omega arith) ∙ ap (λ (n : ℕ). there.begins + burst_offset leg.period n) e'

-- the packet after a stride
pub stride_slot : (run : Run) (cores time : ℕ) (slot : Slot) → slot ≡ slot_of run slot.in_run → time ≡ run.start + offset run.leg (slot.in_run + cores)
    → record { time = time; stream = slot.stream; number = slot.number + cores; in_run = slot.in_run + cores } ≡ slot_of run (slot.in_run + cores)
stride_slot run cores time slot is time_is =
    let stream : slot.stream ≡ run.leg.stream = ap (λ (s : Slot). s.stream) is in
    let was : slot.number ≡ (slot_of run slot.in_run).number = ap (λ (s : Slot). s.number) is in
    let number : slot.number + cores ≡ (slot_of run (slot.in_run + cores)).number = omega arith in
    rw (time_is, stream, number) refl

-- the time of the packet at which a stride begins, and of the one to which it leads
pub stride_time : (run : Run) (cores : ℕ) (slot : Slot) (stride : Stride) → slot ≡ slot_of run slot.in_run → IsStride run.leg run.start cores slot.in_run stride
    → stride.start + stride.place.whole ≡ slot.time
stride_time run cores slot stride is s =
    let time : slot.time ≡ run.start + offset run.leg slot.in_run = ap (λ (x : Slot). x.time) is in
    omega (arith, own_time run.leg slot.in_run s.burst stride.left s.there, s.start_is, s.place.whole)

pub later_time : (run : Run) (cores k : ℕ) (stride : Stride) (later : Split) → (s : IsStride run.leg run.start cores k stride) → cores ≤ stride.left
    → IsSplit run.leg.period (s.burst + cores) later → stride.start + later.whole ≡ run.start + offset run.leg (k + cores)
later_time run cores k stride later s enough split = omega (arith, s.there.times cores enough, s.start_is, split.whole)

-- the stride from there
pub stride_on : (leg : Leg) (start cores k : ℕ) (stride : Stride) (later : Split) → (s : IsStride leg start cores k stride) → cores ≤ stride.left
    → IsSplit leg.period (s.burst + cores) later
    → IsStride leg start cores (k + cores) (record { start = stride.start; left = stride.left - cores; place = later; step = stride.step })
stride_on leg start cores k stride later s enough split =
    record {
      burst = s.burst + cores;
      there = record {
        begins = s.there.begins;
        times = λ m left.
            let e : k + (cores + m) ≡ k + cores + m = omega arith in
            let e' : s.burst + (cores + m) ≡ s.burst + cores + m = omega arith in
            ap (offset leg) (sym e) ∙ s.there.times (cores + m) (omega arith) ∙ ap (λ (n : ℕ). s.there.begins + burst_offset leg.period n) e';
        within = λ m n left sized. omega (arith, s.there.within (cores + m) n (omega arith) sized);
      };
      start_is = s.start_is;
      place = split;
      step = s.step;
      small = s.small;
    }
