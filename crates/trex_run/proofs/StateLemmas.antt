-- What a run sends, and what its steps leave as it is.
use Rattle.std.proofs.Common.{◌≡◌, ℕ, ◌+◌, ◌*◌, ◌^◌, ◌≤◌, ◌<◌, true, List, [], ◌∷◌, length, map, take, drop, refl, sym, ap, ◌∙◌, subst, arith, Some, None, Bool, Option}
use Rattle.std.specs.List.{AllByRecursion, slice_get}
use Rattle.trex_core.specs.Plan.{PlanOf, frame_at, frames_of_plan, packet_bytes, schedule}
use Rattle.trex_profile.specs.Packets.{packet_of}
use Rattle.trex_sched.specs.declared.slot.Slot.{Slot}
use Rattle.std.specs.Option.{option_map_or}
use Rattle.trex_merge.specs.Frames.{Frame, key_of, sequence, frame_of}
use Rattle.trex_merge.specs.Machine.{next_in}
use Rattle.std.proofs.lemmas.List.{length-drop, take-map}
use Rattle.std.proofs.lemmas.Option.{slice_get_within}
use Rattle.trex_merge.specs.Order.{AreDistinct, IsRising, ordered}
use Rattle.trex_merge.proofs.OrderLemmas.{all_at, all_from, ordered_kept, same-ordered}
use Rattle.trex_profile.specs.Stream.{Stream}
use Rattle.trex_run.specs.Capture.{sequence as run_sequence}
use Rattle.trex_words.specs.declared.asked.RunAsk.{RunAsk}
use Rattle.std.proofs.Math.Seq.{take-length}
use Rattle.trex_run.specs.Step.{packet_ahead, reached}
use Rattle.trex_run.specs.State.{IsEarly, IsShort, RunState, all_of, cores_of, packets_reached, AreSteps, IsCurrent, IsStep, IsThrough}
use Rattle.trex_run.proofs.ListLemmas.{all_get, all_take, drop_get}
use Rattle.trex_run.specs.Rounds.{IsEnoughRounds}
use Rattle.trex_merge.specs.declared.head.Head.{Head}
use Rattle.trex_run.proofs.MillLemmas.{one_ahead}
use Rattle.trex_run.proofs.RoundsLemmas.{tell_nothing, tell_on}

-- ---- every packet of a plan is short

-- no packet of a stream is longer than the longest
abbrev pub IsShortStream : Stream → Type 0
IsShortStream s = (number place time : ℕ) → length (packet_of s number place time) ≤ 9216

-- no packet of a profile is longer than the longest
pub short_at : (p : List Stream) (base : ℕ) (slot : Slot) → AllByRecursion IsShortStream p → length (packet_bytes p base slot) ≤ 9216
unfolding packet_bytes
short_at p base slot short =
    (elim (slice_get p slot.stream) as (λ o. slice_get p slot.stream ≡ o → length (option_map_or (λ s. packet_of s slot.number slot.in_run (base * 10 ^ 9 + slot.time)) o []) ≤ 9216) [
      | None ↦ λ any. omega arith
      | Some s ↦ λ at. all_get IsShortStream p slot.stream s short at slot.number slot.in_run (base * 10 ^ 9 + slot.time)
    ]) refl

slots_short : (p : List Stream) (base : ℕ) (slots : List Slot) → AllByRecursion IsShortStream p
    → AllByRecursion IsShort (map (frame_at p base) slots)
unfolding packet_bytes
slots_short p base [] short = tt
slots_short p base (slot ∷ slots) short = (short_at p base slot short, slots_short p base slots short)

pub plan_short : (plan : PlanOf) → AllByRecursion IsShortStream plan.profile → AllByRecursion IsShort (frames_of_plan plan)
plan_short plan short = slots_short plan.profile plan.base (schedule plan.profile plan.duration) short

-- ---- what holds of each packet of a run

-- of the packets that a run sends
pub all_sent : (P : Frame → Type 0) (limit : ℕ) (frames : List Frame) → AllByRecursion P frames → AllByRecursion P (sequence limit frames)
all_sent P limit frames all =
    all_take P limit (ordered key_of frames) (all_from P (ordered key_of frames) (λ x has. all_at P frames x all ((same-ordered key_of frames x).0 has)))

-- a duration's packets are early
pub early_by : (d : ℕ) (frames : List Frame) → d ≤ 10 ^ 18 → AllByRecursion (λ frame. frame.time < d) frames → AllByRecursion IsEarly frames
early_by d [] within all = tt
early_by d (f ∷ frames) within all = let here = all.0 in (omega arith, early_by d frames within all.1)

-- runs of one plan and one limit send the same
pub all_same : (a b : RunState) → a.plan ≡ b.plan → a.state.limit ≡ b.state.limit → all_of a ≡ all_of b
all_same a b plan limit = ap (λ n. sequence n (frames_of_plan a.plan)) limit ∙ ap (λ (p : PlanOf). sequence b.state.limit (frames_of_plan p)) plan

-- ---- steps

-- a step to a packet of the run
pub record WentTo (all : List Frame) (k n : ℕ) (frame : Frame) : Type 0 where
  pub one : n ≡ k + 1
  pub within : n ≤ length all
  pub found : slice_get (drop k all) 0 ≡ Some frame

module _ {G : Type 0} (entries : G → Option (List (ℕ × ℕ))) where
  -- no step was taken
  pub no_steps : (run : RunState) (gates : List G) → AreSteps entries run run gates gates
  no_steps run gates = record { plan = refl; limit = refl; cores = refl; told = tell_nothing entries (cores_of run) run.rounds gates }

  -- some steps, and some more
  pub more_steps : (a b c : RunState) (old mid new : List G) → length mid ≡ length old → AreSteps entries a b old mid → AreSteps entries b c mid new
      → AreSteps entries a c old new
  more_steps a b c old mid new long first then = record {
    plan = then.plan ∙ first.plan;
    limit = then.limit ∙ first.limit;
    cores = then.cores ∙ first.cores;
    told = tell_on entries (cores_of a) (cores_of b) a.rounds b.rounds c.rounds old mid new first.cores long first.told then.told;
  }

  -- steps leave what the run sends
  pub same_all : (a b : RunState) (old new : List G) → AreSteps entries a b old new → all_of b ≡ all_of a
  same_all a b old new steps = all_same b a steps.plan steps.limit

  -- a run that is at its end after some steps and one more
  pub through_after : (a b c : RunState) (old new : List G) → AreSteps entries a b old new → IsThrough b c → IsThrough a c
  through_after a b c old new steps through =
      let same = same_all a b old new steps in
      record {
        all = through.all ∙ ap length same;
        enough = subst (λ n. IsEnoughRounds n c.rounds (all_of a)) steps.cores (subst (IsEnoughRounds (cores_of b) c.rounds) same through.enough);
      }

  -- a run at its end has reached all its packets
  pub through_all : (a b : RunState) (old new : List G) → AreSteps entries a b old new → IsThrough a b → packets_reached b ≡ all_of a
  through_all a b old new steps through =
      ap (λ n. take n (all_of b)) through.all ∙ ap (take (length (all_of a))) (same_all a b old new steps) ∙ take-length (all_of a)

  -- some steps, and one more that found a packet
  pub went_to : (a b c : RunState) (old mid new : List G) (found : Bool) (head : Head) → AreSteps entries a b old mid → IsStep entries b c mid new found
      → found ≡ true → IsCurrent c head → WentTo (all_of a) (reached b.state) (reached c.state) (frame_of head)
  went_to a b c old mid new found head steps step is current =
      let k = reached b.state in
      let one : reached c.state ≡ k + 1 =
      ap (λ n. n + packet_ahead (next_in c.state)) step.sent ∙ ap (λ n. k + n) (one_ahead (next_in c.state) (sym step.more ∙ is)) in
      let same : all_of c ≡ all_of a = same_all b c mid new step.steps ∙ same_all a b old mid steps in
      let there : slice_get (drop k (all_of a)) 0 ≡ Some (frame_of head) =
      subst (λ (l : List Frame). slice_get (drop k l) 0 ≡ Some (frame_of head)) same
      (drop_get k (all_of c) (frame_of head) (ap (slice_get (all_of c)) (sym step.sent) ∙ current.packet)) in
      let left = slice_get_within (drop k (all_of a)) 0 (frame_of head) there in
      let long = length-drop k (all_of a) in
      record { one = one; within = omega (arith, one, left, long); found = there }

-- ---- what a run sends is what the profile means

pub sequence_is : (plan : PlanOf) (ask : RunAsk) → IsRising key_of (frames_of_plan plan) → AreDistinct key_of (frames_of_plan plan)
    → plan ≡ record { profile = plan.profile; duration = ask.duration; base = ask.base }
    → sequence ask.limit (frames_of_plan plan) ≡ run_sequence plan.profile ask
unfolding run_sequence
sequence_is plan ask rising distinct is =
    let slots = schedule plan.profile plan.duration in
    ap (take ask.limit) (ordered_kept key_of (frames_of_plan plan) distinct rising)
    ∙ take-map (frame_at plan.profile plan.base) ask.limit slots
    ∙ ap (λ (p : PlanOf). map (frame_at p.profile p.base) (take ask.limit (schedule p.profile p.duration))) is
