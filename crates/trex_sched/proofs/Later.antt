-- A core's next packet of a run, where it is as many packets further as there are cores.
use Rattle.std.proofs.Common.{◌≡◌, ℕ, ◌+◌, ◌-◌, ◌*◌, ◌%◌, ◌<◌, ◌≤◌, ◌∷◌, unwrap_or, None, Some, refl, sym, ap, ◌∙◌, subst, arith}
use Rattle.trex_sched.specs.declared.run.Run.{Run}
use Rattle.trex_sched.specs.declared.slot.Slot.{Slot}
use Rattle.trex_sched.specs.Chain.{Chain, IsChain}
use Rattle.trex_sched.specs.Entries.{run_entries, share, slot_of}
use Rattle.trex_sched.specs.Times.{HasPackets, offset, size}
use Rattle.trex_sched.specs.Remaining.{IsMine, IsReachable, rest_from}
use Rattle.trex_sched.proofs.Remaining.{rest_begins}
use Rattle.trex_sched.proofs.Offsets.{offset_spread}
use Rattle.trex_sched.proofs.Reached.{has_packets, sent_before}
use Rattle.trex_sched.proofs.Sent.{bound_of, entries_found, share_own, skip}
use Rattle.trex_sched.proofs.Turns.{not_between, same_rest}

-- the number of a packet and its place in its run are at most its time
pub mine_small : (chain : Chain) (core cores d : ℕ) (run : Run) (slot : Slot) → IsChain chain → IsReachable chain run → IsMine core cores d run slot
    → (slot.number ≤ slot.time) × (slot.in_run ≤ slot.time)
mine_small chain core cores d run slot is reached mine =
    let time : slot.time ≡ run.start + offset run.leg slot.in_run = ap (λ (s : Slot). s.time) mine.is in
    let number : slot.number ≡ run.visit * unwrap_or (size run.leg) 0 + slot.in_run = ap (λ (s : Slot). s.number) mine.is in
    let sent = sent_before chain run is reached in
    let spread = offset_spread run.leg.period run.leg.mode slot.in_run (has_packets chain run is reached) in
    (omega arith, omega arith)

-- the packet that is as many further is the core's too
pub later_mine : (core cores d : ℕ) (run : Run) (slot later : Slot) → core < cores → IsMine core cores d run slot
    → later ≡ slot_of run (slot.in_run + cores) → later.time < d → ((n : ℕ) → size run.leg ≡ Some n → later.in_run < n)
    → IsMine core cores d run later
later_mine core cores d run slot later less mine is early within =
    let in_run : later.in_run ≡ slot.in_run + cores = ap (λ (s : Slot). s.in_run) is in
    let number : slot.number ≡ run.visit * unwrap_or (size run.leg) 0 + slot.in_run = ap (λ (s : Slot). s.number) mine.is in
    let number' : later.number ≡ run.visit * unwrap_or (size run.leg) 0 + (slot.in_run + cores) = ap (λ (s : Slot). s.number) is in
    let sum : slot.number + cores ≡ later.number = omega arith in
    record {
      is = is ∙ ap (slot_of run) (sym in_run);
      within = within;
      early = early;
      own = ap (λ (n : ℕ). n % cores) (sym sum) ∙ same_rest slot.number core cores less mine.own;
    }

-- a place in a run whose packet is below the duration is among those that are looked at
looked_at : (d : ℕ) (run : Run) (slot : Slot) → HasPackets run.leg.mode → slot ≡ slot_of run slot.in_run → slot.time < d
    → ((n : ℕ) → size run.leg ≡ Some n → slot.in_run < n) → slot.in_run < bound_of d run
looked_at d run slot some is early within =
    let time : slot.time ≡ run.start + offset run.leg slot.in_run = ap (λ (s : Slot). s.time) is in
    let spread = offset_spread run.leg.period run.leg.mode slot.in_run some in
    (elim (size run.leg) as (λ o. ((n : ℕ) → o ≡ Some n → slot.in_run < n) → slot.in_run < unwrap_or o d) [
      | None ↦ λ inside. omega arith
      | Some n ↦ λ inside. inside n refl
    ]) within

-- between the two no packet is the core's
pub later_rest : (chain : Chain) (core cores d : ℕ) (run : Run) (slot later : Slot) → core < cores → HasPackets run.leg.mode
    → IsMine core cores d run slot → IsMine core cores d run later → later.in_run ≡ slot.in_run + cores
    → rest_from chain core cores d run (slot.in_run + 1) ≡ later ∷ rest_from chain core cores d run (later.in_run + 1)
later_rest chain core cores d run slot later less some mine mine' further =
    let before = run.visit * unwrap_or (size run.leg) 0 in
    let number : slot.number ≡ before + slot.in_run = ap (λ (s : Slot). s.number) mine.is in
    let time : later.time ≡ (slot_of run later.in_run).time = ap (λ (s : Slot). s.time) mine'.is in
    let own : (slot_of run later.in_run).number % cores ≡ core = subst (λ (s : Slot). s.number % cores ≡ core) mine'.is mine'.own in
    let end : slot.in_run + 1 + (cores - 1) ≡ later.in_run = omega arith in
    rest_begins chain core cores d run (slot.in_run + 1) (later.in_run + 1) later
    (skip core cores d run before (slot.in_run + 1) (cores - 1) refl
    (λ step early same.
    let e : before + (slot.in_run + 1) + step ≡ slot.number + 1 + step = omega arith in
    not_between slot.number core cores step less mine.own (omega arith) (ap (λ (n : ℕ). n % cores) (sym e) ∙ same))
    ∙ ap (λ (k : ℕ). share core cores (run_entries d run k)) end
    ∙ ap (share core cores) (entries_found d run later.in_run (looked_at d run later some mine'.is mine'.early mine'.within) (omega (arith, mine'.early)))
    ∙ share_own core cores (slot_of run later.in_run) (run_entries d run (later.in_run + 1)) own
    ∙ ap (λ (s : Slot). s ∷ share core cores (run_entries d run (later.in_run + 1))) (sym mine'.is))
