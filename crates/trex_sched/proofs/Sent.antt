-- What a run sends from a packet on, and a core's part of it.
use Rattle.std.proofs.Common.{◌≡◌, ℕ, zero, suc, ◌+◌, ◌-◌, ◌*◌, ◌%◌, ◌==◌, ◌<◌, ◌≤◌, nat_lt, Bool, true, false, cond, List, [], ◌∷◌, map, unwrap_or, Option, None, Some, refl, sym, ap, ◌∙◌, arith, inl, inr}
use Rattle.std.proofs.lemmas.Bool.{cases_lt}
use Rattle.std.proofs.lemmas.Bool.Decides.{nat_tests}
use Rattle.std.specs.List.{filter, range_with_len}
use Rattle.trex_sched.specs.declared.run.Run.{Run}
use Rattle.trex_sched.specs.declared.slot.Slot.{Slot}
use Rattle.trex_sched.specs.Entries.{run_entries, share, slot_of}
use Rattle.trex_sched.specs.Times.{below, HasPackets, offset, size}
use Rattle.trex_sched.specs.Remaining.{IsMine}
use Rattle.trex_sched.proofs.Offsets.{offset_rising}

-- the number of packets that are looked at
abbrev pub bound_of : ℕ → Run → ℕ
bound_of d run = unwrap_or (size run.leg) d

-- past the last packet there are none
pub entries_past : (d : ℕ) (run : Run) (k : ℕ) → bound_of d run ≤ k → run_entries d run k ≡ []
entries_past d run k past = let e : bound_of d run - k ≡ 0 = omega arith in rw e refl

-- one packet and the later ones
pub entries_step : (d : ℕ) (run : Run) (k : ℕ) → k < bound_of d run
    → run_entries d run k ≡ cond (nat_lt (slot_of run k).time d) (slot_of run k ∷ run_entries d run (k + 1)) (run_entries d run (k + 1))
entries_step d run k within = let e : bound_of d run - k ≡ suc (bound_of d run - (k + 1)) = omega arith in rw e refl

-- packets at the duration or later aren't sent, nor any after them
late : (d : ℕ) (run : Run) (n k : ℕ) → HasPackets run.leg.mode → d ≤ (slot_of run k).time
    → filter (λ slot. nat_lt slot.time d) (map (slot_of run) (range_with_len k n)) ≡ []
late d run zero k some over = refl
late d run (suc n) k some over =
    let rising = offset_rising run.leg.period run.leg.mode k (k + 1) some (omega arith) in
    let test : nat_lt (slot_of run k).time d ≡ false = grind (arith, nat_tests) in
    rw test (late d run n (k + 1) some (omega arith))

pub entries_late : (d : ℕ) (run : Run) (k : ℕ) → HasPackets run.leg.mode → d ≤ (slot_of run k).time → run_entries d run k ≡ []
entries_late d run k some over = late d run (bound_of d run - k) k some over

-- a packet below the duration is the first
pub entries_found : (d : ℕ) (run : Run) (k : ℕ) → k < bound_of d run → (slot_of run k).time < d
    → run_entries d run k ≡ slot_of run k ∷ run_entries d run (k + 1)
entries_found d run k within early =
    let test : nat_lt (slot_of run k).time d ≡ true = grind (arith, nat_tests) in
    entries_step d run k within ∙ ap (λ (b : Bool). cond b (slot_of run k ∷ run_entries d run (k + 1)) (run_entries d run (k + 1))) test

-- ---- a core's part

-- a packet of another core isn't in a core's part
share_other : (core cores : ℕ) (slot : Slot) (slots : List Slot) → ¬ (slot.number % cores ≡ core) → share core cores (slot ∷ slots) ≡ share core cores slots
share_other core cores slot slots other =
    let test : (slot.number % cores == core) ≡ false = grind (arith, nat_tests) in
    ap (λ (b : Bool). cond b (slot ∷ share core cores slots) (share core cores slots)) test

-- a packet of the core is
pub share_own : (core cores : ℕ) (slot : Slot) (slots : List Slot) → slot.number % cores ≡ core → share core cores (slot ∷ slots) ≡ slot ∷ share core cores slots
share_own core cores slot slots own =
    let test : (slot.number % cores == core) ≡ true = grind (arith, nat_tests) in
    ap (λ (b : Bool). cond b (slot ∷ share core cores slots) (share core cores slots)) test

-- one packet of another core is passed
skip_one : (core cores d : ℕ) (run : Run) (k : ℕ) → ¬ ((slot_of run k).number % cores ≡ core)
    → share core cores (run_entries d run k) ≡ share core cores (run_entries d run (k + 1))
skip_one core cores d run k other =
    elim (cases_lt k (bound_of d run)) [
      | inl within ↦
          ap (share core cores) (entries_step d run k within)
          ∙ (elim (nat_lt (slot_of run k).time d) as (λ b. share core cores (cond b (slot_of run k ∷ run_entries d run (k + 1)) (run_entries d run (k + 1))) ≡ share core cores (run_entries d run (k + 1))) [
            | true ↦ share_other core cores (slot_of run k) (run_entries d run (k + 1)) other
            | false ↦ refl
          ])
      | inr past ↦ ap (share core cores) (entries_past d run k past ∙ sym (entries_past d run (k + 1) (omega arith)))
    ]

-- So are several. `before` is the number of the run's first packet.
pub skip : (core cores d : ℕ) (run : Run) (before from steps : ℕ) → before ≡ run.visit * unwrap_or (size run.leg) 0
    → ((step : ℕ) → step < steps → ¬ ((before + from + step) % cores ≡ core))
    → share core cores (run_entries d run from) ≡ share core cores (run_entries d run (from + steps))
skip core cores d run before from zero first others = let e : from + 0 ≡ from = omega arith in rw e refl
skip core cores d run before from (suc steps) first others =
    let here : (before + from + 0) ≡ (slot_of run from).number = omega arith in
    let end : (from + 1) + steps ≡ from + suc steps = omega arith in
    skip_one core cores d run from (λ same. others 0 (omega arith) (ap (λ (n : ℕ). n % cores) here ∙ same))
    ∙ skip core cores d run before (from + 1) steps first (λ step less same. others (step + 1) (omega arith)
    (let e : before + from + (step + 1) ≡ before + (from + 1) + step = omega arith in ap (λ (n : ℕ). n % cores) e ∙ same))
    ∙ ap (λ (k : ℕ). share core cores (run_entries d run k)) end

-- ---- the core's next packet of a run

pub below_none : (limit n : ℕ) → below limit n ≡ None → limit ≤ n
below_none limit n none =
    elim (cases_lt n limit) [
      | inl less ↦
          let test : nat_lt n limit ≡ true = grind (arith, nat_tests) in
          let some : below limit n ≡ Some n = ap (λ (b : Bool). cond b (Some n) None) test in
          absurd cc
      | inr over ↦ over
    ]

pub below_some : (limit n m : ℕ) → below limit n ≡ Some m → (n ≡ m) × (n < limit)
below_some limit n m some =
    elim (cases_lt n limit) [
      | inl less ↦
          let test : nat_lt n limit ≡ true = grind (arith, nat_tests) in
          let is : below limit n ≡ Some n = ap (λ (b : Bool). cond b (Some n) None) test in
          let same : n ≡ m = cc in
          (same, less)
      | inr over ↦
          let test : nat_lt n limit ≡ false = grind (arith, nat_tests) in
          let none : below limit n ≡ None = ap (λ (b : Bool). cond b (Some n) None) test in
          absurd cc
    ]

pub next_past : (core cores d : ℕ) (run : Run) (before from steps : ℕ) → before ≡ run.visit * unwrap_or (size run.leg) 0
    → ((step : ℕ) → step < steps → ¬ ((before + from + step) % cores ≡ core)) → bound_of d run ≤ from + steps
    → share core cores (run_entries d run from) ≡ []
next_past core cores d run before from steps first others past =
    skip core cores d run before from steps first others ∙ ap (share core cores) (entries_past d run (from + steps) past)

pub next_late : (core cores d : ℕ) (run : Run) (before from steps : ℕ) → before ≡ run.visit * unwrap_or (size run.leg) 0
    → ((step : ℕ) → step < steps → ¬ ((before + from + step) % cores ≡ core)) → HasPackets run.leg.mode → run.start < d
    → below (d - run.start) (offset run.leg (from + steps)) ≡ None
    → share core cores (run_entries d run from) ≡ []
next_late core cores d run before from steps first others some begun over =
    let long : d - run.start ≤ offset run.leg (from + steps) = below_none (d - run.start) (offset run.leg (from + steps)) over in
    skip core cores d run before from steps first others ∙ ap (share core cores) (entries_late d run (from + steps) some (omega arith))

pub next_found : (core cores d : ℕ) (run : Run) (before from steps after : ℕ) → before ≡ run.visit * unwrap_or (size run.leg) 0
    → ((step : ℕ) → step < steps → ¬ ((before + from + step) % cores ≡ core)) → (before + from + steps) % cores ≡ core
    → from + steps < bound_of d run → run.start < d
    → below (d - run.start) (offset run.leg (from + steps)) ≡ Some after
    → share core cores (run_entries d run from)
    ≡ record { time = run.start + after; stream = run.leg.stream; number = before + (from + steps); in_run = from + steps }
    ∷ share core cores (run_entries d run (from + steps + 1))
next_found core cores d run before from steps after first others own within begun early =
    let k = from + steps in
    let is : offset run.leg k ≡ after = (below_some (d - run.start) (offset run.leg k) after early).0 in
    let less : offset run.leg k < d - run.start = (below_some (d - run.start) (offset run.leg k) after early).1 in
    let number : before + from + steps ≡ (slot_of run k).number = omega arith in
    skip core cores d run before from steps first others
    ∙ ap (share core cores) (entries_found d run k within (omega arith))
    ∙ share_own core cores (slot_of run k) (run_entries d run (k + 1)) (ap (λ (n : ℕ). n % cores) (sym number) ∙ own)
    ∙ rw (is, first) refl

-- and it is the core's
pub found_mine : (core cores d : ℕ) (run : Run) (before from steps after : ℕ) → before ≡ run.visit * unwrap_or (size run.leg) 0
    → (before + from + steps) % cores ≡ core → from + steps < bound_of d run → run.start < d
    → below (d - run.start) (offset run.leg (from + steps)) ≡ Some after
    → IsMine core cores d run (record { time = run.start + after; stream = run.leg.stream; number = before + (from + steps); in_run = from + steps })
found_mine core cores d run before from steps after first own within begun early =
    let due = below_some (d - run.start) (offset run.leg (from + steps)) after early in
    let is : offset run.leg (from + steps) ≡ after = due.0 in
    let number : before + from + steps ≡ before + (from + steps) = omega arith in
    record {
      is = rw (is, first) refl;
      within = λ n sized. omega (arith, ap (λ (o : Option ℕ). unwrap_or o d) sized);
      early = omega (arith, due.1);
      own = ap (λ (n : ℕ). n % cores) (sym number) ∙ own;
    }
