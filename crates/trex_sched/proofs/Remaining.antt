-- What is still to come of a walk, from one run to the next.
use Rattle.std.proofs.Common.{◌≡◌, ℕ, ◌%◌, ◌==◌, ◌<◌, ◌≤◌, nat_lt, Bool, true, false, cond, List, [], ◌∷◌, ◌++◌, Option, None, Some, refl, sym, ap, ◌∙◌, subst, arith, inl, inr}
use Rattle.std.proofs.lemmas.Bool.{cases_lt}
use Rattle.std.proofs.lemmas.Bool.Decides.{nat_tests}
use Rattle.std.proofs.lemmas.List.Elements.{filter-append}
use Rattle.std.specs.List.{filter, flat_map, slice_get}
use Rattle.std.specs.Option.{option_and_then}
use Rattle.trex_sched.specs.declared.run.Run.{Run}
use Rattle.trex_sched.specs.declared.slot.Slot.{Slot}
use Rattle.trex_sched.specs.Chain.{Chain, IsChain}
use Rattle.trex_sched.specs.Entries.{entries, run_entries, share}
use Rattle.trex_sched.specs.Runs.{later_runs, run_after, run_at, run_below}
use Rattle.trex_sched.specs.Remaining.{rest_from}
use Rattle.trex_sched.proofs.RunLemmas.{begins, follows, kept_none, later_step, runs_none}

-- a core's part of two lists
share-append : (core cores : ℕ) (xs ys : List Slot) → share core cores (xs ++ ys) ≡ share core cores xs ++ share core cores ys
share-append core cores xs ys = filter-append (λ slot. slot.number % cores == core) xs ys

-- what the runs from a run on send
abbrev pub sent_by : Chain → ℕ → Option Run → List Slot
sent_by chain d run = flat_map (λ later. run_entries d later 0) (later_runs chain d run)

-- no run sends nothing
sent_none : (chain : Chain) (d : ℕ) → sent_by chain d None ≡ []
sent_none chain d =
    let e : later_runs chain d None ≡ [] = ap (filter (λ run. nat_lt run.start d)) (runs_none chain d) in
    ap (flat_map (λ later. run_entries d later 0)) e

-- a run from the duration on sends nothing, and no run after it
sent_late : (chain : Chain) (d : ℕ) (run : Run) → IsChain chain → slice_get chain.legs run.place ≡ Some run.leg → d ≤ run.start → sent_by chain d (Some run) ≡ []
sent_late chain d run is at over = ap (flat_map (λ later. run_entries d later 0)) (kept_none chain d d run is at over)

-- what a run sends stands before what the runs after it send
sent_step : (chain : Chain) (d : ℕ) (run : Run) → IsChain chain → slice_get chain.legs run.place ≡ Some run.leg → run.start < d
    → sent_by chain d (Some run) ≡ run_entries d run 0 ++ sent_by chain d (run_after chain run)
sent_step chain d run is at begun = ap (flat_map (λ later. run_entries d later 0)) (later_step chain d run is at begun)

-- ---- a run that starts below the duration

below_run_some : (d : ℕ) (o : Option Run) (run : Run) → option_and_then (run_below d) o ≡ Some run → (o ≡ Some run) × (run.start < d)
below_run_some d None run is = absurd cc
below_run_some d (Some next) run is =
    elim (cases_lt next.start d) [
      | inl early ↦
          let test : nat_lt next.start d ≡ true = grind (arith, nat_tests) in
          let made : run_below d next ≡ Some next = ap (λ (b : Bool). cond b (Some next) None) test in
          let same : next ≡ run = cc in
          (ap Some same, subst (λ (r : Run). r.start < d) same early)
      | inr over ↦
          let test : nat_lt next.start d ≡ false = grind (arith, nat_tests) in
          let made : run_below d next ≡ None = ap (λ (b : Bool). cond b (Some next) None) test in
          absurd cc
    ]

below_run_none : (d : ℕ) (run : Run) → option_and_then (run_below d) (Some run) ≡ None → d ≤ run.start
below_run_none d run is =
    elim (cases_lt run.start d) [
      | inl early ↦
          let test : nat_lt run.start d ≡ true = grind (arith, nat_tests) in
          let made : run_below d run ≡ Some run = ap (λ (b : Bool). cond b (Some run) None) test in
          absurd cc
      | inr over ↦ over
    ]

-- where no run starts below the duration, nothing is sent
none_sent : (chain : Chain) (d : ℕ) (o : Option Run) → IsChain chain → ((run : Run) → o ≡ Some run → slice_get chain.legs run.place ≡ Some run.leg)
    → option_and_then (run_below d) o ≡ None → sent_by chain d o ≡ []
none_sent chain d None is at none = sent_none chain d
none_sent chain d (Some run) is at none = sent_late chain d run is (at run refl) (below_run_none d run none)

-- where one does, it sends first
some_sent : (chain : Chain) (d : ℕ) (o : Option Run) (run : Run) → IsChain chain → ((run : Run) → o ≡ Some run → slice_get chain.legs run.place ≡ Some run.leg)
    → option_and_then (run_below d) o ≡ Some run → sent_by chain d o ≡ run_entries d run 0 ++ sent_by chain d (run_after chain run)
some_sent chain d o run is at some =
    let both = below_run_some d o run some in
    ap (sent_by chain d) both.0 ∙ sent_step chain d run is (at run both.0) both.1

after_at : (chain : Chain) (run : Run) → (next : Run) → run_after chain run ≡ Some next → slice_get chain.legs next.place ≡ Some next.leg
after_at chain run next some = (follows chain run next some).leg_at

first_at : (chain : Chain) → (run : Run) → run_at chain 0 0 0 ≡ Some run → slice_get chain.legs run.place ≡ Some run.leg
first_at chain run some = let b = begins chain 0 0 0 run some in ap (slice_get chain.legs) b.place_is ∙ b.leg_at

-- ---- the steps of a walk

-- the run has none, and no run after it starts below the duration
pub rest_ends : (chain : Chain) (core cores d : ℕ) (run : Run) (from : ℕ) → IsChain chain → share core cores (run_entries d run from) ≡ []
    → option_and_then (run_below d) (run_after chain run) ≡ None → rest_from chain core cores d run from ≡ []
rest_ends chain core cores d run from is here none =
    share-append core cores (run_entries d run from) (sent_by chain d (run_after chain run))
    ∙ ap (λ (xs : List Slot). xs ++ share core cores (sent_by chain d (run_after chain run))) here
    ∙ ap (share core cores) (none_sent chain d (run_after chain run) is (after_at chain run) none)

-- the run has none, and the next run begins
pub rest_goes_on : (chain : Chain) (core cores d : ℕ) (run later : Run) (from : ℕ) → IsChain chain → share core cores (run_entries d run from) ≡ []
    → option_and_then (run_below d) (run_after chain run) ≡ Some later → rest_from chain core cores d run from ≡ rest_from chain core cores d later 0
rest_goes_on chain core cores d run later from is here some =
    share-append core cores (run_entries d run from) (sent_by chain d (run_after chain run))
    ∙ ap (λ (xs : List Slot). xs ++ share core cores (sent_by chain d (run_after chain run))) here
    ∙ ap (share core cores) (some_sent chain d (run_after chain run) later is (after_at chain run) some)

-- the run has one
pub rest_begins : (chain : Chain) (core cores d : ℕ) (run : Run) (from next : ℕ) (slot : Slot)
    → share core cores (run_entries d run from) ≡ slot ∷ share core cores (run_entries d run next)
    → rest_from chain core cores d run from ≡ slot ∷ rest_from chain core cores d run next
rest_begins chain core cores d run from next slot here =
    share-append core cores (run_entries d run from) (sent_by chain d (run_after chain run))
    ∙ ap (λ (xs : List Slot). xs ++ share core cores (sent_by chain d (run_after chain run))) here
    ∙ ap (λ (xs : List Slot). slot ∷ xs) (sym (share-append core cores (run_entries d run next) (sent_by chain d (run_after chain run))))

-- the next run is the one that the chain comes to
pub next_is : (chain : Chain) (d : ℕ) (run later : Run) → option_and_then (run_below d) (run_after chain run) ≡ Some later
    → (run_after chain run ≡ Some later) × (later.start < d)
next_is chain d run later some = below_run_some d (run_after chain run) later some

pub first_is : (chain : Chain) (d : ℕ) (run : Run) → option_and_then (run_below d) (run_at chain 0 0 0) ≡ Some run
    → (run_at chain 0 0 0 ≡ Some run) × (run.start < d)
first_is chain d run some = below_run_some d (run_at chain 0 0 0) run some

-- the whole of a chain
pub whole_none : (chain : Chain) (core cores d : ℕ) → IsChain chain → option_and_then (run_below d) (run_at chain 0 0 0) ≡ None → share core cores (entries chain d) ≡ []
whole_none chain core cores d is none = ap (share core cores) (none_sent chain d (run_at chain 0 0 0) is (first_at chain) none)

pub whole_some : (chain : Chain) (core cores d : ℕ) (run : Run) → IsChain chain → option_and_then (run_below d) (run_at chain 0 0 0) ≡ Some run
    → share core cores (entries chain d) ≡ rest_from chain core cores d run 0
whole_some chain core cores d run is some = ap (share core cores) (some_sent chain d (run_at chain 0 0 0) run is (first_at chain) some)
