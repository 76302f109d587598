-- The visit of a run is the number of earlier runs of its leg.
use Rattle.std.proofs.Common.{◌≡◌, ℕ, ◌+◌, ◌==◌, ◌<◌, ◌≤◌, ◌||◌, nat_lt, nat_le, cond, List, [], ◌∷◌, ◌++◌, length, unwrap_or, Option, None, Some, refl, sym, ap, ◌∙◌, subst, arith, inl, inr}
use Rattle.std.proofs.lemmas.Bool.{cases_lt}
use Rattle.std.proofs.lemmas.Bool.Decides.{nat_tests}
use Rattle.std.proofs.lemmas.List.Sums.{sum_by-cons}
use Rattle.std.proofs.lemmas.Option.{slice_get_within}
use Rattle.std.specs.List.{count_by, filter}
use Rattle.trex_sched.specs.declared.run.Run.{Run}
use Rattle.trex_sched.specs.Chain.{Chain, IsChain}
use Rattle.trex_sched.specs.Runs.{later_runs, run_after, run_at, runs, runs_from}
use Rattle.trex_sched.specs.Remaining.{back_of, IsReachable}
use Rattle.trex_sched.proofs.RunLemmas.{begins, enough_runs, follows, kept_none, later_step, runs_none}
use Rattle.trex_sched.proofs.Reached.{reached_first, reached_next}

-- how many earlier runs the leg at a place has, where the chain comes to a run
tally : Chain → Run → ℕ → ℕ
tally chain run place =
    cond (nat_le (back_of chain) place) (cond (nat_lt place run.place) (run.visit + 1) run.visit) (cond (nat_lt place run.place || nat_lt 0 run.visit) 1 0)

tally_own : (chain : Chain) (run : Run) → IsReachable chain run → tally chain run run.place ≡ run.visit
unfolding tally
tally_own chain run reached =
    elim (cases_lt run.place (back_of chain)) [
      | inl before ↦ let none = reached.first before in grind (arith, nat_tests)
      | inr after ↦ grind (arith, nat_tests)
    ]

tally_next : (chain : Chain) (run next : Run) (place : ℕ) → IsReachable chain run → run_after chain run ≡ Some next → place < length chain.legs
    → tally chain next place ≡ cond (run.place == place) 1 0 + tally chain run place
unfolding tally
tally_next chain run next place reached some inside =
    let f = follows chain run next some in
    elim f.went [
      | inl on ↦
          let p = on.0 in
          let v = on.1 in
          elim (cases_lt run.place (back_of chain)) [
            | inl before ↦ let none = reached.first before in grind (arith, nat_tests)
            | inr after ↦ grind (arith, nat_tests)
          ]
      | inr back ↦
          let back_is : back_of chain ≡ next.place = ap (λ (o : Option ℕ). unwrap_or o (length chain.legs)) back.0 in
          let v = back.1 in
          let last = back.2 in
          let within : run.place < length chain.legs = slice_get_within chain.legs run.place run.leg reached.at_place in
          elim (cases_lt run.place (back_of chain)) [
            | inl before ↦ let none = reached.first before in grind (arith, nat_tests)
            | inr after ↦ grind (arith, nat_tests)
          ]
    ]

tally_first : (chain : Chain) (run : Run) (place : ℕ) → run_at chain 0 0 0 ≡ Some run → tally chain run place ≡ 0
unfolding tally
tally_first chain run place some =
    let b = begins chain 0 0 0 run some in
    let p = b.place_is in
    let v = b.visit_is in
    grind (arith, nat_tests)

-- a list with an element isn't empty
not_nothing : (before : List Run) (run : Run) (after : List Run) → [] ≡ before ++ (run ∷ after) → ⊥
not_nothing [] run after same = cc
not_nothing (b ∷ before) run after same = cc

-- from a run on to a later one
counted_from : (chain : Chain) (d : ℕ) (before after : List Run) (first run : Run) → IsChain chain → IsReachable chain first
    → later_runs chain d (Some first) ≡ before ++ (run ∷ after)
    → IsReachable chain run
    × ((place : ℕ) → place < length chain.legs → tally chain run place ≡ count_by (λ earlier. earlier.place == place) before + tally chain first place)
counted_from chain d [] after first run is reached listed =
    elim (cases_lt first.start d) [
      | inl early ↦
          let listed' = sym (later_step chain d first is reached.at_place early) ∙ listed in
          let same : first ≡ run = cc in
          (subst (IsReachable chain) same reached, λ place inside. ap (λ (r : Run). tally chain r place) (sym same) ∙ omega arith)
      | inr over ↦ absurd (not_nothing [] run after (sym (kept_none chain d d first is reached.at_place over) ∙ listed))
    ]
counted_from chain d (b ∷ before) after first run is reached listed =
    elim (cases_lt first.start d) [
      | inl early ↦
          let listed' = sym (later_step chain d first is reached.at_place early) ∙ listed in
          let same : first ≡ b = cc in
          let rest : later_runs chain d (run_after chain first) ≡ before ++ (run ∷ after) = cc in
          (elim (run_after chain first) as (λ o. run_after chain first ≡ o → later_runs chain d o ≡ before ++ (run ∷ after) → IsReachable chain run
          × ((place : ℕ) → place < length chain.legs → tally chain run place ≡ count_by (λ earlier. earlier.place == place) (b ∷ before) + tally chain first place)) [
            | None ↦ λ none listed''. absurd (not_nothing before run after (sym (ap (filter (λ run. nat_lt run.start d)) (runs_none chain d)) ∙ listed''))
            | Some next ↦ λ some listed''.
                let later = counted_from chain d before after next run is (reached_next chain first next is reached some) listed'' in (
                  later.0,
                  λ place inside.
                      let so_far = later.1 place inside in
                      let one = tally_next chain first next place reached some inside in
                      let place_is : cond {A = ℕ} (first.place == place) 1 0 ≡ cond {A = ℕ} (b.place == place) 1 0 = ap (λ (r : Run). cond {A = ℕ} (r.place == place) 1 0) same in
                      let count : count_by (λ earlier. earlier.place == place) (b ∷ before) ≡ cond {A = ℕ} (b.place == place) 1 0 + count_by (λ earlier. earlier.place == place) before = sum_by-cons (λ (earlier : Run). cond {A = ℕ} (earlier.place == place) 1 0) b before in
                      omega arith,
                )
          ]) refl rest
      | inr over ↦ absurd (not_nothing (b ∷ before) run after (sym (kept_none chain d d first is reached.at_place over) ∙ listed))
    ]

-- a run's visit is the number of earlier runs of its leg
pub runs_visits : (chain : Chain) (d : ℕ) (before after : List Run) (run : Run) → IsChain chain → runs chain d ≡ before ++ (run ∷ after)
    → run.visit ≡ count_by (λ earlier. earlier.place == run.place) before
runs_visits chain d before after run is listed =
    (elim (run_at chain 0 0 0) as (λ o. run_at chain 0 0 0 ≡ o → later_runs chain d o ≡ before ++ (run ∷ after) → run.visit ≡ count_by (λ earlier. earlier.place == run.place) before) [
      | None ↦ λ none listed'. absurd (not_nothing before run after (sym (ap (filter (λ run. nat_lt run.start d)) (runs_none chain d)) ∙ listed'))
      | Some first ↦ λ some listed'.
          let counted = counted_from chain d before after first run is (reached_first chain 0 first some) listed' in
          let inside : run.place < length chain.legs = slice_get_within chain.legs run.place run.leg counted.0.at_place in
          let all = counted.1 run.place inside in
          let mine = tally_own chain run counted.0 in
          let zero_first = tally_first chain first run.place some in
          omega arith
    ]) refl listed

-- however many runs are looked at, no other starts below the duration
pub runs_all : (chain : Chain) (d n : ℕ) → IsChain chain → d ≤ n → filter (λ run. nat_lt run.start d) (runs_from chain n (run_at chain 0 0 0)) ≡ runs chain d
runs_all chain d n is enough =
    (elim (run_at chain 0 0 0) as (λ o. run_at chain 0 0 0 ≡ o → filter (λ run. nat_lt run.start d) (runs_from chain n o) ≡ filter (λ run. nat_lt run.start d) (runs_from chain d o)) [
      | None ↦ λ none. ap (filter (λ run. nat_lt run.start d)) (runs_none chain n ∙ sym (runs_none chain d))
      | Some first ↦ λ some. enough_runs chain d n d first is (reached_first chain 0 first some).at_place (omega arith) (omega arith)
    ]) refl
