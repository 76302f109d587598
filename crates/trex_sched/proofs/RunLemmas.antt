-- How a chain goes from one run to the next.
use Rattle.std.proofs.Common.{◌≡◌, ℕ, zero, suc, ◌+◌, ◌<◌, ◌≤◌, ◌⊎◌, nat_lt, Bool, true, false, cond, List, [], ◌∷◌, length, unwrap_or, Option, None, Some, refl, sym, ap, ◌∙◌, subst, arith, inl, inr}
use Rattle.std.proofs.lemmas.Bool.{cases_lt}
use Rattle.std.proofs.lemmas.Bool.Decides.{nat_tests}
use Rattle.std.specs.List.{AllByRecursion, filter, slice_get}
use Rattle.std.specs.Option.{option_map, option_and_then}
use Rattle.trex_sched.specs.declared.run.Run.{Run}
use Rattle.trex_sched.specs.Chain.{Chain, IsChain}
use Rattle.trex_sched.specs.Runs.{later_runs, run_after, run_at, run_at_next, runs_from, is_last_visit}
use Rattle.trex_sched.specs.Times.{HasPackets, size, span}
use Rattle.trex_sched.proofs.Offsets.{ends_together, run_ends}

-- ---- options

-- what comes through a step came into it
through : {X Y : Type 0} (f : X → Option Y) (o : Option X) (y : Y) → option_and_then f o ≡ Some y → (x : X) × (o ≡ Some x) × (f x ≡ Some y)
through f None y is = absurd cc
through f (Some x) y is = (x, refl, is)

-- a choice that isn't nothing
chosen : {Y : Type 0} (b : Bool) (o : Option Y) (y : Y) → cond b None o ≡ Some y → o ≡ Some y
chosen true o y is = absurd cc
chosen false o y is = is

-- what holds of each element holds of the one at a place
pub all_get : {X : Type 0} (P : X → Type 0) (xs : List X) (place : ℕ) (x : X) → AllByRecursion P xs → slice_get xs place ≡ Some x → P x
all_get P [] place x all is = absurd cc
all_get P (a ∷ rest) zero x all is = let same : a ≡ x = cc in subst P same all.0
all_get P (a ∷ rest) (suc place) x all is = all_get P rest place x all.1 is

-- ---- one step

-- the run of a leg whose gap begins at a time
pub record Begins (chain : Chain) (place visit t : ℕ) (run : Run) : Type 0 where
  pub place_is : run.place ≡ place
  pub leg_at : slice_get chain.legs place ≡ Some run.leg
  pub visit_is : run.visit ≡ visit
  pub start_is : run.start ≡ t + run.leg.isg

pub begins : (chain : Chain) (place visit t : ℕ) (run : Run) → run_at chain place visit t ≡ Some run → Begins chain place visit t run
begins chain place visit t run is =
    elim (slice_get chain.legs place) as (λ o. slice_get chain.legs place ≡ o → option_map (λ leg. record { place = place; leg = leg; visit = visit; start = t + leg.isg }) o ≡ Some run → Begins chain place visit t run) [
      | None ↦ λ at made. absurd cc
      | Some leg ↦ λ at made.
          let whole : record { place = place; leg = leg; visit = visit; start = t + leg.isg } ≡ run = cc in
          subst (Begins chain place visit t) whole (record { place_is = refl; leg_at = at; visit_is = refl; start_is = refl })
    ] refl is

-- the run after a run: how long that one lasted, and whether the chain went on or back
pub record Follows (chain : Chain) (run next : Run) : Type 0 where
  pub lasts : ℕ
  pub ends : span run.leg ≡ Some lasts
  pub leg_at : slice_get chain.legs next.place ≡ Some next.leg
  pub start_is : next.start ≡ run.start + lasts + next.leg.isg
  pub went : ((next.place ≡ run.place + 1) × (next.visit ≡ run.visit))
      ⊎ ((chain.back ≡ Some next.place) × (next.visit ≡ run.visit + 1) × (length chain.legs ≤ run.place + 1))

pub follows : (chain : Chain) (run next : Run) → run_after chain run ≡ Some next → Follows chain run next
follows chain run next is =
    let after = through (λ lasts. run_at_next chain run.place run.visit (run.start + lasts)) (span run.leg) next (chosen (is_last_visit run) _ next is) in
    let t = run.start + after.0 in
    elim (cases_lt (run.place + 1) (length chain.legs)) [
      | inl on ↦
          let test : nat_lt (run.place + 1) (length chain.legs) ≡ true = grind (arith, nat_tests) in
          let at : run_at chain (run.place + 1) run.visit t ≡ Some next =
          ap (λ (b : Bool). cond b (run_at chain (run.place + 1) run.visit t) (option_and_then (λ back. run_at chain back (run.visit + 1) t) chain.back)) (sym test) ∙ after.2 in
          let b = begins chain (run.place + 1) run.visit t next at in
          record {
            lasts = after.0;
            ends = after.1;
            leg_at = ap (slice_get chain.legs) b.place_is ∙ b.leg_at;
            start_is = b.start_is;
            went = inl (b.place_is, b.visit_is);
          }
      | inr last ↦
          let test : nat_lt (run.place + 1) (length chain.legs) ≡ false = grind (arith, nat_tests) in
          let at : option_and_then (λ back. run_at chain back (run.visit + 1) t) chain.back ≡ Some next =
          ap (λ (b : Bool). cond b (run_at chain (run.place + 1) run.visit t) (option_and_then (λ back. run_at chain back (run.visit + 1) t) chain.back)) (sym test) ∙ after.2 in
          let back = through (λ back. run_at chain back (run.visit + 1) t) chain.back next at in
          let b = begins chain back.0 (run.visit + 1) t next back.2 in
          record {
            lasts = after.0;
            ends = after.1;
            leg_at = ap (slice_get chain.legs) b.place_is ∙ b.leg_at;
            start_is = b.start_is;
            went = inr (back.1 ∙ ap Some (sym b.place_is), b.visit_is, last);
          }
    ]

-- a run that ends lasts 1 ns or more a packet, and has one
pub lasts_long : (chain : Chain) (run next : Run) → IsChain chain → slice_get chain.legs run.place ≡ Some run.leg → (f : Follows chain run next)
    → (1 ≤ f.lasts) × (unwrap_or (size run.leg) 0 ≤ f.lasts)
lasts_long chain run next is at f =
    let some = all_get (λ leg. HasPackets leg.mode) chain.legs run.place run.leg is.packets at in
    let sized = ends_together run.leg.period run.leg.mode f.lasts f.ends in
    let long = run_ends run.leg.period run.leg.mode sized.0 f.lasts some sized.1 f.ends in
    let packets : unwrap_or (size run.leg) 0 ≡ sized.0 = ap (λ (o : Option ℕ). unwrap_or o 0) sized.1 in
    (omega arith, omega arith)

-- ---- runs from a run on

-- no run comes after none
pub runs_none : (chain : Chain) (n : ℕ) → runs_from chain n None ≡ []
runs_none chain zero = refl
runs_none chain (suc n) = refl

-- runs from the duration on are not kept
pub kept_none : (chain : Chain) (d n : ℕ) (run : Run) → IsChain chain → slice_get chain.legs run.place ≡ Some run.leg → d ≤ run.start
    → filter (λ run. nat_lt run.start d) (runs_from chain n (Some run)) ≡ []
kept_none chain d zero run is at over = refl
kept_none chain d (suc n) run is at over =
    let test : nat_lt run.start d ≡ false = grind (arith, nat_tests) in
    let rest : filter (λ run. nat_lt run.start d) (runs_from chain n (run_after chain run)) ≡ [] =
    elim (run_after chain run) as (λ o. run_after chain run ≡ o → filter (λ run. nat_lt run.start d) (runs_from chain n o) ≡ []) [
      | None ↦ λ none. ap (filter (λ run. nat_lt run.start d)) (runs_none chain n)
      | Some next ↦ λ some.
          let f = follows chain run next some in
          kept_none chain d n next is f.leg_at (omega (arith, f.start_is))
    ] refl in
    ap (λ (b : Bool). cond b (run ∷ filter (λ run. nat_lt run.start d) (runs_from chain n (run_after chain run))) (filter (λ run. nat_lt run.start d) (runs_from chain n (run_after chain run)))) test ∙ rest

-- two counts that reach the duration keep the same runs
pub enough_runs : (chain : Chain) (d n m : ℕ) (run : Run) → IsChain chain → slice_get chain.legs run.place ≡ Some run.leg → d ≤ run.start + n → d ≤ run.start + m
    → filter (λ run. nat_lt run.start d) (runs_from chain n (Some run)) ≡ filter (λ run. nat_lt run.start d) (runs_from chain m (Some run))
enough_runs chain d zero m run is at reach reach' = sym (kept_none chain d m run is at (omega arith))
enough_runs chain d (suc n) zero run is at reach reach' = kept_none chain d (suc n) run is at (omega arith)
enough_runs chain d (suc n) (suc m) run is at reach reach' =
    let rest : filter (λ run. nat_lt run.start d) (runs_from chain n (run_after chain run)) ≡ filter (λ run. nat_lt run.start d) (runs_from chain m (run_after chain run)) =
    elim (run_after chain run) as (λ o. run_after chain run ≡ o → filter (λ run. nat_lt run.start d) (runs_from chain n o) ≡ filter (λ run. nat_lt run.start d) (runs_from chain m o)) [
      | None ↦ λ none. ap (filter (λ run. nat_lt run.start d)) (runs_none chain n ∙ sym (runs_none chain m))
      | Some next ↦ λ some.
          let f = follows chain run next some in
          let long = lasts_long chain run next is at f in
          enough_runs chain d n m next is f.leg_at (omega (arith, f.start_is)) (omega (arith, f.start_is))
    ] refl in
    ap (λ (rs : List Run). cond (nat_lt run.start d) (run ∷ rs) rs) rest

-- a run below the duration is the first of those that are kept
pub later_step : (chain : Chain) (d : ℕ) (run : Run) → IsChain chain → slice_get chain.legs run.place ≡ Some run.leg → run.start < d
    → later_runs chain d (Some run) ≡ run ∷ later_runs chain d (run_after chain run)
later_step chain zero run is at begun = absurd (omega arith)
later_step chain (suc d) run is at begun =
    let test : nat_lt run.start (suc d) ≡ true = grind (arith, nat_tests) in
    let rest : filter (λ run. nat_lt run.start (suc d)) (runs_from chain d (run_after chain run)) ≡ filter (λ run. nat_lt run.start (suc d)) (runs_from chain (suc d) (run_after chain run)) =
    elim (run_after chain run) as (λ o. run_after chain run ≡ o → filter (λ run. nat_lt run.start (suc d)) (runs_from chain d o) ≡ filter (λ run. nat_lt run.start (suc d)) (runs_from chain (suc d) o)) [
      | None ↦ λ none. ap (filter (λ run. nat_lt run.start (suc d))) (runs_none chain d)
      | Some next ↦ λ some.
          let f = follows chain run next some in
          let long = lasts_long chain run next is at f in
          enough_runs chain (suc d) d (suc d) next is f.leg_at (omega (arith, f.start_is)) (omega arith)
    ] refl in
    ap (λ (b : Bool). cond b (run ∷ filter (λ run. nat_lt run.start (suc d)) (runs_from chain d (run_after chain run))) (filter (λ run. nat_lt run.start (suc d)) (runs_from chain d (run_after chain run)))) test
    ∙ ap (λ (rs : List Run). run ∷ rs) rest
