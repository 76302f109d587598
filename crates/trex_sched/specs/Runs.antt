-- The runs of a chain (own).
use Rattle.std.specs.Prelude.{ℕ, zero, suc, ◌+◌, ◌==◌, ◌&&◌, not, nat_lt, if◌then◌else◌, Bool, length, Option, None, Some, List, [], ◌∷◌}
use Rattle.std.specs.List.{filter, slice_get}
use Rattle.std.specs.Option.{option_map, option_and_then}
use Rattle.trex_sched.specs.declared.run.Run.{Run}
use Rattle.trex_sched.specs.Chain.{Chain}
use Rattle.trex_sched.specs.Times.{span}

-- the run of the leg at that place whose gap begins at time t
abbrev pub run_at : Chain → ℕ → ℕ → ℕ → Option Run
run_at chain place visit t =
    option_map (λ leg. record { place = place; leg = leg; visit = visit; start = t + leg.isg }) (slice_get chain.legs place)

-- After the last leg comes the one at back, in its next visit.
abbrev pub run_at_next : Chain → ℕ → ℕ → ℕ → Option Run
run_at_next chain place visit t =
    if nat_lt (place + 1) (length chain.legs) then run_at chain (place + 1) visit t
    else option_and_then (λ back. run_at chain back (visit + 1) t) chain.back

-- the run is the last one of its chain, by its leg's action count
abbrev pub is_last_visit : Run → Bool
is_last_visit run = not (run.leg.actions == 0) && (run.visit + 1 == run.leg.actions)

-- The next run, where there is one: the run ends, it isn't the chain's last visit, and a leg follows.
abbrev pub run_after : Chain → Run → Option Run
run_after chain run =
    if is_last_visit run then None
    else option_and_then (λ lasts. run_at_next chain run.place run.visit (run.start + lasts)) (span run.leg)

-- the first n runs from a run on
abbrev pub runs_from : Chain → ℕ → Option Run → List Run
runs_from chain zero run = []
runs_from chain (suc n) None = []
runs_from chain (suc n) (Some run) = run ∷ runs_from chain n (run_after chain run)

-- The runs from a run on that start below the duration. Each starts 1 ns or more after the one before it, so these are among the first d.
abbrev pub later_runs : Chain → ℕ → Option Run → List Run
later_runs chain d run = filter (λ run. nat_lt run.start d) (runs_from chain d run)

-- the runs of a chain that start below the duration
abbrev pub runs : Chain → ℕ → List Run
runs chain d = later_runs chain d (run_at chain 0 0 0)

-- a run that starts below a limit
abbrev pub run_below : ℕ → Run → Option Run
run_below limit run = if nat_lt run.start limit then Some run else None
