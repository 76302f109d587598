-- The counts of packets that came as they were sent.
use Rattle.std.proofs.Common.{◌≡◌, ℕ, zero, suc, ◌+◌, min, false, nat_lt, List, [], ◌∷◌, ◌++◌, length, sum, count_by, refl, sym, ap, ◌∙◌, subst, arith, append-nil, if◌then◌else◌}
use Rattle.std.proofs.lemmas.Bool.{le-ltb}
use Rattle.std.proofs.lemmas.List.{map-append}
use Rattle.std.proofs.lemmas.List.FromFn.{length-range_with_len}
use Rattle.std.proofs.lemmas.List.Sums.{sum_by-cons}
use Rattle.std.specs.List.{AllByRecursion, fold, list_any, range_with_len}
use Rattle.trex_stats.specs.declared.arrival.Arrival.{Arrival}
use Rattle.trex_stats.specs.Arrivals.{sequences, count_after, is_duplicate, is_reordered, is_early, latencies, least_of, greatest_of, missing_of, line_of}
use Rattle.trex_stats.specs.Laws.{AreAsSent, clean_line}
use Rattle.trex_stats.specs.Ranges.{Rises}
use Rattle.trex_stats.proofs.Members.{gaps, none_above}
use Rattle.trex_stats.proofs.Spans.{has_after, has_inside, range-add, Rises-span, span_up_to}

-- ---- order

sequences-as_sent : (first : ℕ) (ps : List Arrival) → AreAsSent first ps → sequences ps ≡ range_with_len first (length ps)
sequences-as_sent first [] are = refl
sequences-as_sent first (a ∷ ps) (number, time, more) = rw number (ap (λ l. first ∷ l) (sequences-as_sent (first + 1) ps more))

one_more : (n : ℕ) → range_with_len 0 (n + 1) ≡ range_with_len 0 n ++ n ∷ []
one_more n =
    let here : 0 + n ≡ n = omega arith in
    range-add n 1 0 (n + 1) refl ∙ ap (λ a. range_with_len 0 n ++ a ∷ []) here

none_later : (n : ℕ) → list_any (nat_lt n) (range_with_len 0 n) ≡ false
none_later n = none_above n (range_with_len 0 n) (span_up_to n n 0 (omega arith))

-- behind packets with the numbers below, none is a repeat or late
in_order : (before ps : List Arrival) (first : ℕ) → sequences before ≡ range_with_len 0 first → AreAsSent first ps
    → (count_after is_duplicate before ps ≡ 0) × (count_after is_reordered before ps ≡ 0)
in_order before [] first were are = (refl, refl)
in_order before (a ∷ ps) first were (number, time, more) =
    let new : is_duplicate before a ≡ false = rw (were, number) (has_after first 0 first (omega arith)) in
    let next : sequences (before ++ a ∷ []) ≡ range_with_len 0 (first + 1) =
    map-append (λ b. b.sequence) before (a ∷ []) ∙ ap (λ l. l ++ a.sequence ∷ []) were ∙ ap (λ n. range_with_len 0 first ++ n ∷ []) number ∙ sym (one_more first) in
    let late : list_any (nat_lt a.sequence) (sequences before) ≡ false = rw (were, number) (none_later first) in
    let rest = in_order (before ++ a ∷ []) ps (first + 1) next more in
    (rw new (omega (arith, rest.0)), rw (new, late) (omega (arith, rest.1)))

nothing_missing : (n : ℕ) → missing_of (range_with_len 0 n) ≡ 0
nothing_missing zero = refl
nothing_missing (suc n) =
    let up : Rises 0 (range_with_len 0 (suc n) ++ []) = Rises-span (suc n) 0 [] tt in
    let rise : Rises 0 (range_with_len 0 (suc n)) = subst (Rises 0) (append-nil (range_with_len 0 (suc n))) up in
    let all = gaps (range_with_len 0 (suc n)) n rise (has_inside (suc n) 0 n (omega arith) (omega arith)) (span_up_to n (suc n) 0 (omega arith)) in
    omega (arith, all.0, length-range_with_len 0 (suc n))

-- ---- latencies

on_time : (first : ℕ) (ps : List Arrival) → AreAsSent first ps → (count_by is_early ps ≡ 0) × AllByRecursion (λ n. n ≡ 0) (latencies ps)
on_time first [] are = (refl, tt)
on_time first (a ∷ ps) (number, time, more) =
    let due : is_early a ≡ false = le-ltb a.came a.sent (omega arith) in
    let rest = on_time (first + 1) ps more in
    let none : ◌≡◌ {A = ℕ} (if is_early a then 1 else 0) 0 = rw due refl in
    let counted = sum_by-cons (λ b. if is_early b then 1 else 0) a ps in
    (omega (arith, none, counted, rest.0), rw due (omega arith, rest.1))

least_zero : (xs : List ℕ) → AllByRecursion (λ n. n ≡ 0) xs → fold min 0 xs ≡ 0
least_zero [] all = refl
least_zero (x ∷ xs) (here, all) =
    let none : min 0 x ≡ 0 = omega arith in
    rw none (least_zero xs all)

least_none : (xs : List ℕ) → AllByRecursion (λ n. n ≡ 0) xs → least_of xs ≡ 0
least_none [] all = refl
least_none (x ∷ xs) (here, all) = rw here (least_zero xs all)

greatest_none : (xs : List ℕ) → AllByRecursion (λ n. n ≡ 0) xs → greatest_of xs ≡ 0
greatest_none [] all = refl
greatest_none (x ∷ xs) (here, all) = omega (arith, greatest_none xs all)

sum_none : (xs : List ℕ) → AllByRecursion (λ n. n ≡ 0) xs → sum xs ≡ 0
sum_none [] all = refl
sum_none (x ∷ xs) (here, all) = sum_by-cons (λ y. y) x xs ∙ omega (arith, sum_none xs all)

pub clean : (flow : ℕ) (ps : List Arrival) → AreAsSent 0 ps → line_of flow ps ≡ clean_line flow (length ps)
unfolding line_of
clean flow ps are =
    let order = in_order [] ps 0 refl are in
    let lost : missing_of (sequences ps) ≡ 0 = ap missing_of (sequences-as_sent 0 ps are) ∙ nothing_missing (length ps) in
    let times = on_time 0 ps are in
    rw (order.0, lost, order.1, times.0, least_none (latencies ps) times.1, greatest_none (latencies ps) times.1, sum_none (latencies ps) times.1) refl
