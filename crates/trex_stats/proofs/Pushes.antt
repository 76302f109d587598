-- What one more packet makes of the counts of a flow.
use Rattle.std.proofs.Common.{◌≡◌, ℕ, ◌+◌, ◌-◌, ◌≤◌, min, max, Bool, false, not, ◌||◌, ◌&&◌, nat_eq, nat_lt, ◌==◌, List, [], ◌∷◌, ◌++◌, length, map, sum, count_by, refl, sym, ap, ◌∙◌, arith, append_assoc, append-nil, length-append, if◌then◌else◌}
use Rattle.std.proofs.Math.Bool.{or-false}
use Rattle.std.proofs.lemmas.Bool.{le-ltb, ne_eqb}
use Rattle.std.proofs.lemmas.List.{map-append}
use Rattle.std.proofs.lemmas.List.Elements.{filter-append}
use Rattle.std.proofs.lemmas.List.Sums.{sum_by-append, fold-append}
use Rattle.std.specs.BTreeSet.{insert_key}
use Rattle.std.specs.List.{filter, list_any}
use Rattle.std.specs.Ordering.{nat_cmp}
use Rattle.trex_stats.specs.declared.arrival.Arrival.{Arrival}
use Rattle.trex_stats.specs.declared.delays.Delays.{Delays}
use Rattle.trex_stats.specs.declared.order.Order.{Order}
use Rattle.trex_stats.specs.Arrivals.{sequences, count_after, is_duplicate, is_reordered, is_early, latencies, least_of, greatest_of}
use Rattle.trex_stats.specs.Kept.{AreOrder, AreDelays}
use Rattle.trex_stats.specs.Ranges.{has}
use Rattle.trex_stats.proofs.Members.{any_same, has-insert}
use Rattle.trex_stats.proofs.Spans.{has-append}

-- ---- counts

count_after-push : (test : List Arrival → Arrival → Bool) (before ps : List Arrival) (a : Arrival)
    → count_after test before (ps ++ a ∷ []) ≡ count_after test before ps + (if test (before ++ ps) a then 1 else 0)
count_after-push test before [] a = rw (append-nil before) (omega arith)
count_after-push test before (p ∷ ps) a =
    let rest = count_after-push test (before ++ p ∷ []) ps a in
    let same : ((before ++ p ∷ []) ++ ps) ≡ before ++ p ∷ ps = append_assoc before (p ∷ []) ps in
    omega (arith, rw same at rest)

count-push : {X : Type 0} (p : X → Bool) (xs : List X) (x : X) → count_by p (xs ++ x ∷ []) ≡ count_by p xs + (if p x then 1 else 0)
count-push p xs x = sum_by-append (λ y. if p y then 1 else 0) xs (x ∷ []) ∙ omega arith

-- ---- numbers

has-push : (ps : List Arrival) (a : Arrival) (q : ℕ) → has (sequences (ps ++ a ∷ [])) q ≡ (has (sequences ps) q || nat_eq q a.sequence)
has-push ps a q =
    ap (λ l. has l q) (map-append (λ b. b.sequence) ps (a ∷ []))
    ∙ has-append (sequences ps) (a.sequence ∷ []) q
    ∙ ap (λ b. has (sequences ps) q || b) (or-false (nat_eq q a.sequence))

-- the numbers and counts of order with one more packet
pub order_more : (o : Order) (ps : List Arrival) (a : Arrival) (number : ℕ) (seen : List ℕ) (duplicates reordered : ℕ)
    → AreOrder o ps → a.sequence ≡ number → seen ≡ insert_key nat_cmp o.seen number
    → duplicates ≡ o.duplicates + (if has o.seen number then 1 else 0)
    → reordered ≡ o.reordered + (if not (has o.seen number) && list_any (nat_lt number) o.seen then 1 else 0)
    → AreOrder (record { seen = seen; duplicates = duplicates; reordered = reordered }) (ps ++ a ∷ [])
order_more o ps a number seen duplicates reordered are is next dup late =
    let repeats : has o.seen number ≡ is_duplicate ps a = are.seen number ∙ ap (has (sequences ps)) (sym is) in
    let later : list_any (nat_lt number) o.seen ≡ list_any (nat_lt a.sequence) (sequences ps) =
    any_same (nat_lt number) o.seen (sequences ps) are.seen ∙ ap (λ n. list_any (nat_lt n) (sequences ps)) (sym is) in
    record {
      seen = λ q. ap (λ l. has l q) next ∙ has-insert o.seen number q ∙ ap (λ b. b || nat_eq q number) (are.seen q) ∙ ap (λ n. has (sequences ps) q || nat_eq q n) (sym is) ∙ sym (has-push ps a q);
      duplicates =
          dup ∙ ap (λ n. n + (if has o.seen number then 1 else 0)) are.duplicates
          ∙ ap (λ b. count_after is_duplicate [] ps + (if b then 1 else 0)) repeats
          ∙ sym (count_after-push is_duplicate [] ps a);
      reordered =
          late ∙ ap (λ n. n + (if not (has o.seen number) && list_any (nat_lt number) o.seen then 1 else 0)) are.reordered
          ∙ ap (λ b. count_after is_reordered [] ps + (if not b && list_any (nat_lt number) o.seen then 1 else 0)) repeats
          ∙ ap (λ b. count_after is_reordered [] ps + (if not (is_duplicate ps a) && b then 1 else 0)) later
          ∙ sym (count_after-push is_reordered [] ps a);
    }

-- ---- latencies

latencies-push : (ps : List Arrival) (a : Arrival) → latencies (ps ++ a ∷ []) ≡ latencies ps ++ latencies (a ∷ [])
latencies-push ps a =
    ap (map (λ b. b.came - b.sent)) (filter-append (λ b. not (is_early b)) ps (a ∷ []))
    ∙ map-append (λ b. b.came - b.sent) (filter (λ b. not (is_early b)) ps) (filter (λ b. not (is_early b)) (a ∷ []))

least-push : (xs : List ℕ) (x : ℕ) → least_of (xs ++ x ∷ []) ≡ (if length xs == 0 then x else min (least_of xs) x)
least-push [] x = refl
least-push (y ∷ ys) x = rw (ne_eqb (length (y ∷ ys)) 0 (omega arith)) (fold-append min y ys (x ∷ []))

greatest-push : (xs : List ℕ) (x : ℕ) → greatest_of (xs ++ x ∷ []) ≡ max (greatest_of xs) x
greatest-push [] x = omega arith
greatest-push (y ∷ ys) x = omega (arith, greatest-push ys x)

sum-push : (xs : List ℕ) (x : ℕ) → sum (xs ++ x ∷ []) ≡ sum xs + x
sum-push xs x = sum_by-append (λ y. y) xs (x ∷ []) ∙ omega arith

module _ (d : Delays) (ps : List Arrival) (a : Arrival) (are : AreDelays d ps) where
  -- the latencies with one more packet that isn't early
  pub delays_timely : (new : Delays) (latency : ℕ) → a.sent ≤ a.came → latency ≡ a.came - a.sent
      → new.early ≡ d.early → new.timely ≡ d.timely + 1 → new.least ≡ (if d.timely == 0 then latency else min d.least latency)
      → new.greatest ≡ max d.greatest latency → new.total ≡ d.total + latency → AreDelays new (ps ++ a ∷ [])
  delays_timely new latency due is early timely least greatest total =
      let on_time : is_early a ≡ false = le-ltb a.came a.sent due in
      let one : latencies (a ∷ []) ≡ latency ∷ [] = rw on_time (ap (λ l. l ∷ []) (sym is)) in
      let all : latencies (ps ++ a ∷ []) ≡ latencies ps ++ latency ∷ [] = latencies-push ps a ∙ ap (λ l. latencies ps ++ l) one in
      let none : ◌≡◌ {A = ℕ} (if is_early a then 1 else 0) 0 = rw on_time refl in
      record {
        early = omega (arith, early, are.early, count-push is_early ps a, none);
        timely = timely ∙ ap (λ n. n + 1) are.timely ∙ sym (length-append (latencies ps) (latency ∷ [])) ∙ ap length (sym all);
        least = least ∙ ap (λ n. if n == 0 then latency else min d.least latency) are.timely ∙ ap (λ n. if length (latencies ps) == 0 then latency else min n latency) are.least ∙ sym (least-push (latencies ps) latency) ∙ ap least_of (sym all);
        greatest = greatest ∙ ap (λ n. max n latency) are.greatest ∙ sym (greatest-push (latencies ps) latency) ∙ ap greatest_of (sym all);
        total = total ∙ ap (λ n. n + latency) are.total ∙ sym (sum-push (latencies ps) latency) ∙ ap sum (sym all);
      }
