-- The packets of a stream have all numbers from 0 on.
use Rattle.std.proofs.Common.{◌≡◌, ℕ, zero, suc, ◌+◌, ◌-◌, ◌*◌, ◌==◌, ◌<◌, ◌≤◌, nat_lt, Bool, true, false, cond, List, [], ◌∷◌, ◌++◌, length, map, unwrap_or, Option, Some, refl, sym, ap, ◌∙◌, subst, arith, inl, inr}
use Rattle.std.proofs.lemmas.Bool.{cases_Bool, cases_lt}
use Rattle.std.proofs.lemmas.Bool.Decides.{nat_tests}
use Rattle.std.proofs.lemmas.List.{append-nil}
use Rattle.std.proofs.lemmas.List.Elements.{filter-append}
use Rattle.std.proofs.lemmas.List.Sums.{sum_by-append, sum_by-cons}
use Rattle.std.proofs.Math.Nat.{add-mul}
use Rattle.std.specs.List.{AllByRecursion, count_by, flat_map, range_with_len, slice_get}
use Rattle.trex_merge.specs.Order.{AreApart, ComesBefore, EachPair, Has, IsRising, ordered}
use Rattle.trex_merge.proofs.OrderLemmas.{all_at, all-filter, filter-ordered, ordered_kept, pairs-filter}
use Rattle.trex_merge.proofs.ListLemmas.{all-append, pairs-append_right}
use Rattle.trex_sched.specs.declared.chain.Leg.{Leg}
use Rattle.trex_sched.specs.declared.run.Run.{Run}
use Rattle.trex_sched.specs.declared.slot.Slot.{Slot}
use Rattle.trex_sched.specs.Chain.{Chain, IsChain}
use Rattle.trex_sched.specs.Entries.{entries, key_of, run_entries, slot_of}
use Rattle.trex_sched.specs.Numbers.{AreNumbered, of_stream}
use Rattle.trex_sched.specs.Runs.{runs}
use Rattle.trex_sched.specs.Times.{HasPackets, size}
use Rattle.trex_sched.specs.Remaining.{IsReachable}
use Rattle.trex_sched.specs.Walks.{all_entries, HaveDistinctStreams}
use Rattle.trex_sched.proofs.RunLemmas.{all_get}
use Rattle.trex_sched.proofs.Offsets.{ends_together, offset_within}
use Rattle.trex_sched.proofs.Pairs.{all_kept, all_more, all_range}
use Rattle.trex_sched.proofs.Reached.{has_packets}
use Rattle.trex_sched.proofs.EntryOrder.{all_precede, all_reached, entries_distinct, entries_rising, entries_streams, one_place, Precedes}
use Rattle.trex_sched.proofs.Sent.{bound_of, entries_found, entries_late, entries_past}
use Rattle.trex_sched.proofs.Shares.{all_distinct, all_streams, apart_streams, legs_of, Name}
use Rattle.trex_sched.proofs.Visits.{runs_visits}

-- ---- numbered lists

-- two numbered lists of which the second goes on from the first
numbered_append : (first : ℕ) (xs ys : List Slot) → AreNumbered first xs → AreNumbered (first + length xs) ys → AreNumbered first (xs ++ ys)
numbered_append first [] ys mine other = let e : first + 0 ≡ first = omega arith in subst (λ n. AreNumbered n ys) e other
numbered_append first (x ∷ xs) ys mine other =
    let e : first + length (x ∷ xs) ≡ first + 1 + length xs = omega arith in
    (mine.0, numbered_append (first + 1) xs ys mine.1 (subst (λ n. AreNumbered n ys) e other))

-- ---- one run

-- the packets of a run are numbered from that of its first one on
run_numbered : (d : ℕ) (run : Run) (n k : ℕ) → HasPackets run.leg.mode → bound_of d run ≤ k + n
    → AreNumbered (run.visit * unwrap_or (size run.leg) 0 + k) (run_entries d run k)
run_numbered d run zero k some past =
    subst (AreNumbered (run.visit * unwrap_or (size run.leg) 0 + k)) (sym (entries_past d run k (omega arith))) tt
run_numbered d run (suc n) k some past =
    let before = run.visit * unwrap_or (size run.leg) 0 in
    elim (cases_lt k (bound_of d run)) [
      | inl within ↦ elim (cases_lt (slot_of run k).time d) [
        | inl early ↦
            let rest = run_numbered d run n (k + 1) some (omega arith) in
            let e : before + (k + 1) ≡ before + k + 1 = omega arith in
            subst (AreNumbered (before + k)) (sym (entries_found d run k within early)) (refl, subst (λ m. AreNumbered m (run_entries d run (k + 1))) e rest)
        | inr over ↦ subst (AreNumbered (before + k)) (sym (entries_late d run k some over)) tt
      ]
      | inr over ↦ subst (AreNumbered (before + k)) (sym (entries_past d run k over)) tt
    ]

-- a run of which each packet stands below the duration sends all its packets
run_whole : (d : ℕ) (run : Run) (n k : ℕ) → bound_of d run ≡ k + n → ((i : ℕ) → i < bound_of d run → (slot_of run i).time < d)
    → length (run_entries d run k) ≡ n
run_whole d run zero k bound early = ap length (entries_past d run k (omega arith))
run_whole d run (suc n) k bound early =
    let one = ap length (entries_found d run k (omega arith) (early k (omega arith))) in
    let rest = run_whole d run n (k + 1) (omega arith) early in
    omega (arith, one, rest)

-- where a later run starts below the duration, it sends all its packets
run_before : (chain : Chain) (d : ℕ) (run next : Run) → IsChain chain → IsReachable chain run → Precedes run next → next.start < d
    → length (run_entries d run 0) ≡ unwrap_or (size run.leg) 0
run_before chain d run next is reached p begun =
    let sized = ends_together run.leg.period run.leg.mode p.lasts p.ends in
    let n = sized.0 in
    let bound : bound_of d run ≡ n = ap (λ (o : Option ℕ). unwrap_or o d) sized.1 in
    let packets : unwrap_or (size run.leg) 0 ≡ n = ap (λ (o : Option ℕ). unwrap_or o 0) sized.1 in
    run_whole d run n 0 (omega arith) (λ i within.
    let inside = offset_within run.leg.period run.leg.mode i n p.lasts (has_packets chain run is reached) sized.1 p.ends (omega arith) in
    omega (arith, p.later))
    ∙ sym packets

-- all packets of a run are of its stream
run_streams : (d : ℕ) (run : Run) → AllByRecursion (λ slot. slot.stream ≡ run.leg.stream) (run_entries d run 0)
run_streams d run =
    all-filter (λ slot. slot.stream ≡ run.leg.stream) (λ slot. nat_lt slot.time d) (map (slot_of run) (range_with_len 0 (bound_of d run - 0)))
    (all_range (λ slot. slot.stream ≡ run.leg.stream) (slot_of run) 0 (bound_of d run - 0) (λ k low high. refl))

of_own : (s : ℕ) (slots : List Slot) → AllByRecursion (λ slot. slot.stream ≡ s) slots → of_stream s slots ≡ slots
of_own s [] all = refl
of_own s (x ∷ xs) all =
    let same = all.0 in
    let test : (x.stream == s) ≡ true = grind (arith, nat_tests) in
    ap (λ (b : Bool). cond b (x ∷ of_stream s xs) (of_stream s xs)) test ∙ ap (λ (rest : List Slot). x ∷ rest) (of_own s xs all.1)

of_other : (s : ℕ) (slots : List Slot) → AllByRecursion (λ slot. ¬ (slot.stream ≡ s)) slots → of_stream s slots ≡ []
of_other s [] all = refl
of_other s (x ∷ xs) all =
    let other = all.0 in
    let test : (x.stream == s) ≡ false = grind (arith, nat_tests) in
    ap (λ (b : Bool). cond b (x ∷ of_stream s xs) (of_stream s xs)) test ∙ of_other s xs all.1

-- ---- runs of a stream

-- a run is of a stream
abbrev is_of : ℕ → Run → Bool
is_of s run = run.leg.stream == s

-- how many packets a run of a stream has, 0 where it has no end or where no leg names the stream
abbrev packets_of : List Leg → ℕ → ℕ
packets_of [] s = 0
packets_of (leg ∷ legs) s = cond (leg.stream == s) (unwrap_or (size leg) 0) (packets_of legs s)

packets_at : (legs : List Leg) (place : ℕ) (leg : Leg) (s : ℕ) → EachPair (λ a b. ¬ (a.stream ≡ b.stream)) legs → slice_get legs place ≡ Some leg
    → leg.stream ≡ s → unwrap_or (size leg) 0 ≡ packets_of legs s
packets_at [] place leg s distinct at same = absurd cc
packets_at (l ∷ legs) zero leg s distinct at same =
    let is : l ≡ leg = cc in
    let named : l.stream ≡ s = ap (λ (x : Leg). x.stream) is ∙ same in
    let test : (l.stream == s) ≡ true = grind (arith, nat_tests) in
    sym (ap (λ (b : Bool). cond b (unwrap_or (size l) 0) (packets_of legs s)) test ∙ ap (λ (x : Leg). unwrap_or (size x) 0) is)
packets_at (l ∷ legs) (suc place) leg s distinct at same =
    let other : ¬ (l.stream ≡ leg.stream) = all_get (λ x. ¬ (l.stream ≡ x.stream)) legs place leg distinct.0 at in
    let test : (l.stream == s) ≡ false = grind (arith, nat_tests) in
    packets_at legs place leg s distinct.1 at same ∙ sym (ap (λ (b : Bool). cond b (unwrap_or (size l) 0) (packets_of legs s)) test)

-- two runs of a chain have one place where they have one stream
same_test : (chain : Chain) (a b : Run) → IsChain chain → IsReachable chain a → IsReachable chain b → (a.place == b.place) ≡ (a.leg.stream == b.leg.stream)
same_test chain a b is ra rb =
    elim (cases_Bool (a.place == b.place)) [
      | inl here ↦
          let place : a.place ≡ b.place = grind (arith, nat_tests) in
          let at : slice_get chain.legs a.place ≡ Some b.leg = ap (slice_get chain.legs) place ∙ rb.at_place in
          let was = ra.at_place in
          let leg : a.leg ≡ b.leg = cc in
          let stream : a.leg.stream ≡ b.leg.stream = ap (λ (l : Leg). l.stream) leg in
          let test : (a.leg.stream == b.leg.stream) ≡ true = grind (arith, nat_tests) in
          here ∙ sym test
      | inr apart ↦
          let places : ¬ (a.place ≡ b.place) = grind (arith, nat_tests) in
          let streams : ¬ (a.leg.stream ≡ b.leg.stream) = λ same. places (one_place chain.legs a.place b.place a.leg b.leg is.distinct ra.at_place rb.at_place same) in
          let test : (a.leg.stream == b.leg.stream) ≡ false = grind (arith, nat_tests) in
          apart ∙ sym test
    ]

same_count : (chain : Chain) (run : Run) (before : List Run) → IsChain chain → IsReachable chain run → AllByRecursion (IsReachable chain) before
    → count_by (λ earlier. earlier.place == run.place) before ≡ count_by (is_of run.leg.stream) before
same_count chain run [] is reached all = refl
same_count chain run (a ∷ before) is reached all =
    let rest = same_count chain run before is reached all.1 in
    let mine = sum_by-cons (λ (earlier : Run). cond {A = ℕ} (earlier.place == run.place) 1 0) a before in
    let other = sum_by-cons (λ (earlier : Run). cond {A = ℕ} (is_of run.leg.stream earlier) 1 0) a before in
    let here : cond {A = ℕ} (a.place == run.place) 1 0 ≡ cond {A = ℕ} (is_of run.leg.stream a) 1 0 =
    ap (λ (b : Bool). cond {A = ℕ} b 1 0) (same_test chain a run is all.0 reached) in
    mine ∙ (omega (arith, rest, here)) ∙ sym other

-- one run more is counted
count_push : (s : ℕ) (before : List Run) (run : Run) → count_by (is_of s) (before ++ run ∷ []) ≡ count_by (is_of s) before + cond {A = ℕ} (is_of s run) 1 0
count_push s before run =
    let both = sum_by-append (λ (r : Run). cond {A = ℕ} (is_of s r) 1 0) before (run ∷ []) in
    let one = sum_by-cons (λ (r : Run). cond {A = ℕ} (is_of s r) 1 0) run [] in
    omega (arith, both, one)

append_assoc : (xs : List Run) (x : Run) (ys : List Run) → xs ++ (x ∷ ys) ≡ (xs ++ x ∷ []) ++ ys
append_assoc [] x ys = refl
append_assoc (a ∷ xs) x ys = ap (λ (rest : List Run). a ∷ rest) (append_assoc xs x ys)

-- what some runs send of a stream
abbrev sent_of : ℕ → ℕ → List Run → List Slot
sent_of s d rs = of_stream s (flat_map (λ run. run_entries d run 0) rs)

sent_cons : (s d : ℕ) (run : Run) (rest : List Run) → sent_of s d (run ∷ rest) ≡ of_stream s (run_entries d run 0) ++ sent_of s d rest
sent_cons s d run rest = filter-append (λ slot. slot.stream == s) (run_entries d run 0) (flat_map (λ run. run_entries d run 0) rest)

-- a run of another stream sends nothing of the stream
sent_other : (s d : ℕ) (run : Run) (rest : List Run) → ¬ (run.leg.stream ≡ s) → sent_of s d (run ∷ rest) ≡ sent_of s d rest
sent_other s d run rest other =
    sent_cons s d run rest
    ∙ ap (λ (xs : List Slot). xs ++ sent_of s d rest)
    (of_other s (run_entries d run 0) (all_map (run_entries d run 0) (run_streams d run)))
  where
    all_map : (xs : List Slot) → AllByRecursion (λ slot. slot.stream ≡ run.leg.stream) xs → AllByRecursion (λ slot. ¬ (slot.stream ≡ s)) xs
    all_map [] all = tt
    all_map (x ∷ xs) all = ((λ same. other (sym all.0 ∙ same)), all_map xs all.1)

-- a run of the stream sends all that it sends
sent_own : (s d : ℕ) (run : Run) (rest : List Run) → run.leg.stream ≡ s → sent_of s d (run ∷ rest) ≡ run_entries d run 0 ++ sent_of s d rest
sent_own s d run rest own =
    sent_cons s d run rest
    ∙ ap (λ (xs : List Slot). xs ++ sent_of s d rest)
    (of_own s (run_entries d run 0) (subst (λ (n : ℕ). AllByRecursion (λ slot. slot.stream ≡ n) (run_entries d run 0)) own (run_streams d run)))

-- The runs from one on, where those before it are counted.
numbered_runs : (chain : Chain) (s m d : ℕ) (before after : List Run) → IsChain chain → runs chain d ≡ before ++ after
    → AllByRecursion (IsReachable chain) before → AllByRecursion (IsReachable chain) after → EachPair Precedes after
    → AllByRecursion (λ r. r.start < d) after → ((r : Run) → IsReachable chain r → r.leg.stream ≡ s → unwrap_or (size r.leg) 0 ≡ m)
    → AreNumbered (count_by (is_of s) before * m) (sent_of s d after)
numbered_runs chain s m d before [] is listed past reached pairs begun packets = tt
numbered_runs chain s m d before (run ∷ rest) is listed past reached pairs begun packets =
    let c = count_by (is_of s) before in
    let next = numbered_runs chain s m d (before ++ run ∷ []) rest is (listed ∙ append_assoc before run rest)
    (all-append (IsReachable chain) before (run ∷ []) past (reached.0, tt)) reached.1 pairs.1 begun.1 packets in
    let count = count_push s before run in
    elim (cases_Bool (is_of s run)) [
      | inl own ↦
          let named : run.leg.stream ≡ s = grind (arith, nat_tests) in
          let visit : run.visit ≡ c = runs_visits chain d before rest run is listed ∙ same_count chain run before is reached.0 past
          ∙ ap (λ (n : ℕ). count_by (is_of n) before) named in
          let size_is : unwrap_or (size run.leg) 0 ≡ m = packets run reached.0 named in
          let first : run.visit * unwrap_or (size run.leg) 0 + 0 ≡ c * m =
          (let e : run.visit * unwrap_or (size run.leg) 0 + 0 ≡ run.visit * unwrap_or (size run.leg) 0 = omega arith in e ∙ ap (λ (n : ℕ). n * unwrap_or (size run.leg) 0) visit ∙ ap (λ (n : ℕ). c * n) size_is) in
          let mine = subst (λ n. AreNumbered n (run_entries d run 0)) first (run_numbered d run (bound_of d run) 0 (has_packets chain run is reached.0) (omega arith)) in
          let one : cond {A = ℕ} (is_of s run) 1 0 ≡ 1 = ap (λ (b : Bool). cond {A = ℕ} b 1 0) own in
          let whole : (c + 1) * m ≡ c * m + 1 * m = add-mul c 1 m in
          let after : count_by (is_of s) (before ++ run ∷ []) * m ≡ (c + 1) * m = ap (λ (n : ℕ). n * m) (count ∙ ap (λ (n : ℕ). c + n) one) in
          subst (AreNumbered (c * m)) (sym (sent_own s d run rest named))
          (numbered_append (c * m) (run_entries d run 0) (sent_of s d rest) mine
          (later rest pairs.0 begun.1 (λ next_run p start. omega (arith, after, whole, size_is, run_before chain d run next_run is reached.0 p start)) next))
      | inr other ↦
          let apart : ¬ (run.leg.stream ≡ s) = grind (arith, nat_tests) in
          let none : cond {A = ℕ} (is_of s run) 1 0 ≡ 0 = ap (λ (b : Bool). cond {A = ℕ} b 1 0) other in
          let same : count_by (is_of s) (before ++ run ∷ []) * m ≡ c * m = ap (λ (n : ℕ). n * m) (count ∙ ap (λ (n : ℕ). c + n) none ∙ (omega arith)) in
          subst (AreNumbered (c * m)) (sym (sent_other s d run rest apart)) (subst (λ n. AreNumbered n (sent_of s d rest)) same next)
    ]
  where
    -- where there is a later run, the numbers after this one's are known
    later : (rs : List Run) → AllByRecursion (Precedes run) rs → AllByRecursion (λ r. r.start < d) rs
        → ((r : Run) → Precedes run r → r.start < d → count_by (is_of s) (before ++ run ∷ []) * m ≡ count_by (is_of s) before * m + length (run_entries d run 0))
        → AreNumbered (count_by (is_of s) (before ++ run ∷ []) * m) (sent_of s d rs)
        → AreNumbered (count_by (is_of s) before * m + length (run_entries d run 0)) (sent_of s d rs)
    later [] ps starts leads numbered = tt
    later (r ∷ rs) ps starts leads numbered = subst (λ n. AreNumbered n (sent_of s d (r ∷ rs))) (leads r ps.0 starts.0) numbered

-- the packets of a chain
pub entries_numbered : (chain : Chain) (d s : ℕ) → IsChain chain → AreNumbered 0 (of_stream s (entries chain d))
entries_numbered chain d s is =
    let none : 0 * packets_of chain.legs s ≡ 0 = omega arith in
    subst (λ n. AreNumbered n (sent_of s d (runs chain d))) none
    (numbered_runs chain s (packets_of chain.legs s) d [] (runs chain d) is refl tt (all_reached chain d is) (all_precede chain d)
    (all_kept (λ r. r.start < d) (λ r. nat_lt r.start d) _ (λ r test. grind (arith, nat_tests)))
    (λ r reached named. packets_at chain.legs r.place r.leg s is.distinct reached.at_place named))

-- ---- many chains

-- a part that has a packet is of a stream that a packet has
part_has : (s : ℕ) (slots : List Slot) (x : Slot) (rest : List Slot) → of_stream s slots ≡ x ∷ rest → (slot : Slot) × (Has slots slot × (slot.stream ≡ s))
part_has s [] x rest is = absurd cc
part_has s (a ∷ slots) x rest is =
    elim (cases_Bool (a.stream == s)) [
      | inl own ↦ (a, (inl refl, grind (arith, nat_tests)))
      | inr other ↦
          let skip : of_stream s (a ∷ slots) ≡ of_stream s slots = ap (λ (b : Bool). cond b (a ∷ of_stream s slots) (of_stream s slots)) other in
          let found = part_has s slots x rest (sym skip ∙ is) in
          (found.0, (inr found.1.0, found.1.1))
    ]

-- what holds of a stream's packets of one chain holds of those of all: no other chain has the stream
one_chain : (chains : List Chain) (d s : ℕ) (P : List Slot → Type 0) → P [] → ((chain : Chain) → IsChain chain → P (of_stream s (entries chain d)))
    → AllByRecursion IsChain chains → HaveDistinctStreams chains → P (of_stream s (all_entries chains d))
one_chain [] d s P none each are streams = none
one_chain (chain ∷ chains) d s P none each are streams =
    let mine = of_stream s (entries chain d) in
    let others = one_chain chains d s P none each are.1 (pairs-append_right (λ a b. ¬ (a.stream ≡ b.stream)) chain.legs (legs_of chains) streams) in
    subst P (sym (filter-append (λ slot. slot.stream == s) (entries chain d) (all_entries chains d)))
    (elim mine as (λ (xs : List Slot). of_stream s (entries chain d) ≡ xs → P (of_stream s (entries chain d) ++ of_stream s (all_entries chains d))) [
      | [] ↦ λ is. subst (λ (xs : List Slot). P (xs ++ of_stream s (all_entries chains d))) (sym is) others
      | x ∷ rest ↦ λ is.
          let found = part_has s (entries chain d) x rest is in
          let named : Name chain.legs s =
          subst (Name chain.legs) found.1.1 (all_at (λ slot. Name chain.legs slot.stream) (entries chain d) found.0 (entries_streams chain d are.0) (found.1).0) in
          let apart : of_stream s (all_entries chains d) ≡ [] =
          of_other s (all_entries chains d) (all_more (λ slot. Name (legs_of chains) slot.stream) (λ slot. ¬ (slot.stream ≡ s)) (all_entries chains d)
          (λ slot name same. apart_streams chain.legs (legs_of chains) s slot.stream streams named name (sym same))
          (all_streams chains d are.1 (λ chain is. entries_streams chain d is))) in
          subst P (sym (ap (λ (xs : List Slot). of_stream s (entries chain d) ++ xs) apart ∙ append-nil (of_stream s (entries chain d)))) (each chain are.0)
    ] refl)

-- the packets of many chains in order
pub all_numbered : (chains : List Chain) (d s : ℕ) → AllByRecursion IsChain chains → HaveDistinctStreams chains
    → AreNumbered 0 (of_stream s (ordered key_of (all_entries chains d)))
all_numbered chains d s are streams =
    let distinct = all_distinct chains d are streams (λ chain is. entries_streams chain d is) (λ chain is. entries_distinct chain d is) in
    let rising = one_chain chains d s (IsRising key_of) tt
    (λ chain is. pairs-filter (ComesBefore key_of) (λ slot. slot.stream == s) (entries chain d) (entries_rising chain d is)) are streams in
    let part : of_stream s (ordered key_of (all_entries chains d)) ≡ of_stream s (all_entries chains d) =
    filter-ordered key_of (λ slot. slot.stream == s) (all_entries chains d) distinct
    ∙ ordered_kept key_of (of_stream s (all_entries chains d)) (pairs-filter (AreApart key_of) (λ slot. slot.stream == s) (all_entries chains d) distinct) rising in
    subst (AreNumbered 0) (sym part) (one_chain chains d s (AreNumbered 0) tt (λ chain is. entries_numbered chain d s is) are streams)
