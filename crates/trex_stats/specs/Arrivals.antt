-- What is counted of the packets of a flow, in the order in which they came (RFC 4737; repeats, early packets and losses own).
use Rattle.std.specs.Prelude.{ℕ, ◌+◌, ◌-◌, min, max, Bool, not, ◌&&◌, nat_lt, if◌then◌else◌, List, [], ◌∷◌, ◌++◌, length, map, sum, count_by}
use Rattle.std.specs.List.{filter, fold, list_any, range_with_len}
use Rattle.trex_stats.specs.declared.arrival.Arrival.{Arrival}
use Rattle.trex_stats.specs.declared.line.FlowLine.{FlowLine}
use Rattle.trex_stats.specs.Ranges.{has}

-- their sequence numbers
abbrev pub sequences : List Arrival → List ℕ
sequences ps = map (λ a. a.sequence) ps

-- how many packets pass a test that sees the packets before each too
abbrev pub count_after : (List Arrival → Arrival → Bool) → List Arrival → List Arrival → ℕ
count_after test before [] = 0
count_after test before (a ∷ ps) = (if test before a then 1 else 0) + count_after test (before ++ a ∷ []) ps

-- an earlier packet has its number
abbrev pub is_duplicate : List Arrival → Arrival → Bool
is_duplicate before a = has (sequences before) a.sequence

-- it is no duplicate, and an earlier packet has a greater number (RFC 4737, section 3.3)
abbrev pub is_reordered : List Arrival → Arrival → Bool
is_reordered before a = not (is_duplicate before a) && list_any (nat_lt a.sequence) (sequences before)

-- it came before it was due
abbrev pub is_early : Arrival → Bool
is_early a = nat_lt a.came a.sent

-- how long the packets took that aren't early
abbrev pub latencies : List Arrival → List ℕ
latencies ps = map (λ a. a.came - a.sent) (filter (λ a. not (is_early a)) ps)

-- the least of some numbers, and 0 where there is none
abbrev pub least_of : List ℕ → ℕ
least_of [] = 0
least_of (x ∷ xs) = fold min x xs

-- the greatest of some numbers, and 0 where there is none
abbrev pub greatest_of : List ℕ → ℕ
greatest_of [] = 0
greatest_of (x ∷ xs) = max x (greatest_of xs)

-- how many numbers from 0 to the greatest aren't among some, and 0 where there is none
abbrev pub missing_of : List ℕ → ℕ
missing_of [] = 0
missing_of (x ∷ xs) = count_by (λ k. not (has (x ∷ xs) k)) (range_with_len 0 (greatest_of (x ∷ xs) + 1))

-- the line of a flow with these packets
unfoldable pub line_of : ℕ → List Arrival → FlowLine
line_of flow ps = record {
  flow = flow;
  received = length ps;
  duplicates = count_after is_duplicate [] ps;
  lost = missing_of (sequences ps);
  reordered = count_after is_reordered [] ps;
  early = count_by is_early ps;
  least = least_of (latencies ps);
  greatest = greatest_of (latencies ps);
  sum = sum (latencies ps);
}
