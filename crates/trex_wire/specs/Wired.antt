-- What a wire gives of the records that it is sent, by the words of a seed (PCG XSL RR 128/64). Own.
use Rattle.std.specs.Prelude.{ℕ, ◌+◌, ◌*◌, ◌/◌, ◌%◌, ◌^◌, ◌≤◌, ◌==◌, nat_lt, if◌then◌else◌, Option, Some, None, List, [], ◌∷◌, ◌++◌, length, map}
use Rattle.std.specs.List.{range_with_len, slice_get}
use Rattle.trex_io.specs.Seen.{Seen}
use Rattle.trex_merge.specs.declared.key.Key.{Key}
use Rattle.trex_merge.specs.Order.{ordered}
use Rattle.trex_vars.specs.Value.{word_at}
use Rattle.trex_wire.specs.declared.spec.WireCounts.{WireCounts}
use Rattle.trex_wire.specs.declared.spec.WireSpec.{WireSpec}

-- what is asked lies in its ranges
pub record IsAsk (ask : WireSpec) : Type 0 where
  pub loss : ask.loss ≤ 1000000
  pub copy : ask.copy ≤ 1000000
  pub delay : ask.delay ≤ 10 ^ 18

-- how many copies of a record arrive, by its word: none of a lost one, two of one that is copied, else one
abbrev pub copies_by : WireSpec → ℕ → ℕ
copies_by ask w =
    if nat_lt (w % 1000000) ask.loss then 0
    else if nat_lt (w / 1000000 % 1000000) ask.copy then 2
    else 1

-- when a copy of a record of this time arrives, by the copy's word
abbrev pub comes_by : WireSpec → ℕ → ℕ → ℕ
comes_by ask time w = time + w % (ask.delay + 1)

-- how many copies of record i arrive, of the records that are sent, from 0 on
abbrev pub copies : WireSpec → ℕ → ℕ
copies ask i = copies_by ask (word_at ask.seed 0 (3 * i))

-- when copy j of record i arrives, where the record has this time
abbrev pub comes : WireSpec → ℕ → ℕ → ℕ → ℕ
comes ask i time j = comes_by ask time (word_at ask.seed 0 (3 * i + 1 + j))

-- copy j of record i as it arrives: by its time, then by the copy, then by the record
abbrev pub arrival : WireSpec → ℕ → ℕ → ℕ → Key
arrival ask i time j = record { time = comes ask i time j; stream = j; number = i }

-- what arrives of some records, of which the first is record i
abbrev pub arrivals : WireSpec → ℕ → List Seen → List Key
arrivals ask i [] = []
arrivals ask i (r ∷ rs) = map (arrival ask i r.time) (range_with_len 0 (copies ask i)) ++ arrivals ask (i + 1) rs

-- a record, as it arrives at a time
abbrev pub seen_then : ℕ → Option Seen → Seen
seen_then time None = record { time = time; bytes = []; original = 0 }
seen_then time (Some r) = record { time = time; bytes = r.bytes; original = r.original }

-- what arrives, with the bytes and the original length of its record
abbrev pub seen_at : List Seen → Key → Seen
seen_at rs k = seen_then k.time (slice_get rs k.number)

-- what a wire gives of the records that it is sent: all that arrives, in rising order of time, then copy, then record
abbrev pub wired : List Seen → WireSpec → List Seen
wired rs ask = map (seen_at rs) (ordered (λ k. k) (arrivals ask 0 rs))

-- how many of some records have so many copies, where the first is record i
abbrev pub with_copies : ℕ → WireSpec → ℕ → List Seen → ℕ
with_copies n ask i [] = 0
with_copies n ask i (r ∷ rs) = (if copies ask i == n then 1 else 0) + with_copies n ask (i + 1) rs

-- what a copy of a record adds to the bytes, by the copy and the record's word: nothing where the record has fewer copies
abbrev pub bytes_by : ℕ → WireSpec → ℕ → ℕ → ℕ
bytes_by j ask w captured = if nat_lt j (copies_by ask w) then captured else 0

-- the captured bytes of all that arrives of some records, where the first is record i
abbrev pub bytes_of : WireSpec → ℕ → List Seen → ℕ
bytes_of ask i [] = 0
bytes_of ask i (r ∷ rs) =
    let w = word_at ask.seed 0 (3 * i) in
    bytes_by 0 ask w (length r.bytes) + bytes_by 1 ask w (length r.bytes) + bytes_of ask (i + 1) rs

-- the numbers of a wire that is sent these records
abbrev pub wire_counts : List Seen → WireSpec → WireCounts
wire_counts rs ask = record {
  sent = length rs;
  lost = with_copies 0 ask 0 rs;
  copied = with_copies 2 ask 0 rs;
  arrived = length (wired rs ask);
}
