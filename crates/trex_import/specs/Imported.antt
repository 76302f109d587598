-- The text that is written for the records of a capture: a profile with a stream for each of them. Own; JSON is RFC 8259, base64 is RFC 4648,
-- section 4.
use Rattle.std.specs.Prelude.{ℕ, ◌+◌, ◌-◌, ◌/◌, ◌%◌, List, [], ◌∷◌, ◌++◌, codes, decimal}
use Rattle.std.specs.List.{join_with_byte}
use Rattle.base64.specs.Engines.{standard}
use Rattle.base64.specs.GeneralPurpose.{encode_of}
use Rattle.trex_io.specs.Seen.{Seen}

-- the time of the first record, in nanoseconds
abbrev pub first_time : List Seen → ℕ
first_time [] = 0
first_time (r ∷ rs) = r.time

-- what a function gives for each record: for its number, counted on from one, for its time since the first, and for its bytes
abbrev pub for_each : {A : Type 0} → (ℕ → ℕ → List ℕ → A) → ℕ → ℕ → List Seen → List A
for_each f start number [] = []
for_each f start number (r ∷ rs) = f number (r.time - start) r.bytes ∷ for_each f start (number + 1) rs

-- the three digits of a number below 1000
abbrev pub three_digits : ℕ → List ℕ
three_digits n = (48 + n / 100) ∷ (48 + n / 10 % 10) ∷ (48 + n % 10) ∷ []

-- nanoseconds as microseconds, with three digits after the point
abbrev pub microseconds : ℕ → List ℕ
microseconds ns = decimal (ns / 1000) ++ 46 ∷ three_digits (ns % 1000)

-- the text of an entry with a gap, a packet and an id
unfoldable pub entry_with : List ℕ → List ℕ → List ℕ → List ℕ
entry_with gap packet id =
    codes "{\"stream\":{\"isg\":\""
    ++ (gap
    ++ (codes "\",\"mode\":{\"rate\":{\"type\":\"pps\",\"value\":\"1000000000\"},\"total_pkts\":\"1\",\"type\":\"single_burst\"},\"packet\":{\"binary\":\""
    ++ (packet ++ (codes "\"}},\"stream_id\":\"" ++ (id ++ codes "\"}")))))

-- the entry of the stream of this id that sends these bytes once, so many nanoseconds from the start
abbrev pub entry_text : ℕ → ℕ → List ℕ → List ℕ
entry_text id ns bytes = entry_with (microseconds ns) (encode_of standard bytes) (decimal id)

-- An array with an entry for each record, in order: its id is the record's number, from 1, and its packet comes at the record's time since
-- the first.
abbrev pub imported : List Seen → List ℕ
imported records = 91 ∷ (join_with_byte 44 (for_each entry_text (first_time records) 1 records) ++ 93 ∷ [])
