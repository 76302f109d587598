-- The latency headers both ways: what was spelled is found again, and what is found was spelled.
use Rattle.std.proofs.Common.{◌≡◌, ◌≢◌, ℕ, ◌+◌, ◌-◌, ◌/◌, ◌^◌, ◌<◌, ◌≤◌, Bool, true, false, nat_eq, nat_le, ◌&&◌, ◌%◌, if◌then◌else◌, None, List, [], ◌++◌, length, get_or, take, drop, refl, sym, ap, ◌∙◌, arith, Some, inl, inr, lit<}
use Rattle.std.specs.List.{starts_with}
use Rattle.std.proofs.lemmas.List.{append_assoc, length-append, length-take-le, length-drop, get_or-drop, drop_at, drop-drop, get_or-take, get_or_past, length-take, take-append-drop, take_all}
use Rattle.std.proofs.lemmas.Bool.{cases_lt, and_parts, leb-true}
use Rattle.std.proofs.lemmas.Bool.Decides.{Decides-eqb, nat_tests}
use Rattle.std.proofs.lemmas.Slice.Eq.{starts_is}
use Rattle.std.proofs.lemmas.Nat.{be_bytes_2, be_bytes_4, be_bytes_8}
use Rattle.std.proofs.Math.Seq.{drop-append_seam}
use Rattle.byteorder.specs.Endian.{big_bytes, big_number}
use Rattle.byteorder.specs.Numbers.{big_number-reads_back, big_from-take, length-bytes_high_first}
use Rattle.trex_stamp.specs.declared.header.Stamp.{Stamp}
use Rattle.trex_stamp.specs.declared.header.Version.{Version}
use Rattle.trex_stamp.specs.declared.header.Version.TheVariants.{One, Two}
use Rattle.trex_stamp.specs.Stamp.{IsStamp, ends_in, flow_place, flow_size, last_bytes, last_stamp, marks, sequence_place, sequence_size, size_of, spelled, stamp_bytes, stamp_of, time_place}
use Rattle.trex_stamp.proofs.StampLemmas.{length-stamp_bytes}

-- the numbers of a header are read back from it
spelled-stamp_bytes : (s : Stamp) → IsStamp s → spelled s.version (stamp_bytes s) ≡ s
spelled-stamp_bytes s fits =
    let v = s.version in
    let time = big_bytes 8 s.time in
    let sequence = big_bytes (sequence_size v) s.sequence ++ time in
    let flow = big_bytes (flow_size v) s.flow ++ sequence in
    let flow_is : drop (flow_place v) (stamp_bytes s) ≡ flow = drop-append_seam (marks v) flow in
    let sequence_is : drop (sequence_place v) (stamp_bytes s) ≡ sequence =
    sym (drop-drop (flow_size v) (flow_place v) (stamp_bytes s)) ∙ ap (drop (flow_size v)) flow_is
    ∙ drop_at (big_bytes (flow_size v) s.flow) sequence (flow_size v) (length-bytes_high_first (flow_size v) s.flow) in
    let time_is : drop (time_place v) (stamp_bytes s) ≡ time =
    sym (drop-drop (sequence_size v) (sequence_place v) (stamp_bytes s)) ∙ ap (drop (sequence_size v)) sequence_is
    ∙ drop_at (big_bytes (sequence_size v) s.sequence) time (sequence_size v) (length-bytes_high_first (sequence_size v) s.sequence) in
    same_numbers _ _ _ s
    (ap (big_number (flow_size v)) flow_is ∙ big_number-reads_back (flow_size v) s.flow sequence fits.flow)
    (ap (big_number (sequence_size v)) sequence_is ∙ big_number-reads_back (sequence_size v) s.sequence time fits.sequence)
    (ap (big_number 8) time_is ∙ big_number-reads_back 8 s.time [] fits.time)
  where
    same_numbers : (flow sequence time : ℕ) (s : Stamp) → flow ≡ s.flow → sequence ≡ s.sequence → time ≡ s.time
        → record { version = s.version; flow = flow; sequence = sequence; time = time } ≡ s
    same_numbers flow sequence time s f q t = rw (f, q, t) refl

-- the last bytes of a stamped packet are its header
last_bytes-stamped : (s : Stamp) (front : List ℕ) → last_bytes (size_of s.version) (front ++ stamp_bytes s) ≡ stamp_bytes s
last_bytes-stamped s front =
    drop_at front (stamp_bytes s) _ (omega (arith, length-append front (stamp_bytes s), length-stamp_bytes s))

-- a stamped packet ends in its header
ends_in-stamped : (s : Stamp) (front : List ℕ) → ends_in s.version (front ++ stamp_bytes s) ≡ true
ends_in-stamped s front =
    let v = s.version in
    let long : nat_le (size_of v) (length (front ++ stamp_bytes s)) ≡ true =
    grind (arith, nat_tests, length-append front (stamp_bytes s), length-stamp_bytes s) in
    let marked : starts_with nat_eq (last_bytes (size_of v) (front ++ stamp_bytes s)) (marks v) ≡ true =
    (starts_is Decides-eqb (last_bytes (size_of v) (front ++ stamp_bytes s)) (marks v) _ refl).1 _ (last_bytes-stamped s front) in
    rw (long, marked) refl

-- a sequence that doesn't begin with the marks of version 1, by its first two bytes
apart : (sequence : ℕ) → sequence < 2 ^ 64 → sequence / 2 ^ 48 ≢ 0xab01
    → (nat_eq 0xab (sequence / 2 ^ 56 % 256) && (nat_eq 1 (sequence / 2 ^ 48 % 256) && true)) ≡ false
apart sequence fits other = grind (arith, nat_tests)

-- version 1 isn't seen in a header of version 2 whose sequence doesn't begin with its marks
ends_in-one : (flow sequence time : ℕ) (front : List ℕ) → sequence < 2 ^ 64 → sequence / 2 ^ 48 ≢ 0xab01
    → ends_in One (front ++ stamp_bytes (record { version = Two; flow = flow; sequence = sequence; time = time })) ≡ false
ends_in-one flow sequence time front fits other =
    let before = front ++ (marks Two ++ big_bytes 4 flow) in
    let last = big_bytes 8 sequence ++ big_bytes 8 time in
    let packet = front ++ stamp_bytes (record { version = Two; flow = flow; sequence = sequence; time = time }) in
    let split : before ++ last ≡ packet = append_assoc front (marks Two ++ big_bytes 4 flow) last in
    let tail : last_bytes 16 (before ++ last) ≡ last = drop_at before last _ (omega (arith, length-append before last)) in
    let unmarked : starts_with nat_eq (last_bytes 16 packet) (marks One) ≡ false =
    ap (λ (b : List ℕ). starts_with nat_eq (last_bytes 16 b) (marks One)) (sym split)
    ∙ ap (λ (b : List ℕ). starts_with nat_eq b (marks One)) tail ∙ apart sequence fits other in
    both_false (nat_le 16 (length packet)) _ unmarked
  where
    both_false : (a b : Bool) → b ≡ false → (a && b) ≡ false
    both_false true b is = is
    both_false false b is = refl

-- a packet that ends in a header of version 1 has that stamp
finds_one : (packet : List ℕ) (s : Stamp) → ends_in One packet ≡ true → last_stamp One packet ≡ s → stamp_of packet ≡ Some s
finds_one packet s ends is =
    ap (λ (b : Bool). if b then Some (last_stamp One packet) else (if ends_in Two packet then Some (last_stamp Two packet) else None)) ends ∙ ap (λ (s : Stamp). Some s) is

-- a packet that ends in a header of version 2, and not in one of version 1, has that stamp
finds_two : (packet : List ℕ) (s : Stamp) → ends_in One packet ≡ false → ends_in Two packet ≡ true → last_stamp Two packet ≡ s → stamp_of packet ≡ Some s
finds_two packet s other ends is =
    ap (λ (b : Bool). if b then Some (last_stamp One packet) else (if ends_in Two packet then Some (last_stamp Two packet) else None)) other
    ∙ ap (λ (b : Bool). if b then Some (last_stamp Two packet) else None) ends ∙ ap (λ (s : Stamp). Some s) is

-- the stamp that a stamped packet's last bytes spell
last_stamp-stamped : (s : Stamp) (front : List ℕ) → IsStamp s → last_stamp s.version (front ++ stamp_bytes s) ≡ s
last_stamp-stamped s front fits = ap (spelled s.version) (last_bytes-stamped s front) ∙ spelled-stamp_bytes s fits

-- a spelled header behind any bytes is found again, by its version
found_by : (v : Version) (s : Stamp) (front : List ℕ) → s.version ≡ v → IsStamp s → (s.version ≡ Two → s.sequence / 2 ^ 48 ≢ 0xab01)
    → stamp_of (front ++ stamp_bytes s) ≡ Some s
found_by One s front is fits other =
    let packet = front ++ stamp_bytes s in
    finds_one packet s
    (ap (λ (v : Version). ends_in v packet) (sym is) ∙ ends_in-stamped s front)
    (ap (λ (v : Version). last_stamp v packet) (sym is) ∙ last_stamp-stamped s front fits)
found_by Two s front is fits other =
    let packet = front ++ stamp_bytes s in
    let small : s.sequence < 2 ^ 64 = rw is at fits.sequence in
    let apart = ends_in-one s.flow s.sequence s.time front small (other is) in
    finds_two packet s
    (ap (λ (v : Version). ends_in One (front ++ stamp_bytes (record { version = v; flow = s.flow; sequence = s.sequence; time = s.time }))) is ∙ apart)
    (ap (λ (v : Version). ends_in v packet) (sym is) ∙ ends_in-stamped s front)
    (ap (λ (v : Version). last_stamp v packet) (sym is) ∙ last_stamp-stamped s front fits)

-- a spelled header behind any bytes is found again
pub found_again : (s : Stamp) (front : List ℕ) → IsStamp s → (s.version ≡ Two → s.sequence / 2 ^ 48 ≢ 0xab01) → stamp_of (front ++ stamp_bytes s) ≡ Some s
found_again s front fits other = found_by s.version s front refl fits other

-- a part of some bytes has bytes
small_take : (n : ℕ) (bytes : List ℕ) → ((i : ℕ) → get_or bytes i 0 < 256) → (i : ℕ) → get_or (take n bytes) i 0 < 256
small_take n bytes small i = elim (cases_lt i n) [
  | inl within ↦ rw (get_or-take n bytes i 0 within) (small i)
  | inr past ↦ rw (get_or_past (take n bytes) i 0 (omega (arith, length-take n bytes))) (lit< tt)
]

-- bytes of a part of some bytes
pub small_drop : (n : ℕ) (bytes : List ℕ) → ((i : ℕ) → get_or bytes i 0 < 256) → (i : ℕ) → get_or (drop n bytes) i 0 < 256
small_drop n bytes small i = rw (get_or-drop n bytes i 0) (small (n + i))

-- the number of the first 2, 4 or 8 bytes, spelled, is those bytes
spelled_2 : (bytes : List ℕ) → 2 ≤ length bytes → ((i : ℕ) → get_or bytes i 0 < 256) → big_bytes 2 (big_number 2 bytes) ≡ take 2 bytes
spelled_2 bytes room small =
    be_bytes_2 (take 2 bytes) _ (length-take-le 2 bytes room) (small_take 2 bytes small) (sym (big_from-take 0 2 2 bytes (omega arith)) ∙ omega arith)

spelled_4 : (bytes : List ℕ) → 4 ≤ length bytes → ((i : ℕ) → get_or bytes i 0 < 256) → big_bytes 4 (big_number 4 bytes) ≡ take 4 bytes
spelled_4 bytes room small =
    be_bytes_4 (take 4 bytes) _ (length-take-le 4 bytes room) (small_take 4 bytes small) (sym (big_from-take 0 4 4 bytes (omega arith)) ∙ omega arith)

spelled_8 : (bytes : List ℕ) → 8 ≤ length bytes → ((i : ℕ) → get_or bytes i 0 < 256) → big_bytes 8 (big_number 8 bytes) ≡ take 8 bytes
spelled_8 bytes room small =
    be_bytes_8 (take 8 bytes) _ (length-take-le 8 bytes room) (small_take 8 bytes small) (sym (big_from-take 0 8 8 bytes (omega arith)) ∙ omega arith)

-- the bytes from a place on are a number's, and those behind it
split_at : (place n : ℕ) (h : List ℕ) → big_bytes n (big_number n (drop place h)) ≡ take n (drop place h)
    → drop place h ≡ big_bytes n (big_number n (drop place h)) ++ drop (place + n) h
split_at place n h spells =
    sym (take-append-drop n (drop place h)) ∙ ap (λ (r : List ℕ). take n (drop place h) ++ r) (drop-drop n place h)
    ∙ ap (λ (b : List ℕ). b ++ drop (place + n) h) (sym spells)

-- the flow's number, spelled, is its bytes, and likewise the sequence's
spelled_flow : (v : Version) (bytes : List ℕ) → flow_size v ≤ length bytes → ((i : ℕ) → get_or bytes i 0 < 256)
    → big_bytes (flow_size v) (big_number (flow_size v) bytes) ≡ take (flow_size v) bytes
spelled_flow One bytes room small = spelled_2 bytes room small
spelled_flow Two bytes room small = spelled_4 bytes room small

spelled_sequence : (v : Version) (bytes : List ℕ) → sequence_size v ≤ length bytes → ((i : ℕ) → get_or bytes i 0 < 256)
    → big_bytes (sequence_size v) (big_number (sequence_size v) bytes) ≡ take (sequence_size v) bytes
spelled_sequence One bytes room small = spelled_4 bytes room small
spelled_sequence Two bytes room small = spelled_8 bytes room small

-- the time is the last of a header
time_is_last : (v : Version) → time_place v + 8 ≡ size_of v
time_is_last One = refl
time_is_last Two = refl

-- bytes that begin with a version's marks, as many as its header has, are the header of the stamp that they spell
stamp_bytes-spelled : (v : Version) (h : List ℕ) → length h ≡ size_of v → ((i : ℕ) → get_or h i 0 < 256) → starts_with nat_eq h (marks v) ≡ true
    → h ≡ stamp_bytes (spelled v h)
stamp_bytes-spelled v h long small marked =
    let last = time_is_last v in
    let flow = flow_place v in
    let sequence = sequence_place v in
    let time = time_place v in
    let first : h ≡ marks v ++ drop flow h = (starts_is Decides-eqb h (marks v) _ refl).0 marked in
    let flow_is = split_at flow (flow_size v) h (spelled_flow v (drop flow h) (omega (arith, length-drop flow h)) (small_drop flow h small)) in
    let sequence_is = split_at sequence (sequence_size v) h (spelled_sequence v (drop sequence h) (omega (arith, length-drop sequence h)) (small_drop sequence h small)) in
    let time_is : drop time h ≡ big_bytes 8 (big_number 8 (drop time h)) =
    sym (spelled_8 (drop time h) (omega (arith, length-drop time h)) (small_drop time h small) ∙ take_all 8 (drop time h) (omega (arith, length-drop time h))) in
    first ∙ ap (λ (r : List ℕ). marks v ++ r) (flow_is ∙ ap (λ (r : List ℕ). big_bytes (flow_size v) (big_number (flow_size v) (drop flow h)) ++ r)
    (sequence_is ∙ ap (λ (r : List ℕ). big_bytes (sequence_size v) (big_number (sequence_size v) (drop sequence h)) ++ r) time_is))

-- a packet that ends in a header ends in the header of the stamp that was found
pub last_bytes-spelled : (v : Version) (packet : List ℕ) → ((i : ℕ) → get_or packet i 0 < 256) → ends_in v packet ≡ true
    → last_bytes (size_of v) packet ≡ stamp_bytes (last_stamp v packet)
last_bytes-spelled v packet small ends =
    let both = and_parts (nat_le (size_of v) (length packet)) _ ends in
    let long = leb-true (size_of v) (length packet) both.0 in
    stamp_bytes-spelled v (last_bytes (size_of v) packet) (omega (arith, length-drop (length packet - size_of v) packet))
    (small_drop (length packet - size_of v) packet small) both.1
