-- A capture has one reading, and that of a written one is its packets.
use Rattle.std.proofs.Common.{◌≡◌, ℕ, ◌+◌, ◌*◌, ◌/◌, ◌%◌, ◌^◌, ◌<◌, ◌≤◌, false, List, [], ◌∷◌, ◌++◌, length, map, drop, refl, sym, ap, ◌∙◌, arith, Option, Some, None, Result, Ok, Err, append_assoc}
use Rattle.std.proofs.lemmas.Bool.Decides.{nat_tests}
use Rattle.std.proofs.lemmas.List.{drop_at}
use Rattle.std.specs.List.{flat_map}
use Rattle.byteorder.specs.Endian.{little_bytes}
use Rattle.byteorder.specs.Numbers.{little_number-reads_back}
use Rattle.trex_io.specs.Seen.{Seen}
use Rattle.trex_pcap.specs.declared.fault.CaptureFault.{CaptureFault}
use Rattle.trex_pcap.specs.declared.format.Format.{Format}
use Rattle.trex_pcap.specs.Reading.{Front, holds, front, head_fault, captured_in, number_at, seen, begin, opening, Holds, HoldsAfter, IsCapture}
use Rattle.trex_pcap.specs.Writing.{Packet, file_header, record_header_of, record_of, capture_of, seen_of, AllFit}
use Rattle.trex_pcap.proofs.Fronts.{front_none, front_record, begin_whole}

-- ---- one reading

-- two records at one front are one, and so is what follows them
one_front : (a : Front) (r s : Seen) (xs ys : List ℕ) → a ≡ holds r xs → a ≡ holds s ys → (r ≡ s) × (xs ≡ ys)
one_front a r s xs ys p q = (cc, cc)

-- from one place on there is one reading
holds_once : (f : Format) (before : ℕ) (left : List ℕ) (rs ss : List Seen) (d e : Option CaptureFault) → Holds f before left rs d → Holds f before left ss e → (rs ≡ ss) × (d ≡ e)
holds_once f before left [] [] None None p q = (refl, refl)
holds_once f before left [] [] None (Some e) p q = cc
holds_once f before left [] [] (Some d) None p q = cc
holds_once f before left [] [] (Some d) (Some e) p q = (refl, cc)
holds_once f before left [] (s ∷ ss) None e p (rest, q, more) = cc
holds_once f before left [] (s ∷ ss) (Some d) e p (rest, q, more) = cc
holds_once f before left (r ∷ rs) [] d None (rest, p, more) q = cc
holds_once f before left (r ∷ rs) [] d (Some e) (rest, p, more) q = cc
holds_once f before left (r ∷ rs) (s ∷ ss) d e (xs, p, more) (ys, q, others) =
    let same = one_front (front f before left) r s xs ys p q in
    let next = holds_once f (before + 1) xs rs ss d e more (rw same.1 others) in
    (cc (same.0, next.0), next.1)

after_once : (a : Result Format CaptureFault) (left : List ℕ) (rs ss : List Seen) (d e : Option CaptureFault) → HoldsAfter a left rs d → HoldsAfter a left ss e
    → (rs ≡ ss) × (d ≡ e)
after_once (Ok f) left rs ss d e p q = holds_once f 0 left rs ss d e p q
after_once (Err x) left rs ss d e p q = (cc, cc)

pub capture_once : (bytes : List ℕ) (rs ss : List Seen) (d e : Option CaptureFault) → IsCapture bytes rs d → IsCapture bytes ss e → (rs ≡ ss) × (d ≡ e)
capture_once bytes rs ss d e p q = after_once (begin bytes) (drop 24 bytes) rs ss d e p q

-- ---- what was written

-- four numbers of four bytes are read where they stand
module _ (a b c d : ℕ) where
  abbrev four : List ℕ
  four = little_bytes 4 a ++ little_bytes 4 b ++ little_bytes 4 c ++ little_bytes 4 d

  word_0 : a < 2 ^ 32 → number_at false 4 0 four ≡ a
  unfolding number_at
  word_0 h = little_number-reads_back 4 a (little_bytes 4 b ++ (little_bytes 4 c ++ little_bytes 4 d)) h

  word_4 : b < 2 ^ 32 → number_at false 4 4 four ≡ b
  unfolding number_at
  word_4 h = little_number-reads_back 4 b (little_bytes 4 c ++ little_bytes 4 d) h

  word_8 : c < 2 ^ 32 → number_at false 4 8 four ≡ c
  unfolding number_at
  word_8 h = little_number-reads_back 4 c (little_bytes 4 d) h

  word_12 : d < 2 ^ 32 → number_at false 4 12 four ≡ d
  unfolding number_at
  word_12 h = little_number-reads_back 4 d [] h

-- the format of captures that are written
abbrev written : Format
written = record { big = false; micro = false }

opens : opening file_header ≡ Ok written
unfolding opening file_header number_at
opens = refl

header_long : length file_header ≡ 24
unfolding file_header
header_long = refl

module _ (time size : ℕ) (in_time : time < 2 ^ 32 * 10 ^ 9) (short : size ≤ 262144) where
  no_fault : (n : ℕ) → head_fault written n (record_header_of time size) ≡ None
  unfolding head_fault record_header_of
  no_fault n =
      let fraction = word_4 (time / 10 ^ 9) (time % 10 ^ 9) size size (omega arith) in
      let captured = word_8 (time / 10 ^ 9) (time % 10 ^ 9) size size (omega arith) in
      rw (fraction, captured) (grind (arith, nat_tests))

  captures : captured_in written (record_header_of time size) ≡ size
  unfolding record_header_of
  captures = word_8 (time / 10 ^ 9) (time % 10 ^ 9) size size (omega arith)

  shows : (bytes : List ℕ) → seen written (record_header_of time size) bytes ≡ record { time = time; bytes = bytes; original = size }
  unfolding seen record_header_of
  shows bytes =
      let seconds = word_0 (time / 10 ^ 9) (time % 10 ^ 9) size size (omega arith) in
      let fraction = word_4 (time / 10 ^ 9) (time % 10 ^ 9) size size (omega arith) in
      let original = word_12 (time / 10 ^ 9) (time % 10 ^ 9) size size (omega arith) in
      let whole : time / 10 ^ 9 * 10 ^ 9 + time % 10 ^ 9 ≡ time = omega arith in
      rw (seconds, fraction, original, whole) refl

  long : length (record_header_of time size) ≡ 16
  unfolding record_header_of
  long = refl

-- from a place on, the records of packets read back as they were
packets_back : (ps : List Packet) (before : ℕ) → AllFit ps → before + length ps ≤ 100000000
    → Holds written before (flat_map record_of ps) (map seen_of ps) None
packets_back [] before fit few = front_none written before
packets_back (p ∷ ps) before (in_time, short, fit) few =
    let header = record_header_of p.time (length p.bytes) in
    let rest = flat_map record_of ps in (
      rest,
      ap (front written before) (append_assoc header p.bytes rest)
          ∙ front_record written before (omega arith) header (long p.time (length p.bytes) in_time short) p.bytes rest (no_fault p.time (length p.bytes) in_time short (before + 1)) (sym (captures p.time (length p.bytes) in_time short))
          ∙ ap (λ s. holds s rest) (shows p.time (length p.bytes) in_time short p.bytes),
      packets_back ps (before + 1) fit (omega arith),
    )

pub capture_back : (ps : List Packet) → AllFit ps → length ps ≤ 100000000 → IsCapture (capture_of ps) (map seen_of ps) None
capture_back ps fit few =
    let rest = flat_map record_of ps in
    rw (begin_whole file_header rest header_long ∙ opens, drop_at file_header rest 24 header_long) (packets_back ps 0 fit (omega arith))
