-- What an instruction writes, what stays, and why its header verifies. Each law goes by the instruction here, and lists are inductions that
-- never look into one.
use Rattle.std.proofs.Common.{◌≡◌, ℕ, ◌+◌, ◌-◌, ◌*◌, ◌/◌, ◌%◌, ◌==◌, ◌<◌, ◌≤◌, ◌⊎◌, inl, inr, List, [], ◌∷◌, ◌++◌, length, get_or, take, drop, refl, sym, ap, ◌∙◌, arith, cond, Bool, true, false, not, nat_le, nat_lt, ◌&&◌, Option, Some, None, IfSome, IsSomeAnd}
use Rattle.std.proofs.lemmas.Bool.{cases_lt, false≢true, and_parts, and_from, not-false, not_from_true, leb-true, le-leb, lt-ltb, le-ltb, ltb-false, eqb-true}
use Rattle.std.proofs.lemmas.List.{drop-drop}
use borrow.Rule.Slice.PartMut.{put_mid}
use Rattle.std.specs.List.{AllByRecursion, slice_range}
use Rattle.std.specs.Option.{option_map_or}
use Rattle.byteorder.specs.Endian.{big_bytes}
use Rattle.byteorder.specs.Numbers.{length-bytes_high_first, length-bytes_low_first}
use Rattle.trex_sum.specs.Checksum.{sum_of, fold_of}
use Rattle.trex_fields.specs.Bytes.{put}
use Rattle.trex_fields.proofs.BytesLemmas.{length-put, get_or-put_before, get_or-put_after, put-put, slice_range-same}
use Rattle.trex_vars.specs.declared.value.VarValue.{VarValue}
use Rattle.trex_headers.specs.declared.layer.Version.{Version as IpVersion}
use Rattle.trex_headers.specs.declared.layer.Version.TheVariants.{V4}
use Rattle.trex_headers.specs.Network.{network_of}
use Rattle.trex_vm.specs.declared.instr.L4Kind.{L4Kind}
use Rattle.trex_vm.specs.declared.instr.L4Kind.TheVariants.{Tcp, Udp}
use Rattle.trex_vm.specs.declared.effect.Fix.{Fix}
use Rattle.trex_vm.specs.declared.effect.Fix.TheVariants.{Header, Segment}
use Rattle.trex_vm.specs.declared.effect.Span.{Span}
use Rattle.trex_vm.specs.declared.instr.Instr.{Instr}
use Rattle.trex_vm.specs.declared.instr.Instr.TheVariants.{Write, WriteMask}
use Rattle.trex_vm.specs.Effect.{end_of, write_of, fix_of, changed, span_of, writes_byte}
use Rattle.trex_vm.specs.Fix.{with_checksum, network_length, header_length, header_at, written_sum, least_segment, protocol_of, sum_place, left_for_segment, segment_length, segment_fits, segment_at, pseudo_header, field_of, fixed, header_of, ip_version, protocol_place}
use Rattle.trex_vm.specs.Write.{bytes_in, sum_in, shifted, masked, number_at}
use Rattle.trex_vm.specs.Packet.{after, after_all}
use Rattle.trex_vm.specs.Cover.{IsWithin, IsOfPseudoHeader, Covers, CoversByte, CoversSegment, FixVerifies, HeaderVerifies}
use Rattle.trex_vm.specs.Rules.{writes_past, number_of, has_network, finds_header, misses_header}
use Rattle.trex_sum.proofs.ChecksumLemmas.{Completes-plain}
use Rattle.trex_vm.proofs.Fixed.{places, Completes-written_sum, HoldsField-header_at, HoldsField-segment_at, with_checksum-verifies, segment_fits-tells, number-same, pseudo_header-same, sum_place-within}

-- some bytes are put there, and the others are as they were
pub record Puts (span : Span) (b c : List ℕ) : Type 0 where
  pub new : List ℕ
  pub long : length new ≡ span.size
  pub is : c ≡ put span.at new b

length-bytes_in : (big : Bool) (size n : ℕ) → length (bytes_in big size n) ≡ size
length-bytes_in true size n = length-bytes_high_first size n
length-bytes_in false size n = length-bytes_low_first 0 size n

Puts-with_checksum : (written : ℕ → ℕ) (part : List ℕ → List ℕ) (field : ℕ) (b : List ℕ) → field + 2 ≤ length b → Puts (record { at = field; size = 2 }) b (with_checksum written part field b)
unfolding with_checksum
Puts-with_checksum written part field b room =
    let zeroed = put field (0 ∷ 0 ∷ []) b in
    let n = written (65535 - fold_of (sum_of (part zeroed))) in
    record { new = big_bytes 2 n; long = refl; is = put-put field (big_bytes 2 n) (0 ∷ 0 ∷ []) b room refl }

Puts-if : (span : Span) (b c : List ℕ) (t : Bool) → Puts span b c → (cond t c b ≡ b) ⊎ Puts span b (cond t c b)
Puts-if span b c true puts = inr puts
Puts-if span b c false puts = inl refl

-- a fix leaves the bytes, or writes its field
fixed-puts : (fix : Fix) (b : List ℕ) → end_of (field_of fix) ≤ length b → (fixed fix b ≡ b) ⊎ Puts (field_of fix) b (fixed fix b)
fixed-puts (Header at) b room = inr (Puts-with_checksum (λ n. n) (header_at at) (at + 10) b room)
fixed-puts (Segment version ip header kind) b room =
    Puts-if (field_of (Segment version ip header kind)) b _ (segment_fits version kind ip header b)
    (Puts-with_checksum (written_sum kind) (segment_at version kind ip header) (ip + header + sum_place kind) b room)

maybe_fixed-puts : (fix : Option Fix) (b : List ℕ) → end_of (changed None fix) ≤ length b
    → (option_map_or (λ it. fixed it b) fix b ≡ b) ⊎ Puts (changed None fix) b (option_map_or (λ it. fixed it b) fix b)
maybe_fixed-puts None b room = inl refl
maybe_fixed-puts (Some fix) b room = fixed-puts fix b room

-- an instruction leaves the bytes, or writes its own
pub after-puts : (values : List VarValue) (i : Instr) (b : List ℕ) → end_of (span_of i) ≤ length b → (after values i b ≡ b) ⊎ Puts (span_of i) b (after values i b)
after-puts values (Write from at add big) b room =
    let n = sum_in values from add in inr (record { new = bytes_in big from.size n; long = length-bytes_in big from.size n; is = refl })
after-puts values (WriteMask from at cast mask shift add big) b room =
    let n = masked mask (shifted shift (sum_in values from add)) (number_at big cast at b) in
    inr (record { new = bytes_in big cast n; long = length-bytes_in big cast n; is = refl })
after-puts values i b room = maybe_fixed-puts (fix_of i) b room

-- an instruction keeps the bytes' number
pub length-after : (values : List VarValue) (i : Instr) (b : List ℕ) → end_of (span_of i) ≤ length b → length (after values i b) ≡ length b
length-after values i b room =
    elim (after-puts values i b room) [
      | inl same ↦ ap length same
      | inr puts ↦ ap length puts.is ∙ length-put (span_of i).at puts.new b (omega (arith, puts.long))
    ]

-- a byte that an instruction doesn't write stays
pub get_or-after : (values : List VarValue) (i : Instr) (b : List ℕ) (k : ℕ) → end_of (span_of i) ≤ length b → writes_byte i k ≡ false
    → get_or (after values i b) k 0 ≡ get_or b k 0
get_or-after values i b k room not_it =
    elim (after-puts values i b room) [
      | inl same ↦ ap (λ (c : List ℕ). get_or c k 0) same
      | inr puts ↦ ap (λ (c : List ℕ). get_or c k 0) puts.is ∙ stays puts (cases_lt k (span_of i).at) (cases_lt k (end_of (span_of i)))
    ]
  where
    stays : (puts : Puts (span_of i) b (after values i b)) → (k < (span_of i).at) ⊎ ((span_of i).at ≤ k) → (k < end_of (span_of i)) ⊎ (end_of (span_of i) ≤ k)
        → get_or (put (span_of i).at puts.new b) k 0 ≡ get_or b k 0
    stays puts (inl before) high = get_or-put_before (span_of i).at puts.new b k 0 (omega (arith, puts.long)) before
    stays puts (inr above) (inl below) = absurd (false≢true (sym not_it ∙ and_from (nat_le (span_of i).at k) (nat_lt k (end_of (span_of i))) (le-leb (span_of i).at k above) (lt-ltb k (end_of (span_of i)) below)))
    stays puts (inr above) (inr behind) = get_or-put_after (span_of i).at puts.new b k 0 (omega (arith, puts.long)) (omega (arith, puts.long))

-- instructions keep the bytes' number
pub length-after_all : (values : List VarValue) (instrs : List Instr) (b : List ℕ) (n : ℕ) → AllByRecursion (λ i. end_of (span_of i) ≤ n) instrs → n ≤ length b
    → length (after_all values instrs b) ≡ length b
length-after_all values [] b n places room = refl
length-after_all values (i ∷ rest) b n places room =
    let here : end_of (span_of i) ≤ length b = omega (arith, places.0) in
    length-after_all values rest (after values i b) n places.1 (omega (arith, length-after values i b here)) ∙ length-after values i b here

-- a byte that no instruction writes stays
pub get_or-after_all : (values : List VarValue) (instrs : List Instr) (b : List ℕ) (n k : ℕ) → AllByRecursion (λ i. end_of (span_of i) ≤ n) instrs → n ≤ length b
    → AllByRecursion (λ i. writes_byte i k ≡ false) instrs → get_or (after_all values instrs b) k 0 ≡ get_or b k 0
get_or-after_all values [] b n k places room none = refl
get_or-after_all values (i ∷ rest) b n k places room none =
    let here : end_of (span_of i) ≤ length b = omega (arith, places.0) in
    get_or-after_all values rest (after values i b) n k places.1 (omega (arith, length-after values i b here)) none.1 ∙ get_or-after values i b k here none.0

pub after_all-append : (values : List VarValue) (xs ys : List Instr) (b : List ℕ) → after_all values (xs ++ ys) b ≡ after_all values ys (after_all values xs b)
after_all-append values [] ys b = refl
after_all-append values (x ∷ xs) ys b = after_all-append values xs ys (after values x b)

-- bytes in which the header that a fix names has one first byte and one protocol or next header
abbrev pub SameKind : Fix → List ℕ → List ℕ → Type 0
SameKind fix b c = (get_or b (header_of fix) 0 ≡ get_or c (header_of fix) 0) × (get_or b (protocol_place fix) 0 ≡ get_or c (protocol_place fix) 0)

-- the same of the header that an instruction names
abbrev pub SameHeader : Instr → List ℕ → List ℕ → Type 0
SameHeader i b c = IfSome (fix_of i) (λ fix. SameKind fix b c)

-- the parts of four tests that hold together, and the four from their parts
four_parts : (a b c d : Bool) → (a && b && c && d) ≡ true → (a ≡ true) × (b ≡ true) × (c ≡ true) × (d ≡ true)
four_parts a b c d all =
    let three = and_parts (a && b && c) d all in
    let two = and_parts (a && b) c three.0 in
    let one = and_parts a b two.0 in
    (one.0, one.1, two.1, three.1)

four_from : (a b c d : Bool) → a ≡ true → b ≡ true → c ≡ true → d ≡ true → (a && b && c && d) ≡ true
four_from a b c d first second third fourth = and_from (a && b && c) d (and_from (a && b) c (and_from a b first second) third) fourth

-- what an IP header at a place has
pub record HasHeader (version : IpVersion) (b : List ℕ) (limit at : ℕ) : Type 0 where
  pub long : (network_of version).end ≤ network_length version (get_or b at 0)
  pub within : at + network_length version (get_or b at 0) ≤ limit

-- what a segment that a fix finds has
pub record HasSegment (version : IpVersion) (limit ip header : ℕ) (kind : L4Kind) : Type 0 where
  pub long : (network_of version).end ≤ header
  pub within : ip + header + least_segment kind ≤ limit

has_network-tells : (version : IpVersion) (b : List ℕ) (limit at : ℕ) → has_network version b limit at ≡ true → HasHeader version b limit at
has_network-tells version b limit at has =
    let all = four_parts (nat_le (at + (network_of version).end) limit) _ _ _ has in
    record { long = leb-true _ _ all.2; within = leb-true _ _ all.3 }

-- a fix of a segment finds it, and the header in front of it
finds_segment : (version : IpVersion) (b : List ℕ) (limit ip header : ℕ) (kind : L4Kind) → finds_header b limit (Segment version ip header kind) ≡ true
    → HasHeader version b limit ip × HasSegment version limit ip header kind
finds_segment version b limit ip header kind found =
    let all = four_parts (has_network version b limit ip) _ _ _ found in
    let has = has_network-tells version b limit ip all.0 in
    let is = eqb-true header (network_length version (get_or b ip 0)) all.1 in
    (has, record { long = omega (arith, is, has.long); within = leb-true (ip + header + least_segment kind) limit all.3 })

-- the header that a fix finds lies within the room
pub finds_header-long : (fix : Fix) (b : List ℕ) (limit : ℕ) → finds_header b limit fix ≡ true → header_of fix + (network_of (ip_version fix)).end ≤ limit
finds_header-long (Header at) b limit found = let has = has_network-tells V4 b limit at found in omega (arith, has.long, has.within)
finds_header-long (Segment version ip header kind) b limit found =
    let has = (finds_segment version b limit ip header kind found).0 in omega (arith, has.long, has.within)

-- a fix that finds its header writes within the room
field_of-within : (fix : Fix) (b : List ℕ) (limit : ℕ) → finds_header b limit fix ≡ true → end_of (field_of fix) ≤ limit
field_of-within (Header at) b limit found = let has = has_network-tells V4 b limit at found in omega (arith, has.long, has.within)
field_of-within (Segment version ip header kind) b limit found =
    let has = finds_segment version b limit ip header kind found in omega (arith, sum_place-within kind, has.1.within)

-- a header is found by its first byte, and for a segment by its protocol or next header as well
has_network-same : (version : IpVersion) (b c : List ℕ) (limit at : ℕ) → get_or b at 0 ≡ get_or c at 0 → has_network version b limit at ≡ has_network version c limit at
has_network-same version b c limit at same =
    let least = (network_of version).end in
    ap (λ (x : ℕ). nat_le (at + least) limit && (x / 16 == number_of version) && nat_le least (network_length version x) && nat_le (at + network_length version x) limit) same

finds_header-same : (fix : Fix) (b c : List ℕ) (limit : ℕ) → SameKind fix b c → finds_header b limit fix ≡ finds_header c limit fix
finds_header-same (Header at) b c limit same = has_network-same V4 b c limit at same.0
finds_header-same (Segment version ip header kind) b c limit same =
    let fits = nat_le (ip + header + least_segment kind) limit in
    let protocol = get_or b (ip + (network_of version).protocol) 0 == protocol_of kind in
    ap (λ (has : Bool). has && (header == network_length version (get_or b ip 0)) && protocol && fits) (has_network-same version b c limit ip same.0)
    ∙ ap (λ (x : ℕ). has_network version c limit ip && (header == network_length version x) && protocol && fits) same.0
    ∙ ap (λ (y : ℕ). has_network version c limit ip && (header == network_length version (get_or c ip 0)) && (y == protocol_of kind) && fits) same.1

-- an instruction finds its header wherever those bytes are the same
pub misses_header-same : (i : Instr) (b c : List ℕ) (limit : ℕ) → SameHeader i b c → misses_header b limit i ≡ misses_header c limit i
misses_header-same i b c limit = by_fix (fix_of i)
  where
    by_fix : (fix : Option Fix) → IfSome fix (λ it. SameKind it b c) → option_map_or (λ it. not (finds_header b limit it)) fix false ≡ option_map_or (λ it. not (finds_header c limit it)) fix false
    by_fix None same = refl
    by_fix (Some fix) same = ap not (finds_header-same fix b c limit same)

more_room : (n limit wide : ℕ) → limit ≤ wide → nat_le n limit ≡ true → nat_le n wide ≡ true
more_room n limit wide more within = le-leb n wide (omega (arith, leb-true n limit within))

has_network-wider : (version : IpVersion) (b : List ℕ) (limit wide at : ℕ) → limit ≤ wide → has_network version b limit at ≡ true → has_network version b wide at ≡ true
has_network-wider version b limit wide at more has =
    let header = network_length version (get_or b at 0) in
    let all = four_parts (nat_le (at + (network_of version).end) limit) _ _ _ has in
    four_from _ _ _ (nat_le (at + header) wide) (more_room (at + (network_of version).end) limit wide more all.0) all.1 all.2 (more_room (at + header) limit wide more all.3)

finds_header-wider : (fix : Fix) (b : List ℕ) (limit wide : ℕ) → limit ≤ wide → finds_header b limit fix ≡ true → finds_header b wide fix ≡ true
finds_header-wider (Header at) b limit wide more found = has_network-wider V4 b limit wide at more found
finds_header-wider (Segment version ip header kind) b limit wide more found =
    let all = four_parts (has_network version b limit ip) _ _ _ found in
    four_from _ _ _ (nat_le (ip + header + least_segment kind) wide) (has_network-wider version b limit wide ip more all.0) all.1 all.2
    (more_room (ip + header + least_segment kind) limit wide more all.3)

-- and within every wider room
pub misses_header-wider : (i : Instr) (b : List ℕ) (limit wide : ℕ) → limit ≤ wide → misses_header b limit i ≡ false → misses_header b wide i ≡ false
misses_header-wider i b limit wide more = by_fix (fix_of i)
  where
    by_fix : (fix : Option Fix) → option_map_or (λ it. not (finds_header b limit it)) fix false ≡ false → option_map_or (λ it. not (finds_header b wide it)) fix false ≡ false
    by_fix None found = refl
    by_fix (Some fix) found = not_from_true (finds_header b wide fix) (finds_header-wider fix b limit wide more (not-false (finds_header b limit fix) found))

-- a write within the room stays within every wider one
pub writes_past-wider : (i : Instr) (limit wide : ℕ) → limit ≤ wide → writes_past limit i ≡ false → writes_past wide i ≡ false
writes_past-wider i limit wide more = by_write (write_of i)
  where
    by_write : (write : Option Span) → option_map_or (λ span. nat_lt limit (end_of span)) write false ≡ false → option_map_or (λ span. nat_lt wide (end_of span)) write false ≡ false
    by_write None within = refl
    by_write (Some span) within = le-ltb wide (end_of span) (omega (arith, ltb-false limit (end_of span) within))

-- an instruction that breaks no rule writes within the room
pub place-within : (i : Instr) (b : List ℕ) (limit : ℕ) → writes_past limit i ≡ false → misses_header b limit i ≡ false → end_of (span_of i) ≤ limit
place-within i b limit = by_effect (write_of i) (fix_of i)
  where
    by_effect : (write : Option Span) (fix : Option Fix) → option_map_or (λ span. nat_lt limit (end_of span)) write false ≡ false
        → option_map_or (λ it. not (finds_header b limit it)) fix false ≡ false → end_of (changed write fix) ≤ limit
    by_effect (Some span) fix within found = ltb-false limit (end_of span) within
    by_effect None (Some fix) within found = field_of-within fix b limit (not-false (finds_header b limit fix) found)
    by_effect None None within found = omega arith

-- a segment verifies after its fix, whether it fits or not
segment-verifies : (version : IpVersion) (kind : L4Kind) (ip header : ℕ) (b : List ℕ) (t : Bool) → (network_of version).end ≤ header → t ≡ segment_fits version kind ip header b
    → FixVerifies (Segment version ip header kind) (cond t (with_checksum (written_sum kind) (segment_at version kind ip header) (ip + header + sum_place kind) b) b)
segment-verifies version kind ip header b true long fits =
    λ _. with_checksum-verifies (written_sum kind) (segment_at version kind ip header) (ip + header + sum_place kind) b (Completes-written_sum kind)
    (HoldsField-segment_at version kind ip header b long (sym fits))
segment-verifies version kind ip header b false long fits = λ now. absurd (false≢true (fits ∙ now))

-- right after its fix a header verifies
fixed-verifies : (fix : Fix) (b : List ℕ) → finds_header b (length b) fix ≡ true → FixVerifies fix (fixed fix b)
fixed-verifies (Header at) b found =
    let has = has_network-tells V4 b (length b) at found in
    with_checksum-verifies (λ n. n) (header_at at) (at + 10) b Completes-plain (HoldsField-header_at at b has.long has.within)
fixed-verifies (Segment version ip header kind) b found =
    segment-verifies version kind ip header b (segment_fits version kind ip header b) (finds_segment version b (length b) ip header kind found).1.long refl

maybe_fixed-verifies : (fix : Option Fix) (b : List ℕ) → option_map_or (λ it. not (finds_header b (length b) it)) fix false ≡ false
    → IfSome fix (λ it. FixVerifies it (option_map_or (λ one. fixed one b) fix b))
maybe_fixed-verifies None b found = tt
maybe_fixed-verifies (Some fix) b found = fixed-verifies fix b (not-false (finds_header b (length b) fix) found)

pub after-verifies : (values : List VarValue) (i : Instr) (b : List ℕ) → misses_header b (length b) i ≡ false → HeaderVerifies i (after values i b)
after-verifies values (Write from at add big) b found = tt
after-verifies values (WriteMask from at cast mask shift add big) b found = tt
after-verifies values i b found = maybe_fixed-verifies (fix_of i) b found

header_at-same : (at : ℕ) (b c : List ℕ) → length b ≡ length c → get_or b at 0 ≡ get_or c at 0
    → ((k : ℕ) → IsWithin at (header_length c at) k → get_or b k 0 ≡ get_or c k 0) → header_at at b ≡ header_at at c
unfolding header_at
header_at-same at b c long first agree =
    ap (λ (x : ℕ). slice_range b at (at + x % 16 * 4)) first
    ∙ slice_range-same at (at + header_length c at) b c long (λ k low high. agree k (low, high))

-- the covered bytes tell a segment's length
segment_length-same : (version : IpVersion) (kind : L4Kind) (ip header : ℕ) (b c : List ℕ) → least_segment kind ≤ segment_length version kind ip header c
    → ((k : ℕ) → CoversSegment version kind ip header c k → get_or b k 0 ≡ get_or c k 0) → segment_length version kind ip header b ≡ segment_length version kind ip header c
segment_length-same version Udp ip header b c long agree =
    number-same (ip + header + 4) b c (agree (ip + header + 4) (inl (omega arith, omega arith))) (agree (ip + header + 4 + 1) (inl (omega arith, omega arith)))
segment_length-same version Tcp ip header b c long agree =
    let at = ip + (network_of version).length in
    ap (left_for_segment version header) (number-same at b c (agree at (inr (inr (omega arith, omega arith)))) (agree (at + 1) (inr (inr (omega arith, omega arith)))))

Covers-segment : (version : IpVersion) (kind : L4Kind) (ip header : ℕ) (c : List ℕ) (k : ℕ) → IsWithin (ip + header) (segment_length version kind ip header c) k
    → CoversSegment version kind ip header c k
Covers-segment version Udp ip header c k within = inl within
Covers-segment version Tcp ip header c k within = inl within

Covers-pseudo : (version : IpVersion) (kind : L4Kind) (ip header : ℕ) (c : List ℕ) (k : ℕ) → IsOfPseudoHeader (network_of version) ip k → CoversSegment version kind ip header c k
Covers-pseudo version Udp ip header c k is = inr is
Covers-pseudo version Tcp ip header c k is = inr (inl is)

segment_at-same : (version : IpVersion) (kind : L4Kind) (ip header : ℕ) (b c : List ℕ) → length b ≡ length c → segment_length version kind ip header b ≡ segment_length version kind ip header c
    → ((k : ℕ) → CoversSegment version kind ip header c k → get_or b k 0 ≡ get_or c k 0) → segment_at version kind ip header b ≡ segment_at version kind ip header c
unfolding segment_at
segment_at-same version kind ip header b c long len agree =
    let net = network_of version in
    let n = segment_length version kind ip header c in
    let within = (places version).within_addresses in
    ap (λ (m : ℕ). pseudo_header version ip m b ++ slice_range b (ip + header) (ip + header + m)) len
    ∙ ap (λ (xs : List ℕ). xs ++ slice_range b (ip + header) (ip + header + n))
    (pseudo_header-same version ip n b c long (agree (ip + net.protocol) (Covers-pseudo version kind ip header c (ip + net.protocol) (inl refl)))
    (λ k low high. agree k (Covers-pseudo version kind ip header c k (inr (low, omega arith)))))
    ∙ ap (λ (xs : List ℕ). pseudo_header version ip n c ++ xs)
    (slice_range-same (ip + header) (ip + header + n) b c long (λ k low high. agree k (Covers-segment version kind ip header c k (low, high))))

-- what verifies in some bytes verifies in others that have the same covered bytes
FixVerifies-same : (fix : Fix) (b c : List ℕ) → length b ≡ length c → SameKind fix b c → ((k : ℕ) → CoversByte fix c k → get_or b k 0 ≡ get_or c k 0)
    → FixVerifies fix b → FixVerifies fix c
FixVerifies-same (Header at) b c long same agree verifies = rw (sym (header_at-same at b c long same.0 agree)) verifies
FixVerifies-same (Segment version ip header kind) b c long same agree verifies = λ fits.
    let known = segment_fits-tells version kind ip header c fits in
    let len = segment_length-same version kind ip header b c known.0 agree in
    let fit : segment_fits version kind ip header b ≡ segment_fits version kind ip header c =
    ap (λ (n : ℕ). nat_le (least_segment kind) n && nat_le (ip + header + n) (length b)) len
    ∙ ap (λ (n : ℕ). nat_le (least_segment kind) (segment_length version kind ip header c) && nat_le (ip + header + segment_length version kind ip header c) n) long in
    rw (sym (segment_at-same version kind ip header b c long len agree)) (verifies (fit ∙ fits))

pub HeaderVerifies-same : (i : Instr) (b c : List ℕ) → length b ≡ length c → SameHeader i b c → ((k : ℕ) → Covers i c k → get_or b k 0 ≡ get_or c k 0)
    → HeaderVerifies i b → HeaderVerifies i c
HeaderVerifies-same i b c long = by_fix (fix_of i)
  where
    by_fix : (fix : Option Fix) → IfSome fix (λ it. SameKind it b c) → ((k : ℕ) → IsSomeAnd fix (λ it. CoversByte it c k) → get_or b k 0 ≡ get_or c k 0)
        → IfSome fix (λ it. FixVerifies it b) → IfSome fix (λ it. FixVerifies it c)
    by_fix None same agree verifies = tt
    by_fix (Some fix) same agree verifies = FixVerifies-same fix b c long same agree verifies

-- a write to a part of some bytes
pub put_mid-put : (at k : ℕ) (b new : List ℕ) → k ≡ length new → put_mid at k b new ≡ put at new b
unfolding put
put_mid-put at k b new same = ap (λ (rest : List ℕ). take at b ++ (new ++ rest)) (drop-drop k at b ∙ ap (λ (n : ℕ). drop (at + n) b) same)
