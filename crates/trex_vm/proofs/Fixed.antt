-- Why a fixed header verifies.
use Rattle.std.proofs.Common.{◌≡◌, ℕ, ◌+◌, ◌-◌, ◌*◌, ◌/◌, ◌%◌, ◌<◌, ◌≤◌, List, [], ◌∷◌, ◌++◌, length, get_or, drop, refl, sym, ap, ◌∙◌, arith, length-append, IsTrue, nat_le, ◌&&◌}
use Rattle.std.proofs.lemmas.List.{append_assoc, get_or-drop}
use Rattle.std.proofs.lemmas.List.Edits.{length-between}
use Rattle.std.proofs.lemmas.Bool.Decides.{nat_tests}
use Rattle.std.specs.List.{slice_range}
use Rattle.byteorder.specs.Endian.{big_bytes, big_number}
use Rattle.trex_sum.specs.Checksum.{sum_of, fold_of, Verifies}
use Rattle.trex_sum.proofs.ChecksumLemmas.{Completes, Completes-plain, Completes-ones_for_zero, sum_of-field}
use Rattle.trex_sum.proofs.SumLemmas.{sum_of-append}
use Rattle.trex_fields.specs.Bytes.{put}
use Rattle.trex_fields.proofs.BytesLemmas.{length-put, get_or-put_before, put-put, slice_range-put, slice_range-same}
use Rattle.trex_headers.specs.declared.layer.Version.{Version as IpVersion}
use Rattle.trex_headers.specs.declared.layer.Version.TheVariants.{V4, V6}
use Rattle.trex_headers.specs.Network.{network_of}
use Rattle.trex_headers.proofs.PseudoLemmas.{length-pseudo, sum_of-pseudo}
use Rattle.trex_vm.specs.declared.instr.L4Kind.{L4Kind}
use Rattle.trex_vm.specs.declared.instr.L4Kind.TheVariants.{Tcp, Udp}
use Rattle.trex_vm.specs.Fix.{with_checksum, header_length, header_at, written_sum, least_segment, sum_place, left_for_segment, segment_length, segment_fits, pseudo_header, segment_at}

-- the part holds the field: so many whole words, the field, and the rest
pub record HoldsField (part : List ℕ → List ℕ) (field : ℕ) (b : List ℕ) : Type 0 where
  pub front : List ℕ
  pub back : List ℕ
  pub even : length front % 2 ≡ 0
  pub room : field + 2 ≤ length b
  pub is : (x y : ℕ) → part (put field (x ∷ y ∷ []) b) ≡ front ++ (x ∷ y ∷ back)

-- the complement, with all ones in place of zero
pub Completes-written_sum : (kind : L4Kind) → Completes (written_sum kind)
Completes-written_sum Tcp = Completes-plain
Completes-written_sum Udp = Completes-ones_for_zero

-- a part whose field is summed verifies
pub with_checksum-verifies : (written : ℕ → ℕ) (part : List ℕ → List ℕ) (field : ℕ) (b : List ℕ) → Completes written → HoldsField part field b
    → Verifies (sum_of (part (with_checksum written part field b)))
unfolding with_checksum
with_checksum-verifies written part field b completes holds =
    let zeroed = put field (0 ∷ 0 ∷ []) b in
    let s = sum_of (part zeroed) in
    let n = written (65535 - fold_of s) in
    let high = n / 256 % 256 in
    let low = n % 256 in
    let small : n < 65536 = completes.small s in
    let once : put field (high ∷ low ∷ []) zeroed ≡ put field (high ∷ low ∷ []) b = put-put field (high ∷ low ∷ []) (0 ∷ 0 ∷ []) b holds.room refl in
    let before : s ≡ sum_of holds.front + sum_of holds.back + (256 * 0 + 0) = ap sum_of (holds.is 0 0) ∙ sum_of-field holds.front holds.back 0 0 holds.even in
    let after : sum_of (part (put field (high ∷ low ∷ []) b)) ≡ sum_of holds.front + sum_of holds.back + (256 * high + low) =
    ap sum_of (holds.is high low) ∙ sum_of-field holds.front holds.back high low holds.even in
    let total : sum_of (part (put field (high ∷ low ∷ []) zeroed)) ≡ s + n = ap (λ (c : List ℕ). sum_of (part c)) once ∙ after ∙ omega arith in
    ap fold_of total ∙ completes.folds s

-- the steps of a fix: the field is zeroed, the part is summed and folded, and the number is written
pub with_checksum_by_steps : (written : ℕ → ℕ) (part : List ℕ → List ℕ) (field : ℕ) (old zeroed new : List ℕ) (s n : ℕ) → zeroed ≡ put field (0 ∷ 0 ∷ []) old
    → s ≡ fold_of (sum_of (part zeroed)) → n ≡ written (65535 - s) → new ≡ put field (big_bytes 2 n) zeroed → new ≡ with_checksum written part field old
unfolding with_checksum
with_checksum_by_steps written part field old zeroed new s n zeroes sums completes writes = cc

-- a write behind byte `at` keeps the header's length
pub header_length-put : (at field : ℕ) (new b : List ℕ) → at < field → field + length new ≤ length b → header_length (put field new b) at ≡ header_length b at
header_length-put at field new b below room = ap (λ (x : ℕ). x % 16 * 4) (get_or-put_before field new b at 0 room below)

-- an IPv4 header holds its checksum field
pub HoldsField-header_at : (at : ℕ) (b : List ℕ) → 20 ≤ header_length b at → at + header_length b at ≤ length b → HoldsField (header_at at) (at + 10) b
unfolding header_at
HoldsField-header_at at b long within = record {
  front = slice_range b at (at + 10);
  back = slice_range b (at + 10 + 2) (at + header_length b at);
  even = omega (arith, length-between b at (at + 10) (omega arith));
  room = omega arith;
  is = λ x y. rw (header_length-put at (at + 10) (x ∷ y ∷ []) b (omega arith) (omega arith)) (slice_range-put at (at + header_length b at) (at + 10) (x ∷ y ∷ []) b (omega arith) (omega arith) within);
}

-- a number of two bytes, by its bytes
pub number-same : (k : ℕ) (b c : List ℕ) → get_or b k 0 ≡ get_or c k 0 → get_or b (k + 1) 0 ≡ get_or c (k + 1) 0 → big_number 2 (drop k b) ≡ big_number 2 (drop k c)
number-same k b c high low = let here : k + 0 ≡ k = omega arith in simp (get_or-drop, here) (cc)

-- how the places in the IP header of a version lie to each other
pub record Places (version : IpVersion) : Type 0 where
  pub within_length : (network_of version).length + 2 ≤ (network_of version).end
  pub within_protocol : (network_of version).protocol < (network_of version).end
  pub within_addresses : (network_of version).addresses ≤ (network_of version).end
  pub words : ((network_of version).end - (network_of version).addresses) % 2 ≡ 0

pub places : (version : IpVersion) → Places version
places V4 = record { within_length = omega arith; within_protocol = omega arith; within_addresses = omega arith; words = refl }
places V6 = record { within_length = omega arith; within_protocol = omega arith; within_addresses = omega arith; words = refl }

-- what a fitting segment is
pub segment_fits-tells : (version : IpVersion) (kind : L4Kind) (ip header : ℕ) (b : List ℕ) → IsTrue (segment_fits version kind ip header b)
    → (least_segment kind ≤ segment_length version kind ip header b) × (ip + header + segment_length version kind ip header b ≤ length b)
segment_fits-tells version kind ip header b fits = fits_tells _ _ _ _ fits
  where
    fits_tells : (a b c d : ℕ) → IsTrue (nat_le a b && nat_le c d) → (a ≤ b) × (c ≤ d)
    fits_tells a b c d both = (grind (arith, nat_tests), grind (arith, nat_tests))

-- the pseudo header, by its bytes
pub pseudo_header-same : (version : IpVersion) (ip len : ℕ) (b c : List ℕ) → length b ≡ length c
    → get_or b (ip + (network_of version).protocol) 0 ≡ get_or c (ip + (network_of version).protocol) 0
    → ((k : ℕ) → ip + (network_of version).addresses ≤ k → k < ip + (network_of version).end → get_or b k 0 ≡ get_or c k 0)
    → pseudo_header version ip len b ≡ pseudo_header version ip len c
pseudo_header-same version ip len b c long protocol addresses =
    let net = network_of version in
    ap (λ (ends : List ℕ). net.pseudo ends (get_or b (ip + net.protocol) 0) len) (slice_range-same (ip + net.addresses) (ip + net.end) b c long addresses)
    ∙ ap (λ (p : ℕ). net.pseudo (slice_range c (ip + net.addresses) (ip + net.end)) p len) protocol

-- the length of a segment doesn't hang on its checksum field
pub segment_length-put : (version : IpVersion) (kind : L4Kind) (ip header : ℕ) (new b : List ℕ) → (network_of version).end ≤ header
    → ip + header + sum_place kind + length new ≤ length b
    → segment_length version kind ip header (put (ip + header + sum_place kind) new b) ≡ segment_length version kind ip header b
segment_length-put version Tcp ip header new b long room =
    let at = ip + (network_of version).length in
    let field = ip + header + 16 in
    let within = (places version).within_length in
    ap (left_for_segment version header) (number-same at (put field new b) b
    (get_or-put_before field new b at 0 room (omega arith)) (get_or-put_before field new b (at + 1) 0 room (omega arith)))
segment_length-put version Udp ip header new b long room =
    number-same (ip + header + 4) (put (ip + header + 6) new b) b (get_or-put_before (ip + header + 6) new b (ip + header + 4) 0 room (omega arith)) (get_or-put_before (ip + header + 6) new b (ip + header + 4 + 1) 0 room (omega arith))

-- the two addresses are whole words
pub addresses-even : (version : IpVersion) (ip : ℕ) (b : List ℕ) → ip + (network_of version).end ≤ length b
    → length (slice_range b (ip + (network_of version).addresses) (ip + (network_of version).end)) % 2 ≡ 0
addresses-even version ip b room =
    let net = network_of version in
    let long : length (slice_range b (ip + net.addresses) (ip + net.end)) ≡ net.end - net.addresses =
    length-between b (ip + net.addresses) (ip + net.end) room ∙ omega arith in
    ap (λ (n : ℕ). n % 2) long ∙ (places version).words

-- the sum of the pseudo header and what follows it is that of the parts
pub sum_of-behind_pseudo : (version : IpVersion) (ip len : ℕ) (b rest : List ℕ) → ip + (network_of version).end ≤ length b → len < 65536
    → sum_of (pseudo_header version ip len b ++ rest)
    ≡ sum_of (slice_range b (ip + (network_of version).addresses) (ip + (network_of version).end)) + get_or b (ip + (network_of version).protocol) 0 + len + sum_of rest
sum_of-behind_pseudo version ip len b rest room short =
    let net = network_of version in
    let ends = slice_range b (ip + net.addresses) (ip + net.end) in
    let protocol = get_or b (ip + net.protocol) 0 in
    let even = addresses-even version ip b room in
    sum_of-append (pseudo_header version ip len b) rest (length-pseudo version ends protocol len even)
    ∙ ap (λ (s : ℕ). s + sum_of rest) (sum_of-pseudo version ends protocol len even short)

sum_place-even : (kind : L4Kind) → sum_place kind % 2 ≡ 0
sum_place-even Tcp = refl
sum_place-even Udp = refl

pub sum_place-within : (kind : L4Kind) → sum_place kind + 2 ≤ least_segment kind
sum_place-within Tcp = omega arith
sum_place-within Udp = omega arith

-- a segment holds its checksum field
pub HoldsField-segment_at : (version : IpVersion) (kind : L4Kind) (ip header : ℕ) (b : List ℕ) → (network_of version).end ≤ header
    → IsTrue (segment_fits version kind ip header b) → HoldsField (segment_at version kind ip header) (ip + header + sum_place kind) b
unfolding segment_at
HoldsField-segment_at version kind ip header b long fits =
    let net = network_of version in
    let len = segment_length version kind ip header b in
    let at = ip + header in
    let place = sum_place kind in
    let known = segment_fits-tells version kind ip header b fits in
    let least = sum_place-within kind in
    let within = (places version).within_protocol in
    let pseudo = pseudo_header version ip len b in
    let ends = slice_range b (ip + net.addresses) (ip + net.end) in
    let same : (x y : ℕ) → segment_length version kind ip header (put (at + place) (x ∷ y ∷ []) b) ≡ len = λ x y. segment_length-put version kind ip header (x ∷ y ∷ []) b long (omega arith) in
    let above : (x y : ℕ) → pseudo_header version ip len (put (at + place) (x ∷ y ∷ []) b) ≡ pseudo = λ x y. pseudo_header-same version ip len (put (at + place) (x ∷ y ∷ []) b) b
    (length-put (at + place) (x ∷ y ∷ []) b (omega arith))
    (get_or-put_before (at + place) (x ∷ y ∷ []) b (ip + net.protocol) 0 (omega arith) (omega arith))
    (λ k low high. get_or-put_before (at + place) (x ∷ y ∷ []) b k 0 (omega arith) (omega arith)) in
    let words : length pseudo % 2 ≡ 0 = length-pseudo version ends (get_or b (ip + net.protocol) 0) len (addresses-even version ip b (omega arith)) in
    record {
      front = pseudo ++ slice_range b at (at + place);
      back = slice_range b (at + place + 2) (at + len);
      even = omega (arith, length-append pseudo (slice_range b at (at + place)), words, length-between b at (at + place) (omega arith), sum_place-even kind);
      room = omega arith;
      is = λ x y. rw (same x y, above x y, slice_range-put at (at + len) (at + place) (x ∷ y ∷ []) b (omega arith) (omega arith) known.1) (sym (append_assoc pseudo (slice_range b at (at + place)) (x ∷ y ∷ slice_range b (at + place + 2) (at + len))));
    }
