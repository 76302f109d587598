-- Why the headers of a built packet verify.
use Rattle.std.proofs.Common.{◌≡◌, ℕ, ◌+◌, ◌-◌, ◌*◌, ◌/◌, ◌%◌, ◌<◌, IsTrue, List, [], ◌∷◌, ◌++◌, length, take, drop, slice_get, slice_index, Option, None, Some, refl, sym, ap, ◌∙◌, arith, length-append}
use Rattle.std.proofs.lemmas.List.{append-nil, append_assoc, get_or-append-add}
use Rattle.std.proofs.lemmas.List.Sums.{sum_by-cons}
use Rattle.std.proofs.Math.Seq.{drop-append-add, drop-append_seam, take-append_seam}
use Rattle.std.specs.List.{slice_range}
use Rattle.byteorder.specs.Endian.{big_bytes}
use Rattle.trex_sum.specs.Checksum.{sum_of, fold_of, ones_for_zero, Verifies}
use Rattle.trex_sum.proofs.ChecksumLemmas.{Completes, Completes-plain, Completes-ones_for_zero, sum_of-field}
use Rattle.trex_headers.specs.declared.layer.Version.{Version}
use Rattle.trex_headers.specs.declared.layer.Version.TheVariants.{V4, V6}
use Rattle.trex_headers.specs.Layer.{Layer, Ethernet, Vlan, Ipv4, Ipv6, Tcp, Udp, Raw}
use Rattle.trex_headers.specs.Order.{is_ipv4, is_network, is_segment}
use Rattle.trex_headers.specs.Header.{sealed, ipv4_front, ipv6_front, tcp_front, tcp_back, udp_front, addresses, pseudo_header, protocol_before, header_of}
use Rattle.trex_headers.specs.Built.{built, bytes_behind, header_length}
use Rattle.trex_headers.specs.Network.{Network, network_of}
use Rattle.trex_headers.specs.Verified.{place_behind, segment_behind, IsSized, HeadersVerify}
use Rattle.trex_headers.proofs.PseudoLemmas.{length-pseudo_ipv4}
use Rattle.trex_headers.proofs.Sums.{words_of_pseudo_ipv6}
use Rattle.trex_headers.proofs.Lengths.{length-header_of, length-tcp_front, length-udp_front, length-ipv4_front}

-- what a checksum covers, by the number in its place
sum_of-covered_by : (pseudo front back payload : List ℕ) (x y : ℕ) → length pseudo % 2 ≡ 0 → length front % 2 ≡ 0
    → sum_of (pseudo ++ (front ++ ((x ∷ y ∷ back) ++ payload))) ≡ sum_of (pseudo ++ front) + sum_of (back ++ payload) + (256 * x + y)
sum_of-covered_by pseudo front back payload x y even even_front =
    let long = length-append pseudo front in
    ap sum_of (sym (append_assoc pseudo front (x ∷ y ∷ (back ++ payload)))) ∙ sum_of-field (pseudo ++ front) (back ++ payload) x y (omega arith)

-- a header with its checksum verifies, together with its pseudo header and its payload
sealed-verifies : (written : ℕ → ℕ) (pseudo front back payload : List ℕ) → Completes written → length pseudo % 2 ≡ 0 → length front % 2 ≡ 0
    → Verifies (sum_of (pseudo ++ (sealed written pseudo front back payload ++ payload)))
unfolding sealed
sealed-verifies written pseudo front back payload completes even even_front =
    let s = sum_of (pseudo ++ (front ++ ((0 ∷ 0 ∷ back) ++ payload))) in
    let n = written (65535 - fold_of s) in
    let small : n < 65536 = completes.small s in
    let zeros = sum_of-covered_by pseudo front back payload 0 0 even even_front in
    let filled = sum_of-covered_by pseudo front back payload (n / 256 % 256) (n % 256) even even_front in
    let total : sum_of (pseudo ++ (front ++ ((big_bytes 2 n ++ back) ++ payload))) ≡ s + n = omega arith in
    let apart : (front ++ (big_bytes 2 n ++ back)) ++ payload ≡ front ++ ((big_bytes 2 n ++ back) ++ payload) = append_assoc front (big_bytes 2 n ++ back) payload in
    ap (λ (b : List ℕ). fold_of (sum_of (pseudo ++ b))) apart ∙ ap fold_of total ∙ completes.folds s

-- a part of what stands behind other bytes
slice_range-behind : (head xs : List ℕ) (a b : ℕ) → slice_range (head ++ xs) (length head + a) (length head + b) ≡ slice_range xs a b
slice_range-behind head xs a b =
    let count : (length head + b) - (length head + a) ≡ b - a = omega arith in
    ap (λ (n : ℕ). take n (drop (length head + a) (head ++ xs))) count ∙ ap (take (b - a)) (drop-append-add head xs a)

-- the packet of layers, cut before the later ones
pub record Cut (before : Option Layer) (front later : List Layer) : Type 0 where
  pub head : List ℕ
  pub other : Option Layer
  pub long : length head ≡ place_behind front
  pub is : bytes_behind before (front ++ later) ≡ head ++ bytes_behind other later

cut_at : (before : Option Layer) (front later : List Layer) → Cut before front later
cut_at before [] later = record { head = []; other = before; long = refl; is = refl }
cut_at before (one ∷ front) later =
    let more = cut_at (Some one) front later in
    let payload = bytes_behind (Some one) (front ++ later) in
    let header = header_of before one (slice_get (front ++ later) 0) payload in
    record {
      head = header ++ more.head;
      other = more.other;
      long = length-append header more.head ∙ omega (arith, sum_by-cons header_length one front, length-header_of before one (slice_get (front ++ later) 0) payload, more.long);
      is = ap (λ (b : List ℕ). header ++ b) more.is ∙ sym (append_assoc header more.head (bytes_behind more.other later));
    }

-- the header of an IPv4 layer
ipv4_header : (tos total id frag ttl proto src dst : ℕ) → List ℕ
ipv4_header tos total id frag ttl proto src dst = sealed (λ n. n) [] (ipv4_front tos total id frag ttl proto) (addresses src dst) []

ipv4-verifies : (tos total id frag ttl proto src dst : ℕ) → Verifies (sum_of (ipv4_header tos total id frag ttl proto src dst))
unfolding ipv4_header
ipv4-verifies tos total id frag ttl proto src dst =
    let front = ipv4_front tos total id frag ttl proto in
    let header = sealed (λ n. n) [] front (addresses src dst) [] in
    let whole = sealed-verifies (λ n. n) [] front (addresses src dst) [] Completes-plain refl (omega (arith, length-ipv4_front tos total id frag ttl proto)) in
    ap (λ (b : List ℕ). fold_of (sum_of b)) (sym (append-nil header)) ∙ whole

-- what an IP header shows of what a segment's checksum covers
record Shows (net : Network) (header ends : List ℕ) (protocol : ℕ) : Type 0 where
  pub ends_in : (rest : List ℕ) → slice_range (header ++ rest) net.addresses net.end ≡ ends
  pub protocol_in : (rest : List ℕ) → slice_index (header ++ rest) net.protocol ≡ protocol
  pub behind : (rest : List ℕ) → drop net.end (header ++ rest) ≡ rest
  pub long : length header ≡ net.end

Shows-ipv4 : (tos total id frag ttl proto src dst : ℕ) → Shows (network_of V4) (ipv4_header tos total id frag ttl proto src dst) (addresses src dst) proto
unfolding ipv4_header sealed ipv4_front
Shows-ipv4 tos total id frag ttl proto src dst = record { ends_in = λ rest. refl; protocol_in = λ rest. refl; behind = λ rest. refl; long = refl }

-- the bytes of an IPv6 header
ipv6_header : (class label len next hop : ℕ) (src dst : List ℕ) → List ℕ
ipv6_header class label len next hop src dst = ipv6_front class label len next hop ++ (src ++ dst)

Shows-ipv6 : (class label len next hop : ℕ) (src dst : List ℕ) → length src ≡ 16 → length dst ≡ 16
    → Shows (network_of V6) (ipv6_header class label len next hop src dst) (src ++ dst) next
unfolding ipv6_header ipv6_front
Shows-ipv6 class label len next hop src dst from to =
    let long : length (src ++ dst) ≡ 32 = length-append src dst ∙ omega arith in
    record {
      ends_in = λ rest. ap (λ (n : ℕ). take n ((src ++ dst) ++ rest)) (sym long) ∙ take-append_seam (src ++ dst) rest;
      protocol_in = λ rest. refl;
      behind = λ rest. ap (λ (n : ℕ). drop n ((src ++ dst) ++ rest)) (sym long) ∙ drop-append_seam (src ++ dst) rest;
      long = omega arith;
    }

-- what a segment's checksum covers, read from the packet
segment_in : (net : Network) (head header rest ends : List ℕ) (protocol : ℕ) → Shows net header ends protocol
    → segment_behind net (length head) (head ++ (header ++ rest)) ≡ net.pseudo ends protocol (length rest) ++ rest
segment_in net head header rest ends protocol shows =
    let packet = head ++ (header ++ rest) in
    let place = length head in
    let from = slice_range-behind head (header ++ rest) net.addresses net.end ∙ shows.ends_in rest in
    let number = get_or-append-add head (header ++ rest) net.protocol 0 ∙ shows.protocol_in rest in
    let behind = drop-append-add head (header ++ rest) net.end ∙ shows.behind rest in
    let long : length packet - (place + net.end) ≡ length rest = omega (arith, length-append head (header ++ rest), length-append header rest, shows.long) in
    ap (λ (a : List ℕ). net.pseudo a (slice_index packet (place + net.protocol)) (length packet - (place + net.end)) ++ drop (place + net.end) packet) from
    ∙ ap (λ (p : ℕ). net.pseudo ends p (length packet - (place + net.end)) ++ drop (place + net.end) packet) number
    ∙ ap (λ (n : ℕ). net.pseudo ends protocol n ++ drop (place + net.end) packet) long
    ∙ ap (λ (b : List ℕ). net.pseudo ends protocol (length rest) ++ b) behind

-- the bytes of a segment verify behind the pseudo header of the layer before it
segment-verifies : (before segment : Layer) (next : Option Layer) (payload : List ℕ) (own : ℕ) → IsTrue (is_segment segment)
    → ((protocol len : ℕ) → length (pseudo_header (Some before) protocol len) % 2 ≡ 0)
    → (rest : List ℕ) → rest ≡ header_of (Some before) segment next payload ++ payload
    → Verifies (sum_of (pseudo_header (Some before) (protocol_before (Some segment) own) (length rest) ++ rest))
segment-verifies before (Tcp sport dport seq ack flags window) next payload own is even rest eq =
    let segment : Layer = Tcp sport dport seq ack flags window in
    let front = tcp_front sport dport seq ack flags window in
    let long : length rest ≡ 20 + length payload =
    ap length eq ∙ length-append (header_of (Some before) segment next payload) payload ∙ ap (λ (n : ℕ). n + length payload) (length-header_of (Some before) segment next payload) in
    ap (λ (n : ℕ). fold_of (sum_of (pseudo_header (Some before) 6 n ++ rest))) long
    ∙ ap (λ (b : List ℕ). fold_of (sum_of (pseudo_header (Some before) 6 (20 + length payload) ++ b))) eq
    ∙ sealed-verifies (λ n. n) (pseudo_header (Some before) 6 (20 + length payload)) front tcp_back payload Completes-plain
    (even 6 (20 + length payload)) (omega (arith, length-tcp_front sport dport seq ack flags window))
segment-verifies before (Udp sport dport) next payload own is even rest eq =
    let segment : Layer = Udp sport dport in
    let front = udp_front sport dport (8 + length payload) in
    let long : length rest ≡ 8 + length payload =
    ap length eq ∙ length-append (header_of (Some before) segment next payload) payload ∙ ap (λ (n : ℕ). n + length payload) (length-header_of (Some before) segment next payload) in
    ap (λ (n : ℕ). fold_of (sum_of (pseudo_header (Some before) 17 n ++ rest))) long
    ∙ ap (λ (b : List ℕ). fold_of (sum_of (pseudo_header (Some before) 17 (8 + length payload) ++ b))) eq
    ∙ sealed-verifies ones_for_zero (pseudo_header (Some before) 17 (8 + length payload)) front [] payload Completes-ones_for_zero
    (even 17 (8 + length payload)) (omega (arith, length-udp_front sport dport (8 + length payload)))
segment-verifies before (Ethernet to from etype) next payload own is even rest eq = absurd (cc)
segment-verifies before (Vlan tci etype) next payload own is even rest eq = absurd (cc)
segment-verifies before (Ipv4 a b c d e f g) next payload own is even rest eq = absurd (cc)
segment-verifies before (Ipv6 a b c d e f) next payload own is even rest eq = absurd (cc)
segment-verifies before (Raw bytes) next payload own is even rest eq = absurd (cc)

-- an IPv4 header as the packet holds it
header_in : (head rest : List ℕ) (tos total id frag ttl proto src dst : ℕ)
    → slice_range (head ++ (ipv4_header tos total id frag ttl proto src dst ++ rest)) (length head) (length head + 20) ≡ ipv4_header tos total id frag ttl proto src dst
unfolding ipv4_header sealed ipv4_front
header_in head rest tos total id frag ttl proto src dst =
    let count : (length head + 20) - length head ≡ 20 = omega arith in
    let xs = ipv4_header tos total id frag ttl proto src dst ++ rest in
    ap (λ (n : ℕ). take n (drop (length head) (head ++ xs))) count ∙ ap (take 20) (drop-append_seam head xs)

-- an IPv4 header of the packet verifies
ipv4_at : (front : List Layer) (ip : Layer) (later : List Layer) → IsTrue (is_ipv4 ip)
    → Verifies (sum_of (slice_range (built (front ++ ip ∷ later)) (place_behind front) (place_behind front + 20)))
unfolding ipv4_header
ipv4_at front (Ipv4 tos id frag ttl proto src dst) later is =
    let cut = cut_at None front (Ipv4 tos id frag ttl proto src dst ∷ later) in
    let payload = bytes_behind (Some (Ipv4 tos id frag ttl proto src dst)) later in
    let total = 20 + length payload in
    let protocol = protocol_before (slice_get later 0) proto in
    let packet = cut.head ++ (ipv4_header tos total id frag ttl protocol src dst ++ payload) in
    ap (λ (b : List ℕ). fold_of (sum_of (slice_range b (place_behind front) (place_behind front + 20)))) cut.is
    ∙ ap (λ (n : ℕ). fold_of (sum_of (slice_range packet n (n + 20)))) (sym cut.long)
    ∙ ap (λ (b : List ℕ). fold_of (sum_of b)) (header_in cut.head payload tos total id frag ttl protocol src dst)
    ∙ ipv4-verifies tos total id frag ttl protocol src dst
ipv4_at front _ later is = absurd (cc)

-- what the layer before a segment has to be, so that the segment verifies in the packet
record Carries (net : Network) (ip segment : Layer) : Type 0 where
  pub own : ℕ
  pub ends : List ℕ
  pub shows : (before : Option Layer) (payload : List ℕ) → Shows net (header_of before ip (Some segment) payload) ends (protocol_before (Some segment) own)
  pub pseudo : (protocol len : ℕ) → net.pseudo ends protocol len ≡ pseudo_header (Some ip) protocol len
  pub even : (protocol len : ℕ) → length (pseudo_header (Some ip) protocol len) % 2 ≡ 0

carries : (version : Version) (ip segment : Layer) → IsTrue (is_network version ip) → IsSized ip → Carries (network_of version) ip segment
unfolding ipv4_header ipv6_header
carries V4 (Ipv4 tos id frag ttl proto src dst) segment is sized = record {
  own = proto;
  ends = addresses src dst;
  shows = λ before payload. Shows-ipv4 tos (20 + length payload) id frag ttl (protocol_before (Some segment) proto) src dst;
  pseudo = λ protocol len. refl;
  even = λ protocol len. omega (arith, length-pseudo_ipv4 (addresses src dst) protocol len);
}
carries V6 (Ipv6 class label hop next src dst) segment is sized = record {
  own = next;
  ends = src ++ dst;
  shows = λ before payload. Shows-ipv6 class label (length payload) (protocol_before (Some segment) next) hop src dst sized.0 sized.1;
  pseudo = λ protocol len. refl;
  even = λ protocol len. words_of_pseudo_ipv6 src dst protocol len sized.0 sized.1;
}
carries _ _ segment is sized = absurd (cc)

-- a segment of the packet verifies
segment_at : (net : Network) (front : List Layer) (ip segment : Layer) (later : List Layer) → Carries net ip segment → IsTrue (is_segment segment)
    → Verifies (sum_of (segment_behind net (place_behind front) (built (front ++ ip ∷ segment ∷ later))))
segment_at net front ip segment later carry kind =
    let cut = cut_at None front (ip ∷ segment ∷ later) in
    let payload = bytes_behind (Some segment) later in
    let rest = bytes_behind (Some ip) (segment ∷ later) in
    let protocol = protocol_before (Some segment) carry.own in
    let header = header_of cut.other ip (Some segment) rest in
    ap (λ (b : List ℕ). fold_of (sum_of (segment_behind net (place_behind front) b))) cut.is
    ∙ ap (λ (n : ℕ). fold_of (sum_of (segment_behind net n (cut.head ++ (header ++ rest))))) (sym cut.long)
    ∙ ap (λ (b : List ℕ). fold_of (sum_of b)) (segment_in net cut.head header rest carry.ends protocol (carry.shows cut.other rest))
    ∙ ap (λ (b : List ℕ). fold_of (sum_of (b ++ rest))) (carry.pseudo protocol (length rest))
    ∙ segment-verifies ip segment (slice_get later 0) payload carry.own kind carry.even rest refl

-- each header of a built packet verifies
pub built-verifies : (version : Version) (layers : List Layer) → HeadersVerify version layers (built layers)
built-verifies version layers = record {
  ipv4 = λ front ip later whole is.
      ap (λ (l : List Layer). fold_of (sum_of (slice_range (built l) (place_behind front) (place_behind front + 20)))) whole ∙ ipv4_at front ip later is;
  segment = λ front ip segment later whole is sized kind.
      ap (λ (l : List Layer). fold_of (sum_of (segment_behind (network_of version) (place_behind front) (built l)))) whole
      ∙ segment_at (network_of version) front ip segment later (carries version ip segment is sized) kind;
}
