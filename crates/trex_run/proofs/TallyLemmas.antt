-- Tallies, one packet after another.
use Rattle.std.proofs.Common.{◌≡◌, ◌≢◌, ℕ, zero, suc, ◌+◌, ◌*◌, ◌==◌, ◌<◌, ◌≤◌, true, false, List, [], ◌∷◌, ◌++◌, length, sum_by, take, drop, IsSomeAnd, slice_get, slice_set, Option, Some, None, refl, sym, ap, ◌∙◌, subst, arith, add-one, drop-cons, get_or, eq-eqb, ne_eqb, append-nil, length-append, length-take}
use Rattle.std.specs.List.{AllByRecursion}
use Rattle.std.specs.Option.{option_map_or}
use Rattle.std.proofs.lemmas.List.Elements.{filter-append}
use Rattle.std.proofs.lemmas.List.Sums.{sum_by-append, sum_by-cons, length-filter, count_by-le-length}
use Rattle.trex_merge.proofs.OrderLemmas.{all-filter}
use Rattle.trex_core.specs.declared.waiting.Waiting.{Waiting}
use Rattle.trex_run.specs.Tallies.{one_more, all_counted, counted, AtMostPackets}
use Rattle.trex_run.specs.State.{IsShort}
use Rattle.trex_run.proofs.ListLemmas.{all_take}
use Rattle.trex_merge.specs.Frames.{Frame}
use Rattle.trex_profile.specs.Stream.{Stream}
use Rattle.trex_profile.specs.Spec.{IsSpecOf}
use Rattle.trex_profile.specs.declared.member.StreamSpec.{StreamSpec}
use Rattle.trex_report.specs.declared.report.Tally.{Tally}
use Rattle.trex_run.specs.Capture.{sent_of, tally_at, tallies_from, tallies}

-- a packet of another stream
sent_of-other : (position : ℕ) (frames : List Frame) (frame : Frame) → frame.stream ≢ position → sent_of position (frames ++ frame ∷ []) ≡ sent_of position frames
sent_of-other position frames frame other =
    let test : (frame.stream == position) ≡ false = ne_eqb frame.stream position other in
    filter-append (λ (f : Frame). f.stream == position) frames (frame ∷ []) ∙ rw test (append-nil (sent_of position frames))

-- a packet of the stream
sent_of-same : (position : ℕ) (frames : List Frame) (frame : Frame) → frame.stream ≡ position → sent_of position (frames ++ frame ∷ []) ≡ sent_of position frames ++ frame ∷ []
sent_of-same position frames frame same =
    let test : (frame.stream == position) ≡ true = eq-eqb frame.stream position same in
    filter-append (λ (f : Frame). f.stream == position) frames (frame ∷ []) ∙ rw test refl

tally_at-other : (position : ℕ) (s : Stream) (frames : List Frame) (frame : Frame) → frame.stream ≢ position → tally_at position s (frames ++ frame ∷ []) ≡ tally_at position s frames
tally_at-other position s frames frame other = rw (sent_of-other position frames frame other) refl

tally_at-same : (position : ℕ) (s : Stream) (frames : List Frame) (frame : Frame) → frame.stream ≡ position
    → tally_at position s (frames ++ frame ∷ []) ≡ one_more (length frame.bytes) (tally_at position s frames)
tally_at-same position s frames frame same =
    let packets : length (sent_of position frames ++ frame ∷ []) ≡ length (sent_of position frames) + 1 = length-append (sent_of position frames) (frame ∷ []) in
    let bytes : sum_by (λ (x : Frame). length x.bytes) (sent_of position frames ++ frame ∷ []) ≡ sum_by (λ (x : Frame). length x.bytes) (sent_of position frames) + length frame.bytes =
    sum_by-append (λ (x : Frame). length x.bytes) (sent_of position frames) (frame ∷ []) ∙ omega arith in
    rw (sent_of-same position frames frame same) (rw (packets, bytes) refl)

-- a packet of a stream before a position changes no tally from there on
tallies_from-before : (position : ℕ) (p : List Stream) (frames : List Frame) (frame : Frame) → frame.stream < position
    → tallies_from position p (frames ++ frame ∷ []) ≡ tallies_from position p frames
tallies_from-before position [] frames frame before = refl
tallies_from-before position (s ∷ p) frames frame before =
    let head = tally_at-other position s frames frame (λ e. absurd (omega arith)) in
    let rest = tallies_from-before (position + 1) p frames frame (omega arith) in
    rw (head, rest) refl

-- a tally before another keeps its place
counted-cons : (t : Tally) (ts : List Tally) (j bytes : ℕ) → counted (t ∷ ts) (suc j) bytes ≡ t ∷ counted ts j bytes
counted-cons t ts j bytes = by_case (slice_get ts j)
  where
    by_case : (found : Option Tally)
        → option_map_or (λ u. slice_set (t ∷ ts) (suc j) (one_more bytes u)) found (t ∷ ts) ≡ t ∷ option_map_or (λ u. slice_set ts j (one_more bytes u)) found ts
    by_case None = refl
    by_case (Some u) = refl

-- a packet of the stream j places after a position is counted there
tallies_from-more : (j position : ℕ) (p : List Stream) (frames : List Frame) (frame : Frame) → frame.stream ≡ position + j
    → tallies_from position p (frames ++ frame ∷ []) ≡ counted (tallies_from position p frames) j (length frame.bytes)
tallies_from-more j position [] frames frame at = refl
tallies_from-more zero position (s ∷ p) frames frame at =
    let head = tally_at-same position s frames frame (omega arith) in
    let rest = tallies_from-before (position + 1) p frames frame (omega arith) in
    rw (head, rest) refl
tallies_from-more (suc j) position (s ∷ p) frames frame at =
    let head = tally_at-other position s frames frame (λ e. absurd (omega arith)) in
    let rest = tallies_from-more j (position + 1) p frames frame (omega arith) in
    rw (head, rest) (sym (counted-cons (tally_at position s frames) (tallies_from (position + 1) p frames) j (length frame.bytes)))

-- one packet more is counted for its stream
pub tallies-more : (p : List Stream) (frames : List Frame) (frame : Frame)
    → tallies p (frames ++ frame ∷ []) ≡ counted (tallies p frames) frame.stream (length frame.bytes)
unfolding tallies
tallies-more p frames frame = tallies_from-more frame.stream 0 p frames frame (omega arith)

-- tallies of some packets are tallies of more
pub AtMostPackets-more : (k m : ℕ) (ts : List Tally) → k ≤ m → AtMostPackets k ts → AtMostPackets m ts
AtMostPackets-more k m [] more are = tt
AtMostPackets-more k m (t ∷ ts) more are =
    let packets = are.0.0 in let bytes = are.0.1 in
    ((omega arith, omega arith), AtMostPackets-more k m ts more are.1)

-- the tally of the stream at a position before the first packet
tallies_from-at : (j position : ℕ) (p : List Stream) (id : ℕ) → IsSomeAnd (slice_get p j) (λ s. id ≡ s.id)
    → slice_get (drop j (tallies_from position p [])) 0 ≡ Some (record { id = id; packets = 0; bytes = 0 })
tallies_from-at j position [] id at = absurd at
tallies_from-at zero position (s ∷ p) id at = rw at refl
tallies_from-at (suc j) position (s ∷ p) id at = tallies_from-at j (position + 1) p id at

pub tallies-at : (j : ℕ) (p : List Stream) (id : ℕ) → IsSomeAnd (slice_get p j) (λ s. id ≡ s.id)
    → slice_get (drop j (tallies p [])) 0 ≡ Some (record { id = id; packets = 0; bytes = 0 })
unfolding tallies
tallies-at j p id at = tallies_from-at j 0 p id at

-- there is one tally for each stream
length-tallies_from : (position : ℕ) (p : List Stream) (frames : List Frame) → length (tallies_from position p frames) ≡ length p
length-tallies_from position [] frames = refl
length-tallies_from position (s ∷ p) frames = ap suc (length-tallies_from (position + 1) p frames)

pub length-tallies : (p : List Stream) (frames : List Frame) → length (tallies p frames) ≡ length p
unfolding tallies
length-tallies p frames = length-tallies_from 0 p frames

-- the bytes of packets
sum_short : (frames : List Frame) → AllByRecursion IsShort frames → sum_by (λ (f : Frame). length f.bytes) frames ≤ 9216 * length frames
sum_short [] short = omega arith
sum_short (f ∷ frames) short =
    let all = sum_by-cons (λ (f : Frame). length f.bytes) f frames in
    let here = short.0 in
    let rest = sum_short frames short.1 in
    omega (arith, all, here, rest)

-- no more are counted than there are
tallies_from-all : (position : ℕ) (p : List Stream) (frames : List Frame) → AllByRecursion IsShort frames → AtMostPackets (length frames) (tallies_from position p frames)
tallies_from-all position [] frames short = tt
tallies_from-all position (s ∷ p) frames short =
    let sent = sent_of position frames in
    let few : length sent ≤ length frames = omega (arith, length-filter (λ (f : Frame). f.stream == position) frames, count_by-le-length (λ (f : Frame). f.stream == position) frames) in
    let bytes = sum_short sent (all-filter IsShort (λ (f : Frame). f.stream == position) frames short) in
    ((few, omega arith), tallies_from-all (position + 1) p frames short)

pub AtMostPackets-all : (p : List Stream) (frames : List Frame) → AllByRecursion IsShort frames → AtMostPackets (length frames) (tallies p frames)
unfolding tallies
AtMostPackets-all p frames short = tallies_from-all 0 p frames short

-- of the first packets of a run
pub AtMostPackets-front : (p : List Stream) (frames : List Frame) (limit k : ℕ) → AllByRecursion IsShort frames → limit ≤ 100000000
    → AtMostPackets 100000000 (tallies p (take k (take limit frames)))
AtMostPackets-front p frames limit k short few =
    let list = take k (take limit frames) in
    let long : length list ≤ limit = omega (arith, length-take k (take limit frames), length-take limit frames) in
    AtMostPackets-more (length list) 100000000 (tallies p list) (omega (arith, long)) (AtMostPackets-all p list (all_take IsShort k (take limit frames) (all_take IsShort limit frames short)))

-- with a packet more
pub AtMostPackets-counted : (k : ℕ) (ts : List Tally) (position bytes : ℕ) → bytes ≤ 9216 → AtMostPackets k ts → AtMostPackets (k + 1) (counted ts position bytes)
AtMostPackets-counted k [] position bytes small are = tt
AtMostPackets-counted k (t ∷ ts) zero bytes small are =
    let packets = are.0.0 in let long = are.0.1 in
    ((omega arith, omega arith), AtMostPackets-more k (k + 1) ts (omega arith) are.1)
AtMostPackets-counted k (t ∷ ts) (suc j) bytes small are =
    let packets = are.0.0 in let long = are.0.1 in
    subst (AtMostPackets (k + 1)) (sym (counted-cons t ts j bytes)) ((omega arith, omega arith), AtMostPackets-counted k ts j bytes small are.1)

-- one packet of some is counted, and the others are still to be
pub count_step : (ts : List Tally) (packets : List Waiting) (i : ℕ) (d : Waiting) → i < length packets
    → all_counted (counted ts (get_or packets i d).key.stream (get_or packets i d).length) (drop (i + 1) packets) ≡ all_counted ts (drop i packets)
count_step ts packets i d within =
    sym (ap (all_counted ts) (drop-cons packets i d within ∙ ap (λ n. get_or packets i d ∷ drop n packets) (sym (add-one i))))

pub small_at : (packets : List Waiting) (i : ℕ) (d : Waiting) → i < length packets → AllByRecursion (λ packet. packet.length ≤ 9216) packets → (get_or packets i d).length ≤ 9216
small_at [] i d within all = absurd (omega arith)
small_at (packet ∷ packets) zero d within all = all.0
small_at (packet ∷ packets) (suc i) d within all = small_at packets i d (omega arith) all.1

-- the id alone
pub id-of : (spec : StreamSpec) (j : ℕ) (p : List Stream) → IsSomeAnd (slice_get p j) (λ s. IsSpecOf s spec) → IsSomeAnd (slice_get p j) (λ s. spec.id ≡ s.id)
id-of spec j [] at = absurd at
id-of spec zero (s ∷ p) at = at.id
id-of spec (suc j) (s ∷ p) at = id-of spec j p at
