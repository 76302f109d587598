-- The packets of a batch, and their records.
use Rattle.std.proofs.Common.{◌≡◌, ℕ, zero, suc, ◌+◌, ◌*◌, ◌-◌, ◌≤◌, ◌<◌, ◌&&◌, nat_lt, nat_le, true, List, [], ◌∷◌, ◌++◌, length, map, take, drop, eqb, get_or, slice_get, Some, refl, sym, ap, ◌∙◌, subst, append_assoc, take_all, length-append, length-drop, arith}
use Rattle.std.proofs.Math.Seq.{drop-cons}
use Rattle.std.specs.List.{AllByRecursion, flat_map}
use Rattle.std.proofs.lemmas.Bool.Decides.{nat_tests}
use Rattle.std.proofs.lemmas.Grind.{flat_map-append}
use Rattle.std.proofs.lemmas.List.{append-nil, drop_at, drop-drop, drop-map, length-map, map-append, take_at, take-append-drop, take-map}
use Rattle.std.proofs.lemmas.List.Sums.{sum_by-append, sum_by-cons}
use Rattle.trex_pcap.specs.Writing.{record_header_of, record_of}
use Rattle.std.specs.Option.{option_map}
use Rattle.trex_merge.specs.declared.key.Key.{Key}
use Rattle.trex_merge.specs.Frames.{Frame, key_of}
use Rattle.trex_merge.specs.Queues.{is_none_left}
use Rattle.trex_core.specs.declared.batch.TheConstants.{BATCH_PACKETS, BATCH_BYTES, RECORD_HEADER}
use Rattle.trex_core.specs.declared.waiting.Waiting.{Waiting}
use Rattle.trex_core.specs.Batches.{IsWithin, bytes_of, has_room_for}
use Rattle.trex_core.specs.Records.{AreBatch, BatchView, frame_with, frames_of, text_length, waiting_of, with_frame}
use Rattle.trex_core.specs.Texts.{packet_at, records_text}

-- the header of a record has as many bytes as that of every other
length-record_header_of : (time n : ℕ) → length (record_header_of time n) ≡ RECORD_HEADER
unfolding record_header_of
length-record_header_of time n = refl

-- the records of two lists of packets stand one after another
pub records_text-append : (base : ℕ) (xs ys : List Frame) → records_text base (xs ++ ys) ≡ records_text base xs ++ records_text base ys
records_text-append base xs ys =
    ap (flat_map record_of) (map-append (packet_at base) xs ys) ∙ flat_map-append record_of (map (packet_at base) xs) (map (packet_at base) ys)

-- the record of a first packet: its header, its bytes, and the others' records
pub records_text-first : (base : ℕ) (f : Frame) (fs : List Frame)
    → records_text base (f ∷ fs) ≡ record_header_of (packet_at base f).time (length f.bytes) ++ (f.bytes ++ records_text base fs)
records_text-first base f fs = append_assoc (record_header_of (packet_at base f).time (length f.bytes)) f.bytes (records_text base fs)

-- a record is as long as its header and its packet
length-record_of : (base : ℕ) (f : Frame) → length (record_of (packet_at base f)) ≡ RECORD_HEADER + length f.bytes
length-record_of base f =
    let header = record_header_of (packet_at base f).time (length f.bytes) in
    length-append header f.bytes ∙ ap (λ n. n + length f.bytes) (length-record_header_of (packet_at base f).time (length f.bytes))

-- what is known of packets tells how long their records are
pub text_length-waiting : (base : ℕ) (fs : List Frame) → text_length (map waiting_of fs) ≡ length (records_text base fs)
text_length-waiting base [] = refl
text_length-waiting base (f ∷ fs) =
    let record_f = record_of (packet_at base f) in
    sum_by-cons (λ (w : Waiting). RECORD_HEADER + w.length) (waiting_of f) (map waiting_of fs)
    ∙ omega (arith, text_length-waiting base fs, length-append record_f (records_text base fs), length-record_of base f)

-- records are as long as their headers and their packets
pub length-records_text : (base : ℕ) (fs : List Frame) → length (records_text base fs) ≡ bytes_of fs + RECORD_HEADER * length fs
length-records_text base [] = refl
length-records_text base (f ∷ fs) =
    let record_f = record_of (packet_at base f) in
    omega (
      arith,
      length-records_text base fs,
      length-append record_f (records_text base fs),
      length-record_of base f,
      sum_by-cons (λ (x : Frame). length x.bytes) f fs,
    )

-- what is known of packets and their records give the packets back
pub frames_of-records : (base : ℕ) (fs : List Frame) → frames_of (map waiting_of fs) (records_text base fs) ≡ fs
frames_of-records base [] = refl
frames_of-records base (f ∷ fs) =
    let header = record_header_of (packet_at base f).time (length f.bytes) in
    let rest = records_text base fs in
    let text = records_text base (f ∷ fs) in
    let n = length f.bytes in
    let behind : drop RECORD_HEADER text ≡ f.bytes ++ rest =
    ap (drop RECORD_HEADER) (records_text-first base f fs) ∙ drop_at header (f.bytes ++ rest) RECORD_HEADER (length-record_header_of (packet_at base f).time n) in
    let bytes : take n (drop RECORD_HEADER text) ≡ f.bytes = ap (take n) behind ∙ take_at f.bytes rest n refl in
    let others : drop (RECORD_HEADER + n) text ≡ rest = sym (drop-drop n RECORD_HEADER text) ∙ ap (drop n) behind ∙ drop_at f.bytes rest n refl in
    ap (λ (bs : List ℕ). let g : Frame = record { time = f.time; stream = f.stream; number = f.number; bytes = bs } in g ∷ frames_of (map waiting_of fs) (drop (RECORD_HEADER + n) text)) bytes
    ∙ ap (λ (ts : List ℕ). f ∷ frames_of (map waiting_of fs) ts) others
    ∙ ap (λ (gs : List Frame). f ∷ gs) (frames_of-records base fs)

-- what is kept of some packets is a batch, and it is theirs
pub batch_of_frames : (base : ℕ) (ws : List Waiting) (text : List ℕ) (fs : List Frame) → ws ≡ map waiting_of fs → text ≡ records_text base fs → IsWithin fs
    → AreBatch base ws text × (frames_of ws text ≡ fs)
batch_of_frames base ws text fs known records within =
    let is : frames_of ws text ≡ fs =
    ap (λ (v : List Waiting). frames_of v text) known ∙ ap (frames_of (map waiting_of fs)) records ∙ frames_of-records base fs in (
      record {
        known = known ∙ ap (map waiting_of) (sym is);
        records = records ∙ ap (records_text base) (sym is);
        within = subst IsWithin (sym is) within;
      },
      is,
    )

-- two tests of numbers
both_hold : (a b c d : ℕ) → (nat_lt a b && nat_le c d) ≡ true → (a < b) × (c ≤ d)
both_hold a b c d h = (grind (arith, nat_tests), grind (arith, nat_tests))

-- what it means that there is room for one more packet
pub room : (fs : List Frame) (count : ℕ) → has_room_for fs count ≡ true → (length fs < BATCH_PACKETS) × (bytes_of fs + count ≤ BATCH_BYTES)
room fs count has = both_hold (length fs) BATCH_PACKETS (bytes_of fs + count) BATCH_BYTES has

-- one packet more is within the limits
pub within_more : (fs : List Frame) (f : Frame) → has_room_for fs (length f.bytes) ≡ true → IsWithin (fs ++ f ∷ [])
within_more fs f has =
    let fits = room fs (length f.bytes) has in
    let size : Frame → ℕ = λ x. length x.bytes in
    let more : bytes_of (fs ++ f ∷ []) ≡ bytes_of fs + bytes_of (f ∷ []) = sum_by-append size fs (f ∷ []) in
    let one : bytes_of (f ∷ []) ≡ length f.bytes + 0 = sum_by-cons size f [] in
    let packets : length (fs ++ f ∷ []) ≡ length fs + 1 = length-append fs (f ∷ []) in
    record { packets = omega (arith, fits.0, packets); bytes = omega (arith, fits.1, more, one) }

-- without their first ones too
pub within_drop : (n : ℕ) (fs : List Frame) → IsWithin fs → IsWithin (drop n fs)
within_drop n fs within =
    let size : Frame → ℕ = λ x. length x.bytes in
    let all : bytes_of fs ≡ bytes_of (take n fs) + bytes_of (drop n fs) = ap bytes_of (sym (take-append-drop n fs)) ∙ sum_by-append size (take n fs) (drop n fs) in
    record { packets = omega (arith, within.packets, length-drop n fs); bytes = omega (arith, within.bytes, all) }

-- the text of the first packets and of the others
pub records_text-parts : (base n : ℕ) (fs : List Frame) → records_text base fs ≡ records_text base (take n fs) ++ records_text base (drop n fs)
records_text-parts base n fs = ap (records_text base) (sym (take-append-drop n fs)) ∙ records_text-append base (take n fs) (drop n fs)

-- the first packets of a batch, and what is left of it behind them
pub first_records : (base n : ℕ) (fs : List Frame) → take (length (records_text base (take n fs))) (records_text base fs) ≡ records_text base (take n fs)
first_records base n fs =
    let front = records_text base (take n fs) in
    ap (take (length front)) (records_text-parts base n fs) ∙ take_at front (records_text base (drop n fs)) (length front) refl

pub other_records : (base n : ℕ) (fs : List Frame) → drop (length (records_text base (take n fs))) (records_text base fs) ≡ records_text base (drop n fs)
other_records base n fs =
    let front = records_text base (take n fs) in
    ap (drop (length front)) (records_text-parts base n fs) ∙ drop_at front (records_text base (drop n fs)) (length front) refl

-- the records of a batch's first packets are as long as what is known of them tells
pub length-first_records : (base n : ℕ) (ws : List Waiting) (text : List ℕ) → AreBatch base ws text
    → text_length (take n ws) ≡ length (records_text base (take n (frames_of ws text)))
length-first_records base n ws text batch =
    let fs = frames_of ws text in
    ap (λ (v : List Waiting). text_length (take n v)) batch.known ∙ ap text_length (take-map waiting_of n fs) ∙ text_length-waiting base (take n fs)

-- they are the front of its text
pub first_records_of : (base n : ℕ) (ws : List Waiting) (text : List ℕ) → AreBatch base ws text
    → (take (text_length (take n ws)) text ≡ records_text base (take n (frames_of ws text))) × (text_length (take n ws) ≤ length text)
first_records_of base n ws text batch =
    let fs = frames_of ws text in
    let long = length-first_records base n ws text batch in
    let parts = records_text-parts base n fs in
    let sizes = length-append (records_text base (take n fs)) (records_text base (drop n fs)) in (
      ap (λ (m : ℕ). take m text) long ∙ ap (take (length (records_text base (take n fs)))) batch.records ∙ first_records base n fs,
      omega (arith, long, ap length batch.records, ap length parts, sizes),
    )

-- a batch after its first packets, which are passed with their records
pub batch_behind : (base taken from n passed : ℕ) (packets : List Waiting) (text : List ℕ) → AreBatch base (drop taken packets) (drop from text)
    → passed ≡ text_length (take n (drop taken packets)) → from ≤ length text
    → AreBatch base (drop (taken + n) packets) (drop (from + passed) text)
    × (frames_of (drop (taken + n) packets) (drop (from + passed) text) ≡ drop n (frames_of (drop taken packets) (drop from text)))
    × (from + passed ≤ length text)
batch_behind base taken from n passed packets text batch is within =
    let ws = drop taken packets in
    let ts = drop from text in
    let fs = frames_of ws ts in
    let long = length-first_records base n ws ts batch in
    let known : drop (taken + n) packets ≡ map waiting_of (drop n fs) = sym (drop-drop n taken packets) ∙ ap (drop n) batch.known ∙ drop-map waiting_of n fs in
    let records : drop (from + passed) text ≡ records_text base (drop n fs) =
    sym (drop-drop passed from text) ∙ ap (λ m. drop m ts) (is ∙ long) ∙ ap (drop (length (records_text base (take n fs)))) batch.records ∙ other_records base n fs in
    let now = batch_of_frames base (drop (taken + n) packets) (drop (from + passed) text) (drop n fs) known records (within_drop n fs batch.within) in
    (now.0, now.1, omega (arith, is, (first_records_of base n ws ts batch).1, length-drop from text))

-- a batch with one packet more
batch_more : (base : ℕ) (ws : List Waiting) (text : List ℕ) (f : Frame) → AreBatch base ws text → has_room_for (frames_of ws text) (length f.bytes) ≡ true
    → AreBatch base (ws ++ waiting_of f ∷ []) (text ++ record_of (packet_at base f)) × (frames_of (ws ++ waiting_of f ∷ []) (text ++ record_of (packet_at base f)) ≡ frames_of ws text ++ f ∷ [])
batch_more base ws text f batch has =
    let fs = frames_of ws text in
    let one : records_text base (f ∷ []) ≡ record_of (packet_at base f) = append-nil (record_of (packet_at base f)) in
    batch_of_frames base (ws ++ waiting_of f ∷ []) (text ++ record_of (packet_at base f)) (fs ++ f ∷ [])
    (ap (λ (v : List Waiting). v ++ waiting_of f ∷ []) batch.known ∙ sym (map-append waiting_of fs (f ∷ [])))
    (ap (λ (t : List ℕ). t ++ record_of (packet_at base f)) batch.records ∙ ap (λ (t : List ℕ). records_text base fs ++ t) (sym one) ∙ sym (records_text-append base fs (f ∷ [])))
    (within_more fs f has)

-- there are as many packets as are known, and their records are as long as the text
pub batch_long : (base : ℕ) (ws : List Waiting) (text : List ℕ) → AreBatch base ws text
    → (length (frames_of ws text) ≡ length ws) × (length text ≡ bytes_of (frames_of ws text) + RECORD_HEADER * length ws)
batch_long base ws text batch =
    let fs = frames_of ws text in
    let long : length fs ≡ length ws = sym (length-map fs waiting_of) ∙ ap length (sym batch.known) in
    (long, omega (arith, ap length batch.records, length-records_text base fs, long))

-- whether there is a packet
pub none_left : (ws : List Waiting) (text : List ℕ) → is_none_left (frames_of ws text) ≡ eqb (length ws) 0
none_left [] text = refl
none_left (w ∷ ws) text = grind (arith, nat_tests)

-- what holds of all packets holds of those behind the first ones
pub all_drop : (P : Frame → Type 0) (n : ℕ) (fs : List Frame) → AllByRecursion P fs → AllByRecursion P (drop n fs)
all_drop P zero fs all = all
all_drop P (suc n) [] all = tt
all_drop P (suc n) (f ∷ fs) all = all_drop P n fs all.1

-- the first packet of a batch: its record lies within the text, and its bytes stand behind the record's header
pub head_is : (base taken from : ℕ) (packets : List Waiting) (text : List ℕ) (w : Waiting) → AreBatch base (drop taken packets) (drop from text)
    → taken < length packets → from ≤ length text → w ≡ get_or packets taken w
    → (from + (RECORD_HEADER + w.length) ≤ length text)
    × (slice_get (frames_of (drop taken packets) (drop from text)) 0 ≡ Some (frame_with w.key (take w.length (drop (from + RECORD_HEADER) text))))
head_is base taken from packets text w batch within short is =
    let first : drop taken packets ≡ w ∷ drop (suc taken) packets = drop-cons packets taken w within ∙ ap (λ (x : Waiting). x ∷ drop (suc taken) packets) (sym is) in
    let one : text_length (w ∷ []) ≡ RECORD_HEADER + w.length = omega arith in
    let passed : RECORD_HEADER + w.length ≡ text_length (take 1 (drop taken packets)) = sym one ∙ ap (λ (v : List Waiting). text_length (take 1 v)) (sym first) in
    let front = first_records_of base 1 (drop taken packets) (drop from text) batch in (
      omega (arith, passed, front.1, length-drop from text),
      ap (λ (v : List Waiting). slice_get (frames_of v (drop from text)) 0) first
          ∙ ap (λ (bs : List ℕ). Some (frame_with w.key (take w.length bs))) (drop-drop RECORD_HEADER from text),
    )

-- where a first packet has a key there is one
pub some_first : (fs : List Frame) (key : Key) → Some key ≡ option_map key_of (slice_get fs 0) → 0 < length fs
some_first [] key is = absurd (cc)
some_first (f ∷ fs) key is = omega arith

-- its key and its bytes are all of it
pub first_of : (fs : List Frame) (key : Key) (bytes : List ℕ) → Some key ≡ option_map key_of (slice_get fs 0) → Some bytes ≡ option_map (λ f. f.bytes) (slice_get fs 0)
    → Some (frame_with key bytes) ≡ slice_get fs 0
first_of [] key bytes is shows = absurd (cc)
first_of (f ∷ fs) key bytes is shows =
    let same : key ≡ key_of f = cc in
    let read : bytes ≡ f.bytes = cc in
    ap (λ (k : Key). Some (frame_with k bytes)) same ∙ ap (λ (bs : List ℕ). Some (frame_with (key_of f) bs)) read

-- what stands behind the first ones of a list that is another
pub rest_is : {X : Type 0} (xs ys : List X) (n : ℕ) → xs ≡ ys → take (length xs - n) (drop n xs) ≡ drop n ys
rest_is xs ys n same = take_all (length xs - n) (drop n xs) (omega (arith, length-drop n xs)) ∙ ap (drop n) same

-- what is kept after one packet more is a batch, and it is seen as the old one with that packet
pub batch_pushed : (base : ℕ) (ws : List Waiting) (text : List ℕ) (old : BatchView) (f : Frame) (n : ℕ) (ws' : List Waiting) (text' : List ℕ) → AreBatch base ws text
    → (let v : BatchView = record { base = base; waiting = frames_of ws text } in v) ≡ old → has_room_for (frames_of ws text) n ≡ true → length f.bytes ≡ n
    → ws' ≡ ws ++ (let w : Waiting = record { key = key_of f; length = n } in w) ∷ [] → text' ≡ text ++ record_of (packet_at base f)
    → AreBatch base ws' text' × ((let v : BatchView = record { base = base; waiting = frames_of ws' text' } in v) ≡ with_frame f old)
batch_pushed base ws text old f n ws' text' batch is has long known records =
    let more = batch_more base ws text f batch (ap (has_room_for (frames_of ws text)) long ∙ has) in
    let p : ws' ≡ ws ++ waiting_of f ∷ [] = known ∙ ap (λ m. ws ++ (let w : Waiting = record { key = key_of f; length = m } in w) ∷ []) (sym long) in
    let all : frames_of ws' text' ≡ frames_of ws text ++ f ∷ [] =
    ap (λ (v : List Waiting). frames_of v text') p ∙ ap (frames_of (ws ++ waiting_of f ∷ [])) records ∙ more.1 in (
      subst (λ (v : List Waiting). AreBatch base v text') (sym p) (subst (AreBatch base (ws ++ waiting_of f ∷ [])) (sym records) more.0),
      ap (λ (fs : List Frame). let v : BatchView = record { base = base; waiting = fs } in v) all ∙ ap (with_frame f) is,
    )
