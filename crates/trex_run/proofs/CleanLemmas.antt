-- What is read of a run's capture: the packets of a stream with a flow came as they were sent.
use Rattle.std.proofs.Common.{◌≡◌, ◌≢◌, ℕ, zero, suc, ◌+◌, ◌*◌, ◌/◌, ◌^◌, ◌==◌, ◌<◌, ◌≤◌, Bool, true, false, cond, List, [], ◌∷◌, ◌++◌, length, map, take, slice_get, Option, None, Some, option_map, IfSome, inl, inr, refl, sym, ap, ◌∙◌, subst, arith}
use Rattle.std.proofs.Math.Nat.{mod-eq_of_lt}
use Rattle.std.proofs.lemmas.Bool.{cases_Bool}
use Rattle.std.proofs.lemmas.Bool.Decides.{nat_tests}
use Rattle.std.specs.List.{AllByRecursion, cons_option}
use Rattle.std.specs.Option.{option_map_or}
use Rattle.trex_core.specs.Plan.{frame_at, packet_bytes}
use Rattle.trex_io.specs.Seen.{Seen}
use Rattle.trex_pcap.specs.Writing.{AllFit, seen_of}
use Rattle.trex_profile.specs.declared.flow.Flow.{Flow}
use Rattle.trex_profile.specs.Flow.{IsFlow, sequence_of, stamp_with}
use Rattle.trex_profile.specs.Packets.{EndsInStamp, packet_of}
use Rattle.trex_profile.specs.Stream.{Stream}
use Rattle.trex_profile.proofs.FlowLemmas.{stamp_with-fits}
use Rattle.trex_sched.specs.declared.slot.Slot.{Slot}
use Rattle.trex_sched.specs.Numbers.{AreNumbered, of_stream}
use Rattle.trex_stamp.specs.declared.header.Stamp.{Stamp}
use Rattle.trex_stamp.specs.declared.header.Version.{Version}
use Rattle.trex_stamp.specs.declared.header.Version.TheVariants.{One, Two}
use Rattle.trex_stamp.specs.Stamp.{IsStamp, stamp_bytes, stamp_of}
use Rattle.trex_stats.specs.Counts.{arrival_in, arrivals, stamp_at as record_stamp, whole_stamp}
use Rattle.trex_stats.specs.Laws.{AreAsSent}
use Rattle.trex_core.specs.Texts.{packet_at}
use Rattle.trex_run.specs.Capture.{sent_of}
use Rattle.trex_run.specs.Clean.{OwnsFlow, has_flow}
use Rattle.trex_run.proofs.StateLemmas.{IsShortStream, short_at}

-- ---- numbers

-- the first packets of a numbered list are numbered
pub numbered_take : (n : ℕ) (stream first : ℕ) (slots : List Slot) → AreNumbered first (of_stream stream slots) → AreNumbered first (of_stream stream (take n slots))
numbered_take zero stream first slots numbered = tt
numbered_take (suc n) stream first [] numbered = tt
numbered_take (suc n) stream first (slot ∷ slots) numbered =
    let Goal : Bool → Type 0 = λ own. AreNumbered first (cond own (slot ∷ of_stream stream slots) (of_stream stream slots))
    → AreNumbered first (cond own (slot ∷ of_stream stream (take n slots)) (of_stream stream (take n slots))) in
    (elim (slot.stream == stream) as Goal [
      | true ↦ λ all. (all.0, numbered_take n stream (first + 1) slots all.1)
      | false ↦ λ all. numbered_take n stream first slots all
    ]) numbered

-- ---- one packet

-- the record of a packet
abbrev pub record_of : List Stream → ℕ → Slot → Seen
record_of p base slot = seen_of (packet_at base (frame_at p base slot))

-- the bytes of a packet of a stream
bytes_at : (p : List Stream) (base : ℕ) (slot : Slot) (s : Stream) → slice_get p slot.stream ≡ Some s
    → packet_bytes p base slot ≡ packet_of s slot.number slot.in_run (base * 10 ^ 9 + slot.time)
unfolding packet_bytes
bytes_at p base slot s at = ap (λ (o : Option Stream). option_map_or (λ s. packet_of s slot.number slot.in_run (base * 10 ^ 9 + slot.time)) o []) at

-- a packet of a stream with a flow ends in its header
ends_in : (s : Stream) (flow : Flow) (number place time : ℕ) → EndsInStamp s → s.flow ≡ Some flow
    → (front : List ℕ) × (packet_of s number place time ≡ front ++ stamp_bytes (stamp_with flow number time))
ends_in s flow number place time ends is =
    let Goal : Option Flow → Type 0 = λ o. IfSome (option_map (λ f. stamp_with f number time) o) (λ st. (front : List ℕ) × (packet_of s number place time ≡ front ++ stamp_bytes st)) in
    subst Goal is (ends number place time)

-- a whole packet's stamp is that at its end
whole_is : (bytes : List ℕ) → whole_stamp bytes (length bytes) ≡ stamp_of bytes
whole_is bytes =
    let same : (length bytes == length bytes) ≡ true = grind (arith, nat_tests) in
    ap (λ (b : Bool). cond b (stamp_of bytes) None) same

-- what stamps are found again
abbrev pub AreFound : Type 0
AreFound = (s : Stamp) (front : List ℕ) → IsStamp s → (s.version ≡ Two → s.sequence / 2 ^ 48 ≢ 0xab01) → stamp_of (front ++ stamp_bytes s) ≡ Some s

-- a number below 2^32 stands in either version's header as it is
sequence-few : (version : Version) (number : ℕ) → number < 2 ^ 32 → sequence_of version number ≡ number
sequence-few One number few = mod-eq_of_lt few
sequence-few Two number few = refl

-- a header of a flow holds such a number, and isn't taken for one of version 1
header_found : (flow : Flow) (front : List ℕ) (number time : ℕ) → AreFound → IsFlow flow → number < 2 ^ 32 → time < 2 ^ 64
    → stamp_of (front ++ stamp_bytes (stamp_with flow number time)) ≡ Some (record { version = flow.version; flow = flow.number; sequence = number; time = time })
header_found flow front number time found is few early =
    let same = sequence-few flow.version number few in
    found (stamp_with flow number time) front (stamp_with-fits flow number time is (omega arith) early) (λ two begins. omega (arith, same, begins))
    ∙ ap (λ n. Some (record { version = flow.version; flow = flow.number; sequence = n; time = time })) same

-- a packet of the stream counts as it was sent
own_arrival : (p : List Stream) (base : ℕ) (flow : Flow) (s : Stream) (slot : Slot) → AreFound → slice_get p slot.stream ≡ Some s → s.flow ≡ Some flow → IsFlow flow
    → EndsInStamp s → slot.number < 2 ^ 32 → slot.time < 10 ^ 18 → base ≤ 3000000000
    → arrival_in flow.number (record_of p base slot).time (record_stamp (record_of p base slot))
    ≡ Some (record { sequence = slot.number; sent = base * 10 ^ 9 + slot.time; came = base * 10 ^ 9 + slot.time })
own_arrival p base flow s slot found at is flow_is ends few early low =
    let time = base * 10 ^ 9 + slot.time in
    let tail = ends_in s flow slot.number slot.in_run time ends is in
    let stamp = whole_is (packet_bytes p base slot) ∙ ap stamp_of (bytes_at p base slot s at ∙ tail.1)
    ∙ header_found flow tail.0 slot.number time found flow_is few (omega arith) in
    let same : (flow.number == flow.number) ≡ true = grind (arith, nat_tests) in
    ap (arrival_in flow.number time) stamp ∙ ap (λ (b : Bool). cond b (Some (record { sequence = slot.number; sent = time; came = time })) None) same

-- a packet that doesn't spell the flow doesn't count for it
other_arrival : (p : List Stream) (base flow : ℕ) (slot : Slot) → has_flow flow (frame_at p base slot) ≡ false
    → arrival_in flow (record_of p base slot).time (record_stamp (record_of p base slot)) ≡ None
other_arrival p base flow slot apart =
    let time = base * 10 ^ 9 + slot.time in
    ap (arrival_in flow time) (whole_is (packet_bytes p base slot))
    ∙ (elim (stamp_of (packet_bytes p base slot)) as (λ o. option_map_or (λ stamp. stamp.flow == flow) o false ≡ false → arrival_in flow time o ≡ None) [
      | None ↦ λ any. refl
      | Some stamp ↦ λ other. ap (λ (b : Bool). cond b (Some (record { sequence = stamp.sequence; sent = stamp.time; came = time })) None) other
    ]) apart

-- ---- all packets

-- The packets of the flow are those of the stream, as they were sent.
pub as_sent : (p : List Stream) (base position : ℕ) (flow : Flow) (first : ℕ) (s : Stream) (slots : List Slot) → AreFound → slice_get p position ≡ Some s → s.flow ≡ Some flow
    → IsFlow flow → EndsInStamp s → base ≤ 3000000000 → AllByRecursion (λ slot. slot.time < 10 ^ 18) slots
    → OwnsFlow position flow.number (map (frame_at p base) slots) → AreNumbered first (of_stream position slots) → first + length (of_stream position slots) ≤ 2 ^ 32
    → AreAsSent first (arrivals (map (record_of p base) slots) flow.number)
    × (length (arrivals (map (record_of p base) slots) flow.number) ≡ length (sent_of position (map (frame_at p base) slots)))
as_sent p base position flow first s [] found at is flow_is ends low early alone numbered few = (tt, refl)
as_sent p base position flow first s (slot ∷ slots) found at is flow_is ends low early alone numbered few =
    elim (cases_Bool (slot.stream == position)) [
      | inl own ↦
          let here : slot.stream ≡ position = grind (arith, nat_tests) in
          let part : of_stream position (slot ∷ slots) ≡ slot ∷ of_stream position slots =
          ap (λ (b : Bool). cond b (slot ∷ of_stream position slots) (of_stream position slots)) own in
          let long : length (of_stream position (slot ∷ slots)) ≡ length (slot ∷ of_stream position slots) = ap length part in
          let all : AreNumbered first (slot ∷ of_stream position slots) = subst (AreNumbered first) part numbered in
          let number = all.0 in
          let rest = as_sent p base position flow (first + 1) s slots found at is flow_is ends low early.1 alone.1 all.1 (omega (arith, few, long)) in
          let a = own_arrival p base flow s slot found (ap (slice_get p) here ∙ at) is flow_is ends (omega (arith, few, long)) early.0 low in
          let arrived : arrivals (map (record_of p base) (slot ∷ slots)) flow.number
          ≡ record { sequence = slot.number; sent = base * 10 ^ 9 + slot.time; came = base * 10 ^ 9 + slot.time } ∷ arrivals (map (record_of p base) slots) flow.number =
          ap (λ o. cons_option o (arrivals (map (record_of p base) slots) flow.number)) a in
          let sent : sent_of position (map (frame_at p base) (slot ∷ slots)) ≡ frame_at p base slot ∷ sent_of position (map (frame_at p base) slots) =
          ap (λ (b : Bool). cond b (frame_at p base slot ∷ sent_of position (map (frame_at p base) slots)) (sent_of position (map (frame_at p base) slots))) own in
          (subst (AreAsSent first) (sym arrived) (number, refl, rest.0), ap length arrived ∙ ap suc rest.1 ∙ sym (ap length sent))
      | inr other ↦
          let apart : ¬ (slot.stream ≡ position) = grind (arith, nat_tests) in
          let part : of_stream position (slot ∷ slots) ≡ of_stream position slots =
          ap (λ (b : Bool). cond b (slot ∷ of_stream position slots) (of_stream position slots)) other in
          let rest = as_sent p base position flow first s slots found at is flow_is ends low early.1 alone.1 (subst (AreNumbered first) part numbered)
          (omega (arith, few, ap length part)) in
          let arrived : arrivals (map (record_of p base) (slot ∷ slots)) flow.number ≡ arrivals (map (record_of p base) slots) flow.number =
          ap (λ o. cons_option o (arrivals (map (record_of p base) slots) flow.number)) (other_arrival p base flow.number slot (alone.0 apart)) in
          let sent : sent_of position (map (frame_at p base) (slot ∷ slots)) ≡ sent_of position (map (frame_at p base) slots) =
          ap (λ (b : Bool). cond b (frame_at p base slot ∷ sent_of position (map (frame_at p base) slots)) (sent_of position (map (frame_at p base) slots))) other in
          (subst (AreAsSent first) (sym arrived) rest.0, ap length arrived ∙ rest.1 ∙ sym (ap length sent))
    ]

-- ---- the capture

-- the records are those of the slots
pub records_of : (p : List Stream) (base : ℕ) (slots : List Slot) → map seen_of (map (packet_at base) (map (frame_at p base) slots)) ≡ map (record_of p base) slots
records_of p base [] = refl
records_of p base (slot ∷ slots) = ap (λ (rs : List Seen). record_of p base slot ∷ rs) (records_of p base slots)

-- the packets fit the records of a capture
pub all_fit : (p : List Stream) (base : ℕ) (slots : List Slot) → AllByRecursion IsShortStream p → base ≤ 3000000000 → AllByRecursion (λ slot. slot.time < 10 ^ 18) slots
    → AllFit (map (packet_at base) (map (frame_at p base) slots))
all_fit p base [] short low early = tt
all_fit p base (slot ∷ slots) short low early =
    let time = early.0 in
    let bytes = short_at p base slot short in
    (omega arith, omega arith, all_fit p base slots short low early.1)

-- the first packets stand below the longest duration
pub early_take : (p : List Stream) (base d n : ℕ) (slots : List Slot) → d ≤ 10 ^ 18 → AllByRecursion (λ frame. frame.time < d) (map (frame_at p base) slots)
    → AllByRecursion (λ slot. slot.time < 10 ^ 18) (take n slots)
early_take p base d zero slots short all = tt
early_take p base d (suc n) [] short all = tt
early_take p base d (suc n) (slot ∷ slots) short all = let time = all.0 in (omega arith, early_take p base d n slots short all.1)
