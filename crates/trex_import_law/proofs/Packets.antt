-- A run of the streams of fit records sends the records again.
use Rattle.std.proofs.Common.{◌≡◌, ℕ, zero, suc, ◌+◌, ◌-◌, ◌*◌, ◌^◌, ◌<◌, ◌≤◌, true, List, [], ◌∷◌, length, map, take, slice_get, Some, None, Ok, refl, ap, ◌∙◌, arith, lt-ltb}
use Rattle.std.proofs.lemmas.Bool.Decides.{nat_tests}
use Rattle.std.proofs.lemmas.List.{take_all}
use Rattle.std.proofs.Math.Nat.{zero-div}
use Rattle.trex_core.specs.Plan.{frame_at, packet_bytes, schedule}
use Rattle.trex_import.specs.Drafts.{HaveBytes}
use Rattle.trex_import.specs.Fit.{unfit_of}
use Rattle.trex_import.specs.Imported.{first_time, for_each, imported}
use Rattle.trex_io.specs.Seen.{Seen}
use Rattle.trex_json.specs.Verdict.{verdict}
use Rattle.trex_merge.specs.Order.{is_before, joined, ordered, placed}
use Rattle.trex_pcap.specs.Writing.{capture_of}
use Rattle.trex_profile.specs.Chains.{chain_by, period, starts_from}
use Rattle.trex_profile.specs.Links.{links}
use Rattle.trex_profile.specs.Packets.{packet_of}
use Rattle.trex_profile.specs.Stream.{Stream}
use Rattle.trex_profile.specs.Visits.{link_at, round_of}
use Rattle.trex_core.specs.Texts.{packet_at}
use Rattle.trex_run.specs.Capture.{capture, capture_text, sequence}
use Rattle.trex_sched.specs.declared.chain.Leg.{Leg}
use Rattle.trex_sched.specs.declared.mode.Mode.TheVariants.{SingleBurst}
use Rattle.trex_sched.specs.declared.period.Period.{Period}
use Rattle.trex_sched.specs.declared.slot.Slot.{Slot}
use Rattle.trex_sched.specs.Chain.{Chain}
use Rattle.trex_sched.specs.Entries.{entries, key_of}
use Rattle.trex_sched.specs.Runs.{runs_from}
use Rattle.trex_words.specs.declared.asked.RunAsk.{RunAsk}
use Rattle.trex_import_law.proofs.Fit.{AreFit, count-each, profile-from}
use Rattle.trex_import_law.proofs.Rules.{imported-verdict, no-links, round-alone}
use Rattle.trex_import_law.specs.Resent.{RunsThrough, once, packet_after, resent, sent_again, sent_once, streams_of}

-- the only packet of the stream at a position, so many nanoseconds from the start
abbrev slot_at : ℕ → ℕ → Slot
slot_at position ns = record { time = ns; stream = position; number = 0; in_run = 0 }

-- the same, whatever its bytes are
abbrev slot_for : ℕ → ℕ → List ℕ → Slot
slot_for position ns bytes = slot_at position ns

-- ---- one chain

-- a leg that sends one packet
abbrev one_packet : ℕ → ℕ → Period → Leg
one_packet position ns period = record { stream = position; isg = ns; period = period; mode = SingleBurst 1; actions = 0 }

-- the chain of that leg
abbrev chain_alone : ℕ → ℕ → Period → Chain
chain_alone position ns period = record { legs = one_packet position ns period ∷ []; back = None }

-- no run comes after the last
no-runs : (chain : Chain) (n : ℕ) → runs_from chain n None ≡ []
no-runs chain zero = refl
no-runs chain (suc n) = refl

-- what the chain sends: its one packet, where that stands below the duration
entries-one : (position ns d : ℕ) (period : Period) → ns < d → entries (chain_alone position ns period) d ≡ slot_at position ns ∷ []
entries-one position ns zero period early = absurd (omega arith)
entries-one position ns (suc n) period early =
    let begins : 0 + ns ≡ ns = omega arith in
    let none : 0 * period.num ≡ 0 = omega arith in
    let there : ns + 0 ≡ ns = omega arith in
    rw (no-runs (chain_alone position ns period) n, begins, lt-ltb ns (suc n) early, none, zero-div period.den, there, lt-ltb ns (suc n) early) refl

-- ---- all chains

-- in a list of streams, those of the records stand from a position on
abbrev StandFrom : ℕ → List Stream → ℕ → ℕ → List Seen → Type 0
StandFrom position all start number rs = (k : ℕ) → slice_get all (position + k) ≡ slice_get (for_each once start number rs) k

-- the first of them stands at the position, the others from the next one on
first-stands : (position : ℕ) (all : List Stream) (start number : ℕ) (r : Seen) (rs : List Seen) → StandFrom position all start number (r ∷ rs)
    → slice_get all position ≡ Some (once number (r.time - start) r.bytes)
first-stands position all start number r rs stand = ap (slice_get all) (omega arith) ∙ stand 0

others-stand : (position : ℕ) (all : List Stream) (start number : ℕ) (r : Seen) (rs : List Seen) → StandFrom position all start number (r ∷ rs)
    → StandFrom (position + 1) all start (number + 1) rs
others-stand position all start number r rs stand k = ap (slice_get all) (omega arith) ∙ stand (suc k)

-- each stream of a record is the only one of its chain
chains-send : (all : List Stream) → ((at : ℕ) → link_at (links all) at ≡ None) → (d start before position number : ℕ) (rs : List Seen) → 10 ^ 18 ≤ d
    → AreFit start before number rs
    → StandFrom position all start number rs
    → joined (map (λ chain. entries chain d) (map (λ at. chain_by all (round_of (links all) at)) (starts_from position (for_each once start number rs))))
    ≡ for_each slot_for start position rs
chains-send all none d start before position number [] long fit stand = refl
chains-send all none d start before position number (r ∷ rs) long fit stand =
    let ns = r.time - start in
    let here = first-stands position all start number r rs stand in
    let near : ns < 10 ^ 18 = fit.0.near in
    let early : ns < d = omega arith in
    let later = chains-send all none d start r.time (position + 1) (number + 1) rs long fit.1 (others-stand position all start number r rs stand) in
    rw (round-alone (links all) position (none position), here, entries-one position ns d (period (once number ns r.bytes)) early, later) refl

-- ---- in order

-- an earlier stream goes first, unless it is later in time
goes-first : (a b : Slot) → a.time ≤ b.time → a.stream < b.stream → is_before (key_of a) (key_of b) ≡ true
goes-first a b times streams = grind (arith, nat_tests)

-- times don't fall and positions rise, so the packets stand in order
slots-ordered : (start before position number : ℕ) (rs : List Seen) → AreFit start before number rs
    → ordered key_of (for_each slot_for start position rs) ≡ for_each slot_for start position rs
slots-ordered start before position number [] fit = refl
slots-ordered start before position number (r ∷ []) fit = refl
slots-ordered start before position number (r ∷ s ∷ rs) fit =
    let later : r.time ≤ s.time = fit.1.0.later in
    let first = goes-first (slot_at position (r.time - start)) (slot_at (position + 1) (s.time - start)) (omega arith) (omega arith) in
    ap (placed key_of (slot_at position (r.time - start))) (slots-ordered start r.time (position + 1) (number + 1) (s ∷ rs) fit.1) ∙ rw first refl

-- ---- with their bytes

-- the packet of a stream of a record is the record's bytes
packet-same : (number ns : ℕ) (bytes : List ℕ) (at place time : ℕ) → packet_of (once number ns bytes) at place time ≡ bytes
packet-same number ns bytes at place time = take_all (length bytes) bytes (omega arith)

-- the packets with their bytes
frames-same : (all : List Stream) (base start position number : ℕ) (rs : List Seen)
    → StandFrom position all start number rs
    → map (frame_at all base) (for_each slot_for start position rs) ≡ for_each sent_once start position rs
unfolding packet_bytes
frames-same all base start position number [] stand = refl
frames-same all base start position number (r ∷ rs) stand =
    let ns = r.time - start in
    let here = first-stands position all start number r rs stand in
    let later = frames-same all base start (position + 1) (number + 1) rs (others-stand position all start number r rs stand) in
    rw (here, packet-same number ns r.bytes 0 0 (base * 10 ^ 9 + ns), later) refl

-- the packets as those of a capture
packets-same : (base start position number : ℕ) (rs : List Seen)
    → map (packet_at base) (for_each sent_once start position rs) ≡ for_each (packet_after base) start number rs
packets-same base start position number [] = refl
packets-same base start position number (r ∷ rs) = ap (λ ps. packet_after base number (r.time - start) r.bytes ∷ ps) (packets-same base start (position + 1) (number + 1) rs)

-- ---- the run

pub imported-sequence : (rs : List Seen) → unfit_of rs ≡ None → (ask : RunAsk) → RunsThrough ask rs
    → sequence (streams_of rs) ask ≡ sent_again rs
unfolding sequence schedule
imported-sequence rs fit ask through =
    let are = profile-from rs fit in
    let start = first_time rs in
    let all = streams_of rs in
    let stand : StandFrom 0 all start 1 rs = λ k. ap (slice_get all) (omega arith) in
    let sent = chains-send all (no-links all start 1 rs) ask.duration start start 0 1 rs (omega (arith, through.duration)) are.fit stand in
    let slots = for_each slot_for start 0 rs in
    let whole = take_all ask.limit slots (omega (arith, count-each slot_for start 0 rs, through.limit)) in
    ap (λ xs. map (frame_at all ask.base) (take ask.limit (ordered key_of xs))) sent
    ∙ ap (λ xs. map (frame_at all ask.base) (take ask.limit xs)) (slots-ordered start start 0 1 rs are.fit)
    ∙ ap (map (frame_at all ask.base)) whole
    ∙ frames-same all ask.base start 0 1 rs stand

imported-capture : (rs : List Seen) → unfit_of rs ≡ None → (ask : RunAsk) → RunsThrough ask rs
    → capture (streams_of rs) ask ≡ capture_of (resent ask.base rs)
imported-capture rs fit ask through =
    ap (capture_text ask.base) (imported-sequence rs fit ask through) ∙ ap capture_of (packets-same ask.base (first_time rs) 0 1 rs)

pub imported-run : (rs : List Seen) → unfit_of rs ≡ None → HaveBytes rs
    → (p : List Stream) × (verdict (imported rs) ≡ Ok p) × ((ask : RunAsk) → RunsThrough ask rs → capture p ask ≡ capture_of (resent ask.base rs))
imported-run rs fit have = (streams_of rs, imported-verdict rs fit have, imported-capture rs fit)
