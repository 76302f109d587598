-- A text that is written in pieces, and the records of packets as such a text.
use Rattle.std.proofs.Common.{◌≡◌, ℕ, ◌+◌, ◌≤◌, List, [], ◌∷◌, ◌++◌, length, map, sum_by, take, drop, slice_get, Option, Some, Result, Ok, Err, OnOk, OnErr, sym, ap, ◌∙◌, subst, append_assoc, append-nil, zero-add}
use Rattle.std.specs.List.{flat_map}
use Rattle.std.proofs.lemmas.List.{map-append}
use Rattle.std.proofs.lemmas.Grind.{flat_map-append}
use Rattle.trex_io.specs.Texts.{Writes, WrotePart}
use Rattle.trex_io.proofs.TextLemmas.{Wrote-after, WrotePart-after, WrotePart-longer}
use Rattle.trex_pcap.specs.Writing.{Packet, file_header, record_of, capture_of}
use Rattle.trex_run.specs.Pieces.{WrittenAndPending}
use Rattle.trex_run.proofs.ListLemmas.{take-front, take-next}
use Rattle.std.proofs.Math.Seq.{take-length}
use Rattle.std.proofs.lemmas.List.Sums.{sum_by_push}
use Rattle.trex_merge.specs.Frames.{Frame}
use Rattle.trex_sum.specs.Checksum.{fold_of, sum_of}
use Rattle.trex_run.specs.declared.counts.Counts.{Counts}
use Rattle.trex_core.specs.Texts.{packet_at, records_text}
use Rattle.trex_run.specs.Capture.{capture_text}
use Rattle.trex_run.specs.Counts.{counts_of}

module _ {K : Type 0} (held : K → Option (List ℕ)) (a b c : K) (piece text : List ℕ) where
  -- a record more
  pub WrittenAndPending-more : (record_text piece' : List ℕ) → WrittenAndPending held a b piece text → WrittenAndPending held b c piece' (piece ++ record_text) → WrittenAndPending held a c piece' (text ++ record_text)
  WrittenAndPending-more record_text piece' (front, first, is) (front', next, is') = (
    front ++ front',
    Wrote-after held a b c front front' first next,
    ap (λ l. l ++ record_text) is ∙ append_assoc front piece record_text ∙ ap (λ l. front ++ l) is' ∙ sym (append_assoc front front' piece'),
  )

  -- the piece and what is to come behind it are written in part
  pub WrittenAndPending-behind : (behind rest : List ℕ) → WrittenAndPending held a b piece text → WrotePart held b c (piece ++ behind) → WrotePart held a c ((text ++ behind) ++ rest)
  WrittenAndPending-behind behind rest (front, first, is) part =
      WrotePart-longer held a c (text ++ behind) rest
      (subst (WrotePart held a c) (sym (append_assoc front piece behind) ∙ ap (λ l. l ++ behind) (sym is)) (WrotePart-after held a b c front (piece ++ behind) first part))

  -- the piece is written in part
  pub WrittenAndPending-part : (rest : List ℕ) → WrittenAndPending held a b piece text → WrotePart held b c piece → WrotePart held a c (text ++ rest)
  WrittenAndPending-part rest (front, first, is) part =
      WrotePart-longer held a c text rest (subst (WrotePart held a c) (sym is) (WrotePart-after held a b c front piece first part))

-- a text that is written itself, where the piece is empty
pub written_itself : {K T E : Type 0} (held : K → Option (List ℕ)) (faults : K → ℕ) (a b c : K) (result : Result T E) (piece piece' text : List ℕ)
    → WrittenAndPending held a b piece' piece → piece' ≡ [] → Writes held faults b c result text
    → OnOk result (WrittenAndPending held a c piece' (piece ++ text)) × OnErr result (WrotePart held a c (piece ++ text))
written_itself held faults a b c (Ok x) piece piece' text (front, wrote, is) empty writes =
    let all : piece ≡ front = is ∙ ap (λ l. front ++ l) empty ∙ append-nil front in (
      (
        front ++ text,
        Wrote-after held a b c front text wrote writes.whole,
        ap (λ l. l ++ text) all ∙ sym (append-nil (front ++ text)) ∙ ap (λ l. (front ++ text) ++ l) (sym empty),
      ),
      tt,
    )
written_itself held faults a b c (Err e) piece piece' text (front, wrote, is) empty writes =
    let all : piece ≡ front = is ∙ ap (λ l. front ++ l) empty ∙ append-nil front in
    (tt, subst (λ l. WrotePart held a c (l ++ text)) (sym all) (WrotePart-after held a b c front text wrote writes.part))

-- some packets more are their records more
pub capture_text-append : (base : ℕ) (xs ys : List Frame) → capture_text base (xs ++ ys) ≡ capture_text base xs ++ records_text base ys
capture_text-append base xs ys =
    ap capture_of (map-append (packet_at base) xs ys)
    ∙ ap (λ l. file_header ++ l) (flat_map-append record_of (map (packet_at base) xs) (map (packet_at base) ys))
    ∙ sym (append_assoc file_header (flat_map record_of (map (packet_at base) xs)) (flat_map record_of (map (packet_at base) ys)))

-- one packet more is one record more
pub capture_of-more : {X : Type 0} (f : X → Packet) (slots : List X) (slot : X) → capture_of (map f (slots ++ slot ∷ [])) ≡ capture_of (map f slots) ++ record_of (f slot)
capture_of-more f slots slot =
    ap capture_of (map-append f slots (slot ∷ []))
    ∙ ap (λ l. file_header ++ l) (flat_map-append record_of (map f slots) (f slot ∷ []) ∙ ap (λ l. flat_map record_of (map f slots) ++ l) (append-nil (record_of (f slot))))
    ∙ sym (append_assoc file_header (flat_map record_of (map f slots)) (record_of (f slot)))

-- the capture of the first packets is the front of that of more
pub capture_of-front : {X : Type 0} (f : X → Packet) (k m : ℕ) (slots : List X) → k ≤ m
    → (rest : List ℕ) × (capture_of (map f (take m slots)) ≡ capture_of (map f (take k slots)) ++ rest)
capture_of-front f k m slots within =
    let rest : List ℕ = flat_map record_of (map f (drop k (take m slots))) in (
      rest,
      ap (λ l. capture_of (map f l)) (take-front k m slots within)
          ∙ ap capture_of (map-append f (take k slots) (drop k (take m slots)))
          ∙ ap (λ l. file_header ++ l) (flat_map-append record_of (map f (take k slots)) (map f (drop k (take m slots))))
          ∙ sym (append_assoc file_header (flat_map record_of (map f (take k slots))) rest),
    )

-- ---- what is counted of the packets as they go by

-- one packet more
pub summed-more : (all : List Frame) (k n : ℕ) (frame : Frame) → slice_get (drop k all) 0 ≡ Some frame → n ≡ k + 1
    → capture_text 0 (take k all) ++ record_of (record { time = frame.time; bytes = frame.bytes }) ≡ capture_text 0 (take n all)
summed-more all k n frame found more =
    let same : record_of (packet_at 0 frame) ≡ record_of (record { time = frame.time; bytes = frame.bytes }) =
    ap (λ (t : ℕ). record_of (record { time = t; bytes = frame.bytes })) (zero-add frame.time) in
    ap (λ (r : List ℕ). capture_text 0 (take k all) ++ r) (sym same) ∙ sym (capture_of-more (packet_at 0) (take k all) frame)
    ∙ ap (capture_text 0) (sym (take-next k all frame found)) ∙ ap (λ m. capture_text 0 (take m all)) (sym more)

pub bytes-more : (all : List Frame) (k n : ℕ) (frame : Frame) → slice_get (drop k all) 0 ≡ Some frame → n ≡ k + 1
    → sum_by (λ (f : Frame). length f.bytes) (take k all) + length frame.bytes ≡ sum_by (λ (f : Frame). length f.bytes) (take n all)
bytes-more all k n frame found more =
    sym (sum_by_push (λ (f : Frame). length f.bytes) (take k all) frame)
    ∙ ap (sum_by (λ (f : Frame). length f.bytes)) (sym (take-next k all frame found)) ∙ ap (λ m. sum_by (λ (f : Frame). length f.bytes) (take m all)) (sym more)

-- once all went by
pub counted-all : (all : List Frame) (k packets bytes sum : ℕ) → k ≡ length all → packets ≡ k → bytes ≡ sum_by (λ (f : Frame). length f.bytes) (take k all)
    → sum ≡ fold_of (sum_of (capture_text 0 (take k all))) → (let counts : Counts = record { packets = packets; bytes = bytes; sum = sum } in counts ≡ counts_of all)
counted-all all k packets bytes sum whole packets_are bytes_are sum_is =
    let same : take k all ≡ all = ap (λ n. take n all) whole ∙ take-length all in
    ap (λ (n : ℕ). let counts : Counts = record { packets = n; bytes = bytes; sum = sum } in counts) (packets_are ∙ whole)
    ∙ ap (λ (n : ℕ). let counts : Counts = record { packets = length all; bytes = n; sum = sum } in counts) (bytes_are ∙ ap (sum_by (λ (f : Frame). length f.bytes)) same)
    ∙ ap (λ (n : ℕ). let counts : Counts = record { packets = length all; bytes = sum_by (λ (f : Frame). length f.bytes) all; sum = n } in counts)
    (sum_is ∙ ap (λ l. fold_of (sum_of (capture_text 0 l))) same)
