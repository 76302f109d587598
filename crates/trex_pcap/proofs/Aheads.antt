-- What bytes in memory tell of the front of what begins with them.
use Rattle.std.proofs.Common.{◌≡◌, ℕ, ◌+◌, ◌-◌, ◌^◌, ◌<◌, ◌≤◌, ◌==◌, if◌then◌else◌, List, [], ◌∷◌, ◌++◌, length, take, drop, refl, sym, ap, ◌∙◌, arith, Some, None, append_assoc, length-append, length-drop, take-append-drop}
use Rattle.std.proofs.Math.Seq.{drop-drop}
use Rattle.std.proofs.lemmas.Bool.{eq-eqb, ne_eqb}
use Rattle.std.proofs.lemmas.List.{length-take-le}
use Rattle.trex_pcap.specs.Ahead.{IsWhole, IsAhead}
use Rattle.trex_pcap.specs.declared.ahead.Ahead.TheVariants.{Whole, Faulty, Short}
use Rattle.trex_pcap.specs.declared.fault.CaptureFault.{CaptureFault}
use Rattle.trex_pcap.specs.declared.fault.CaptureFault.TheVariants.{Torn, TooMany}
use Rattle.trex_pcap.specs.declared.format.Format.{Format}
use Rattle.trex_pcap.specs.declared.record.Record.{Record}
use Rattle.trex_pcap.specs.Following.{IsHead, IsOfCapture, seen_by}
use Rattle.trex_pcap.specs.Reading.{ends, stops, holds, front, head_fault, captured_in}
use Rattle.trex_pcap.proofs.Answered.{empty, seen_head}
use Rattle.trex_pcap.proofs.Fronts.{front_none, front_many, front_torn, front_fault, front_cut, front_record}

-- some bytes are there, which is torn
torn : (f : Format) (before : ℕ) (bytes : List ℕ) → 0 < length bytes → front f before bytes ≡ stops (Torn (before + 1))
    → front f before bytes ≡ (if length bytes == 0 then ends else stops (Torn (before + 1)))
torn f before bytes some is = rw (ne_eqb (length bytes) 0 (omega arith)) is

-- no byte is there
pub ahead_none : (f : Format) (before : ℕ) (bytes : List ℕ) → length bytes ≡ 0 → IsAhead f before bytes Short
ahead_none f before bytes none = (omega arith, rw (empty bytes none) (front_none f before))

-- a byte is there behind the last record that may be read
pub ahead_many : (f : Format) (before : ℕ) (bytes : List ℕ) → 0 < length bytes → before ≡ 100000000 → IsAhead f before bytes (Faulty TooMany)
ahead_many f before bytes some full = (tt, λ more. rw full (front_many f (bytes ++ more) (omega (arith, length-append bytes more))))

-- a part of a header is there
pub ahead_torn : (f : Format) (before : ℕ) (bytes : List ℕ) → 0 < length bytes → length bytes < 16 → before < 100000000 → IsAhead f before bytes Short
ahead_torn f before bytes some short few = (omega arith, torn f before bytes some (front_torn f before bytes some short few))

module _ (f : Format) (before : ℕ) (few : before < 100000000) (bytes : List ℕ) (long : 16 ≤ length bytes) where
  abbrev head : List ℕ
  head = take 16 bytes

  abbrev rest : List ℕ
  rest = drop 16 bytes

  head_long : length head ≡ 16
  head_long = length-take-le 16 bytes long

  parts : (more : List ℕ) → bytes ++ more ≡ head ++ (rest ++ more)
  parts more = ap (λ l. l ++ more) (sym (take-append-drop 16 bytes)) ∙ append_assoc head rest more

  -- a header with a fault is there
  pub ahead_fault : (e : CaptureFault) → head_fault f (before + 1) head ≡ Some e → IsOfCapture e → IsAhead f before bytes (Faulty e)
  ahead_fault e found own = (own, λ more. ap (front f before) (parts more) ∙ front_fault f before few head head_long (rest ++ more) e found)

  -- a header is there, and fewer bytes than it says
  pub ahead_cut : (r : Record) → IsHead f (before + 1) head r → r.captured ≤ 262144 → length bytes < 16 + r.captured → IsAhead f before bytes Short
  ahead_cut r is small short =
      let size : length rest < captured_in f head = omega (arith, length-drop 16 bytes, is.captured) in
      (omega arith, torn f before bytes (omega arith) (ap (front f before) (sym (take-append-drop 16 bytes)) ∙ front_cut f before few head head_long rest is.faultless size))

  -- a record is there
  pub ahead_whole : (r : Record) → IsHead f (before + 1) head r → r.captured ≤ 262144 → r.time < 2 ^ 63 → 16 + r.captured ≤ length bytes → IsAhead f before bytes (Whole r)
  ahead_whole r is small early there =
      let own = take r.captured rest in
      let size : length own ≡ r.captured = length-take-le r.captured rest (omega (arith, length-drop 16 bytes)) in
      let behind : drop r.captured rest ≡ drop (16 + r.captured) bytes = drop-drop r.captured 16 bytes in
      record {
        number = is.number;
        few = omega (arith, is.number);
        captured = small;
        time = early;
        there = there;
        holds_it = λ more.
            ap (front f before) (parts more ∙ ap (λ l. head ++ (l ++ more)) (sym (take-append-drop r.captured rest)) ∙ ap (λ l. head ++ l) (append_assoc own (drop r.captured rest) more))
            ∙ front_record f before few head head_long own (drop r.captured rest ++ more) is.faultless (size ∙ is.captured)
            ∙ ap (λ s. holds s (drop r.captured rest ++ more)) (seen_head f (before + 1) head r own is)
            ∙ ap (λ l. holds (seen_by r rest) (l ++ more)) behind;
      }
