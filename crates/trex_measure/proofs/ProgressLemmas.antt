-- How far the reading of a capture has come.
use Rattle.std.proofs.Common.{◌≡◌, ℕ, ◌+◌, ◌==◌, if◌then◌else◌, true, length, arith, List, [], ◌∷◌, ◌++◌, drop, refl, sym, ap, ◌∙◌, subst, append_assoc, append-nil, length-append, ◌<◌, Option, Some, None, Result, Ok, Err}
use Rattle.std.proofs.lemmas.Bool.{eq-eqb, ne_eqb}
use Rattle.std.specs.Io.KnownBytes.{Consumes, IsAtEnd, prepend_known}
use Rattle.trex_io.specs.Seen.{Seen}
use Rattle.trex_pcap.specs.Ahead.{IsWhole}
use Rattle.trex_pcap.specs.declared.fault.CaptureFault.{CaptureFault}
use Rattle.trex_pcap.specs.declared.fault.CaptureFault.TheVariants.{Fault, Torn}
use Rattle.trex_pcap.specs.declared.format.Format.{Format}
use Rattle.trex_pcap.specs.declared.record.Record.{Record}
use Rattle.trex_pcap.specs.Following.{Begins, Follows, IsOfCapture, seen_by}
use Rattle.trex_pcap.specs.Place.{Place}
use Rattle.trex_pcap.specs.Reading.{front, ends, stops, begin, Holds, HoldsAfter, IsCapture}
use Rattle.trex_pcap.proofs.ReadingLemmas.{capture_once}
use Rattle.trex_measure.specs.declared.fault.MeasureFault.{MeasureFault}
use Rattle.trex_measure.specs.declared.fault.MeasureFault.TheVariants.{Read, Bad}
use Rattle.trex_measure.specs.Refills.{Refills}
use Rattle.trex_measure.specs.Measured.{OnCapture, HasFault, IfCapture, IsSound, AnswersBy, measure_fault}

-- This holds of some records, and what follows these in the rest follows them in the whole text.
abbrev pub Progress : Option (List ℕ) → Option (List ℕ) → Place → (List Seen → Type 0) → Type 0
Progress None left p P = Unit {0}
Progress (Some text) None p P = ⊥
Progress (Some text) (Some left) p P =
    (rs : List Seen) × P rs × (begin text ≡ Ok p.format)
    × ((ss : List Seen) (e : Option CaptureFault) → Holds p.format p.records left ss e → Holds p.format 0 (drop 24 text) (rs ++ ss) e)

-- one record more
pub Progress-record : (old mid new : Option (List ℕ)) (p q : Place) (P Q : List Seen → Type 0) (r : Record) (buffer : List ℕ) → Progress old mid p P
    → Follows p.format p.records mid new (Ok (Some r)) buffer → q ≡ record { format = p.format; records = p.records + 1; live = true }
    → ((rs : List Seen) → P rs → Q (rs ++ seen_by r buffer ∷ [])) → Progress old new q Q
Progress-record None mid new p q P Q r buffer progress follows goes stands = tt
Progress-record (Some text) None new p q P Q r buffer progress follows goes stands = absurd progress
Progress-record (Some text) (Some left) None p q P Q r buffer progress (rest, front, new) goes stands = cc
Progress-record (Some text) (Some left) (Some after) p q P Q r buffer (rs, stood, began, whole) (rest, front, new) goes stands =
    let one = seen_by r buffer in
    let same : rest ≡ after = cc in
    let format : q.format ≡ p.format = ap (λ (x : Place). x.format) goes in
    let records : q.records ≡ p.records + 1 = ap (λ (x : Place). x.records) goes in
    let follow : (ss : List Seen) (e : Option CaptureFault) → Holds p.format (p.records + 1) rest ss e → Holds p.format 0 (drop 24 text) ((rs ++ one ∷ []) ++ ss) e =
    λ ss e holds. subst (λ l. Holds p.format 0 (drop 24 text) l e) (sym (append_assoc rs (one ∷ []) ss)) (whole (one ∷ ss) e (rest, front, holds)) in (
      rs ++ one ∷ [],
      stands rs stood,
      began ∙ ap Ok (sym format),
      λ ss e. rw (format, records, ← same) (follow ss e),
    )

-- the reading of a text that begins with this format
whole_reading : (text : List ℕ) (f : Format) (rs : List Seen) (e : Option CaptureFault) → begin text ≡ Ok f → Holds f 0 (drop 24 text) rs e → IsCapture text rs e
whole_reading text f rs e began holds = subst (λ b. HoldsAfter b (drop 24 text) rs e) (sym began) holds

-- the end
pub Progress-end : (old mid new : Option (List ℕ)) (p : Place) (P : List Seen → Type 0) (buffer : List ℕ) → Progress old mid p P → Follows p.format p.records mid new (Ok None) buffer
    → OnCapture old P
Progress-end None mid new p P buffer progress follows = tt
Progress-end (Some text) None new p P buffer progress follows = absurd progress
Progress-end (Some text) (Some left) new p P buffer (rs, stands, began, whole) (front, end) =
    (rs, whole_reading text p.format rs None began (subst (λ l. Holds p.format 0 (drop 24 text) l None) (append-nil rs) (whole [] None front)), stands)

-- a fault of the capture
pub Progress-fault : (old mid new : Option (List ℕ)) (p : Place) (P : List Seen → Type 0) (e : CaptureFault) (buffer : List ℕ) → Progress old mid p P
    → Follows p.format p.records mid new (Err e) buffer → IsOfCapture e → HasFault old e
Progress-fault None mid new p P e buffer progress follows own = tt
Progress-fault (Some text) None new p P e buffer progress follows own = absurd progress
Progress-fault (Some text) (Some left) new p P e buffer (rs, stands, began, whole) follows own =
    (rs, whole_reading text p.format rs (Some e) began (subst (λ l. Holds p.format 0 (drop 24 text) l (Some e)) (append-nil rs) (whole [] (Some e) (follows own))))

-- a fault of the file header
pub Begins-fault : (old new : Option (List ℕ)) (e : CaptureFault) → Begins old new (Err e) → IsOfCapture e → HasFault old e
Begins-fault None new e begins own = tt
Begins-fault (Some text) new e begins own = ([], subst (λ b. HoldsAfter b (drop 24 text) [] (Some e)) (sym (begins own)) (refl, refl))

-- ---- answers

module _ {K : Type 0} (stands : K → List Seen → Type 0) where
  -- what is kept is the answer for the one reading
  pub exact_kept : (text : Option (List ℕ)) (k : K) → OnCapture text (stands k) → IfCapture text (AnswersBy stands (Ok k))
  exact_kept None k on = tt
  exact_kept (Some text) k (rs, is, stood) = λ ss e. only ss e
    where
      only : (ss : List Seen) (e : Option CaptureFault) → IsCapture text ss e → AnswersBy stands (Ok k) ss e
      only ss None other = let same = capture_once text rs ss None None is other in subst (stands k) same.0 stood
      only ss (Some e) other = let same = capture_once text rs ss None (Some e) is other in let wrong = same.1 in cc

  pub exact_bad : (text : Option (List ℕ)) (d : CaptureFault) → HasFault text d → IfCapture text (AnswersBy stands (Err (Bad d)))
  exact_bad None d has = tt
  exact_bad (Some text) d (rs, is) = λ ss e. only ss e
    where
      only : (ss : List Seen) (e : Option CaptureFault) → IsCapture text ss e → AnswersBy stands (Err (Bad d)) ss e
      only ss None other = let same = capture_once text rs ss (Some d) None is other in let wrong = same.1 in cc
      only ss (Some e) other = let same = capture_once text rs ss (Some d) (Some e) is other in let right = same.1 in cc

  -- an answer that any reading may have
  free : (text : Option (List ℕ)) (answer : Result K MeasureFault) → ((ss : List Seen) (e : Option CaptureFault) → AnswersBy stands answer ss e)
      → IfCapture text (AnswersBy stands answer)
  free None answer all = tt
  free (Some text) answer all = λ ss e is. all ss e

  -- a reader's fault is the answer for the one reading
  pub exact_fault : (text : Option (List ℕ)) (e : CaptureFault) → (IsOfCapture e → HasFault text e) → IfCapture text (AnswersBy stands (Err (measure_fault e)))
  exact_fault text Fault has = free text (Err Read) (λ ss e. tt)
  exact_fault text e has = exact_bad text e (has tt)

pub sound_fault : (text : Option (List ℕ)) (e : CaptureFault) → (IsOfCapture e → HasFault text e) → IsSound text (measure_fault e)
sound_fault text Fault has = tt
sound_fault text e has = (tt, has tt)

-- ---- bytes that were read before they are looked at

-- a read behind such bytes
pub Progress-read : (old left rest : Option (List ℕ)) (window given : List ℕ) (p : Place) (P : List Seen → Type 0) → Progress old (prepend_known window left) p P → Consumes left rest given
    → Progress old (prepend_known (window ++ given) rest) p P
Progress-read None left rest window given p P progress taken = tt
Progress-read (Some text) None rest window given p P progress taken = absurd progress
Progress-read (Some text) (Some xs) None window given p P progress taken = absurd taken
Progress-read (Some text) (Some xs) (Some ys) window given p P progress taken =
    subst (λ l. Progress (Some text) (Some l) p P) (ap (λ l. window ++ l) taken ∙ sym (append_assoc window given ys)) progress

-- nothing was read, and nothing is left
pub left_none : (left rest : Option (List ℕ)) (given : List ℕ) → Consumes left rest given → IsAtEnd rest → length given ≡ 0 → IsAtEnd left
left_none None rest given taken end none = tt
left_none (Some xs) None given taken end none = absurd taken
left_none (Some xs) (Some ys) [] taken end none = taken ∙ end
left_none (Some xs) (Some ys) (x ∷ given) taken end none = absurd (omega (arith, none))

module _ (f : Format) (before : ℕ) (window buffer : List ℕ) (left : Option (List ℕ)) where
  pub Follows-faulty : (new : Option (List ℕ)) (e : CaptureFault) → ((more : List ℕ) → front f before (window ++ more) ≡ stops e)
      → Follows f before (prepend_known window left) new (Err e) buffer
  Follows-faulty new e is = faulty left
    where
      faulty : (known : Option (List ℕ)) → Follows f before (prepend_known window known) new (Err e) buffer
      faulty None = tt
      faulty (Some more) = λ own. is more

  -- the bytes are all that is left
  pub Follows-last : (e : CaptureFault) → IsAtEnd left → front f before window ≡ stops e → Follows f before (prepend_known window left) (Some []) (Err e) buffer
  Follows-last e = last left
    where
      last : (known : Option (List ℕ)) → IsAtEnd known → front f before window ≡ stops e → Follows f before (prepend_known window known) (Some []) (Err e) buffer
      last None end is = tt
      last (Some more) end is = λ own. ap (λ l. front f before (window ++ l)) end ∙ ap (front f before) (append-nil window) ∙ is

  pub Follows-none : IsAtEnd left → front f before window ≡ ends → Follows f before (prepend_known window left) (Some []) (Ok None) buffer
  Follows-none = none left
    where
      none : (known : Option (List ℕ)) → IsAtEnd known → front f before window ≡ ends → Follows f before (prepend_known window known) (Some []) (Ok None) buffer
      none None end is = tt
      none (Some more) end is = (ap (λ l. front f before (window ++ l)) end ∙ ap (front f before) (append-nil window) ∙ is, refl)

pub Follows-whole : (f : Format) (before : ℕ) (window : List ℕ) (left : Option (List ℕ)) (r : Record) → IsWhole f before window r
    → Follows f before (prepend_known window left) (prepend_known (drop (16 + r.captured) window) left) (Ok (Some r)) (drop 16 window)
Follows-whole f before window None r is = tt
Follows-whole f before window (Some more) r is = (drop (16 + r.captured) window ++ more, is.holds_it more, refl)

-- a read gave nothing: the bytes before it are all that is left
pub all_there : (left rest : Option (List ℕ)) (window after : List ℕ) (n : ℕ) → Refills left rest window after n → n ≡ 0 → IsAtEnd left × (length after ≡ length window)
all_there left rest window after n read none =
    (left_none left rest read.given read.taken (read.end none) (read.count ∙ none), omega (arith, ap length read.behind, length-append window read.given, read.count, none))

module _ (f : Format) (before : ℕ) (window : List ℕ) (is : front f before window ≡ (if length window == 0 then ends else stops (Torn (before + 1)))) where
  pub front_ends : length window ≡ 0 → front f before window ≡ ends
  front_ends none = rw (eq-eqb (length window) 0 none) at is

  pub front_torn : 0 < length window → front f before window ≡ stops (Torn (before + 1))
  front_torn some = rw (ne_eqb (length window) 0 (omega arith)) at is
