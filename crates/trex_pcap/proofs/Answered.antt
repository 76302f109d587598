-- The answers of the reader say what stands at the front of what its source has left.
use Rattle.std.proofs.Common.{◌≡◌, ℕ, ◌+◌, ◌<◌, ◌≤◌, List, [], ◌∷◌, ◌++◌, length, take, drop, refl, sym, ap, ◌∙◌, subst, arith, Option, Some, None, Ok, Err, append-nil, length-append}
use Rattle.std.proofs.lemmas.List.{drop_at, take_all}
use Rattle.std.specs.Io.KnownBytes.{Consumes, IsAtEnd}
use Rattle.trex_pcap.specs.declared.fault.CaptureFault.{CaptureFault}
use Rattle.trex_pcap.specs.declared.fault.CaptureFault.TheVariants.{Torn, TooMany}
use Rattle.trex_pcap.specs.declared.format.Format.{Format}
use Rattle.trex_pcap.specs.declared.record.Record.{Record}
use Rattle.trex_pcap.specs.Following.{Follows, IsHead, Begins}
use Rattle.trex_pcap.specs.Place.{Place}
use Rattle.trex_pcap.specs.Reading.{head_fault, captured_in, seen, opening}
use Rattle.trex_pcap.proofs.Fronts.{front_none, front_many, front_torn, front_fault, front_cut, front_record, begin_whole}

-- a list of no bytes
pub empty : (xs : List ℕ) → length xs ≡ 0 → xs ≡ []
empty [] none = refl
empty (x ∷ xs) none = absurd (omega (arith, none))

-- what was left is what was taken, where nothing is left after it
all_taken : (left taken rest : List ℕ) → left ≡ taken ++ rest → rest ≡ [] → left ≡ taken
all_taken left taken rest split end = split ∙ ap (λ r. taken ++ r) end ∙ append-nil taken

-- a buffer that is full was taken whole
pub whole : (old new : Option (List ℕ)) (into : List ℕ) (n : ℕ) → length into ≤ n → Consumes old new (take n into) → Consumes old new into
whole old new into n full taken = subst (Consumes old new) (take_all n into full) taken

-- a record that a header names, with these bytes
pub seen_head : (f : Format) (n : ℕ) (head : List ℕ) (r : Record) (bytes : List ℕ) → IsHead f n head r
    → seen f head bytes ≡ record { time = r.time; bytes = bytes; original = r.original }
unfolding seen
seen_head f n head r bytes is = rw (is.time, is.original) refl

module _ (f : Format) (before : ℕ) (buffer : List ℕ) where
  -- no byte was left
  pub Follows-end : (old mid : Option (List ℕ)) (head : List ℕ) → Consumes old mid head → length head ≡ 0 → IsAtEnd mid → Follows f before old mid (Ok None) buffer
  Follows-end None mid head taken none end = tt
  Follows-end (Some left) None head taken none end = absurd taken
  Follows-end (Some left) (Some rest) head taken none end =
      let nothing : left ≡ [] = all_taken left head rest taken end ∙ empty head none in
      (rw nothing (front_none f before), ap Some end)

  -- a byte was left after the last record
  pub Follows-many : (old mid : Option (List ℕ)) (head : List ℕ) → Consumes old mid head → 0 < length head → before ≡ 100000000 → Follows f before old mid (Err TooMany) buffer
  Follows-many None mid head taken some full = tt
  Follows-many (Some left) None head taken some full = absurd taken
  Follows-many (Some left) (Some rest) head taken some full = λ _. rw (full, taken) (front_many f (head ++ rest) (omega (arith, length-append head rest)))

  -- a part of a header was left
  pub Follows-torn : (old mid : Option (List ℕ)) (head : List ℕ) → Consumes old mid head → IsAtEnd mid → 0 < length head → length head < 16 → before < 100000000
      → Follows f before old mid (Err (Torn (before + 1))) buffer
  Follows-torn None mid head taken end some short few = tt
  Follows-torn (Some left) None head taken end some short few = absurd taken
  Follows-torn (Some left) (Some rest) head taken end some short few = λ _. rw (all_taken left head rest taken end) (front_torn f before head some short few)

  module _ (few : before < 100000000) (head : List ℕ) (long : length head ≡ 16) where
    -- the header had a fault
    pub Follows-fault : (old mid : Option (List ℕ)) (e : CaptureFault) → Consumes old mid head → head_fault f (before + 1) head ≡ Some e
        → Follows f before old mid (Err e) buffer
    Follows-fault None mid e taken found = tt
    Follows-fault (Some left) None e taken found = absurd taken
    Follows-fault (Some left) (Some rest) e taken found = λ _. rw taken (front_fault f before few head long rest e found)

    -- fewer bytes were left than the header says
    pub Follows-cut : (old mid new : Option (List ℕ)) (bytes : List ℕ) → Consumes old mid head → Consumes mid new bytes → IsAtEnd new
        → head_fault f (before + 1) head ≡ None → length bytes < captured_in f head → Follows f before old new (Err (Torn (before + 1))) buffer
    Follows-cut None mid new bytes taken next end none short = tt
    Follows-cut (Some left) None new bytes taken next end none short = absurd taken
    Follows-cut (Some left) (Some rest) None bytes taken next end none short = absurd next
    Follows-cut (Some left) (Some rest) (Some last) bytes taken next end none short =
        λ _. rw (taken, all_taken rest bytes last next end) (front_cut f before few head long bytes none short)

    -- a record was left
    pub Follows-record : (old mid new : Option (List ℕ)) (r : Record) (bytes : List ℕ) → Consumes old mid head → Consumes mid new bytes
        → IsHead f (before + 1) head r → length bytes ≡ r.captured → take r.captured buffer ≡ bytes → Follows f before old new (Ok (Some r)) buffer
    Follows-record None mid new r bytes taken next is there same = tt
    Follows-record (Some left) None new r bytes taken next is there same = absurd taken
    Follows-record (Some left) (Some rest) None r bytes taken next is there same = absurd next
    Follows-record (Some left) (Some rest) (Some last) r bytes taken next is there same =
        (last, rw (taken, next, front_record f before few head long bytes last is.faultless (there ∙ is.captured), seen_head f (before + 1) head r bytes is, same) refl, refl)

module _ (head : List ℕ) (long : length head ≡ 24) where
  -- the file header has a fault
  pub Begins-fault : (old mid : Option (List ℕ)) (e : CaptureFault) → Consumes old mid head → opening head ≡ Err e → Begins old mid (Err e)
  Begins-fault None mid e taken found = tt
  Begins-fault (Some left) None e taken found = absurd taken
  Begins-fault (Some left) (Some rest) e taken found = λ _. rw taken (begin_whole head rest long ∙ found)

  -- the file header has none
  pub Begins-open : (old mid : Option (List ℕ)) (p : Place) → Consumes old mid head → opening head ≡ Ok p.format → Begins old mid (Ok p)
  Begins-open None mid p taken opens = tt
  Begins-open (Some left) None p taken opens = absurd taken
  Begins-open (Some left) (Some rest) p taken opens = (rw taken (begin_whole head rest long ∙ opens), ap Some (sym (drop_at head rest 24 long) ∙ ap (drop 24) (sym taken)))
