-- What stands at the front of what is left of a capture, and that the reader's answers say it.
use Rattle.std.proofs.Common.{◌≡◌, ℕ, ◌+◌, ◌<◌, List, [], ◌++◌, length, take, drop, refl, ap, ◌∙◌, arith, Some, None, length-append}
use Rattle.std.proofs.lemmas.Bool.{le-ltb}
use Rattle.std.proofs.lemmas.Bool.Decides.{nat_tests}
use Rattle.std.proofs.lemmas.List.{take_at, drop_at}
use Rattle.trex_pcap.specs.declared.fault.CaptureFault.{CaptureFault}
use Rattle.trex_pcap.specs.declared.fault.CaptureFault.TheVariants.{Torn, TooMany}
use Rattle.trex_pcap.specs.declared.format.Format.{Format}
use Rattle.trex_pcap.specs.Reading.{ends, stops, holds, front, front_after, front_whole, head_fault, captured_in, seen, begin, opening}

module _ (f : Format) where
  -- nothing is left
  pub front_none : (before : ℕ) → front f before [] ≡ ends
  unfolding front
  front_none before = refl

  -- a byte follows the last record that may be read
  pub front_many : (left : List ℕ) → 0 < length left → front f 100000000 left ≡ stops TooMany
  unfolding front
  front_many left some = grind (arith, nat_tests)

  -- a part of a header is left
  pub front_torn : (before : ℕ) (left : List ℕ) → 0 < length left → length left < 16 → before < 100000000 → front f before left ≡ stops (Torn (before + 1))
  unfolding front
  front_torn before left some short few = grind (arith, nat_tests)

  -- a header is left
  pub front_header : (before : ℕ) (header rest : List ℕ) → length header ≡ 16 → before < 100000000
      → front f before (header ++ rest) ≡ front_after f (before + 1) header rest (head_fault f (before + 1) header)
  unfolding front
  front_header before header rest long few =
      let all = length-append header rest in
      let t : take 16 (header ++ rest) ≡ header = take_at header rest 16 long in
      let d : drop 16 (header ++ rest) ≡ rest = drop_at header rest 16 long in
      rw (t, d) (grind (arith, nat_tests))

  -- fewer bytes are left than the header says
  pub whole_cut : (number : ℕ) (header rest : List ℕ) → length rest < captured_in f header → front_whole f number header rest ≡ stops (Torn number)
  whole_cut number header rest short = grind (arith, nat_tests)

  -- the captured bytes are left
  pub whole_there : (number : ℕ) (header bytes rest : List ℕ) → length bytes ≡ captured_in f header
      → front_whole f number header (bytes ++ rest) ≡ holds (seen f header bytes) rest
  whole_there number header bytes rest long =
      let all = length-append bytes rest in
      rw (le-ltb (length (bytes ++ rest)) (captured_in f header) (omega arith), take_at bytes rest (captured_in f header) long, drop_at bytes rest (captured_in f header) long) refl

  module _ (before : ℕ) (few : before < 100000000) (header : List ℕ) (long : length header ≡ 16) where
    -- the header has a fault
    pub front_fault : (rest : List ℕ) (e : CaptureFault) → head_fault f (before + 1) header ≡ Some e → front f before (header ++ rest) ≡ stops e
    front_fault rest e found = front_header before header rest long few ∙ ap (front_after f (before + 1) header rest) found

    -- the header has none, and fewer bytes are left than it says
    pub front_cut : (rest : List ℕ) → head_fault f (before + 1) header ≡ None → length rest < captured_in f header
        → front f before (header ++ rest) ≡ stops (Torn (before + 1))
    front_cut rest none short =
        front_header before header rest long few ∙ ap (front_after f (before + 1) header rest) none ∙ whole_cut (before + 1) header rest short

    -- the header has none, and its captured bytes are left
    pub front_record : (bytes rest : List ℕ) → head_fault f (before + 1) header ≡ None → length bytes ≡ captured_in f header
        → front f before (header ++ (bytes ++ rest)) ≡ holds (seen f header bytes) rest
    front_record bytes rest none there =
        front_header before header (bytes ++ rest) long few ∙ ap (front_after f (before + 1) header (bytes ++ rest)) none
        ∙ whole_there (before + 1) header bytes rest there

-- a file header is there
pub begin_whole : (header rest : List ℕ) → length header ≡ 24 → begin (header ++ rest) ≡ opening header
begin_whole header rest long =
    let all = length-append header rest in
    rw (le-ltb (length (header ++ rest)) 24 (omega arith), take_at header rest 24 long) refl
