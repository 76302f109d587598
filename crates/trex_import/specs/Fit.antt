-- What makes the records of a capture unfit to be a profile: the first rule that one of them breaks, or their text. Own.
use Rattle.std.specs.Prelude.{ℕ, ◌+◌, ◌-◌, ◌^◌, ◌==◌, ◌||◌, not, nat_lt, nat_le, if◌then◌else◌, List, [], ◌∷◌, length, Option, None, Some}
use Rattle.std.specs.Option.{option_or}
use Rattle.trex_io.specs.Seen.{Seen}
use Rattle.trex_pcap.specs.declared.unfit.Unfit.{Unfit}
use Rattle.trex_pcap.specs.declared.unfit.Unfit.TheVariants.{Count, Length, Cut, Backwards, Late, TooLarge}
use Rattle.trex_import.specs.Imported.{first_time, imported}

-- the first rule that a record breaks, where it has this number, and the first record and the one before it had these times
unfoldable pub record_unfit : ℕ → ℕ → ℕ → Seen → Option Unfit
record_unfit start before number r =
    if nat_lt 4096 number then Some (Count number)
    else if nat_lt (length r.bytes) 14 || nat_lt 9216 (length r.bytes) then Some (Length number)
    else if not (length r.bytes == r.original) then Some (Cut number)
    else if nat_lt r.time before then Some (Backwards number)
    else if nat_le (10 ^ 18) (r.time - start) then Some (Late number)
    else None

-- the first rule that one of some records breaks, record by record, where the first of them has this number
abbrev pub records_unfit : ℕ → ℕ → ℕ → List Seen → Option Unfit
records_unfit start before number [] = None
records_unfit start before number (r ∷ rs) = option_or (record_unfit start before number r) (records_unfit start r.time (number + 1) rs)

-- the rule on the whole text
abbrev pub text_unfit : List ℕ → Option Unfit
text_unfit text = if nat_lt 33554432 (length text) then Some TooLarge else None

-- what makes the records of a capture unfit
unfoldable pub unfit_of : List Seen → Option Unfit
unfit_of records = option_or (records_unfit (first_time records) (first_time records) 1 records) (text_unfit (imported records))
