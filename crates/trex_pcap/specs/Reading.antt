-- The grammar of a capture (pcap 2.4), by cases on what is left of it: nothing, a fault, or a record and the rest.
use Rattle.std.specs.Prelude.{◌≡◌, ℕ, ◌+◌, ◌*◌, ◌^◌, Bool, true, false, not, ◌==◌, ◌&&◌, nat_lt, nat_le, if◌then◌else◌, List, [], ◌∷◌, length, take, drop, Option, Some, None, Result, Ok, Err}
use Rattle.byteorder.specs.Endian.{big_number, little_number}
use Rattle.trex_io.specs.Seen.{Seen}
use Rattle.trex_pcap.specs.declared.fault.CaptureFault.{CaptureFault}
use Rattle.trex_pcap.specs.declared.fault.CaptureFault.TheVariants.{Torn, BadMagic, BadVersion, BadLink, TooMany, BadFraction, BadLength}
use Rattle.trex_pcap.specs.declared.format.Format.{Format}

-- the number in so many bytes from a place on, in the capture's byte order
unfoldable pub number_at : Bool → ℕ → ℕ → List ℕ → ℕ
number_at big size at bytes = if big then big_number size (drop at bytes) else little_number size (drop at bytes)

-- the format that the first four bytes name in this byte order: magic 0xa1b23c4d, nanoseconds, or 0xa1b2c3d4, microseconds
abbrev pub format_in : Bool → List ℕ → Option Format
format_in big bytes =
    if number_at big 4 0 bytes == 0xa1b23c4d then Some (record { big = big; micro = false })
    else if number_at big 4 0 bytes == 0xa1b2c3d4 then Some (record { big = big; micro = true })
    else None

-- the first of two formats, where it is there, else the second
abbrev pub first_of : Option Format → Option Format → Option Format
first_of (Some f) other = Some f
first_of None other = other

-- the format that the first four bytes name, in either byte order
abbrev pub format_of : List ℕ → Option Format
format_of bytes = first_of (format_in true bytes) (format_in false bytes)

-- the rest of a file header, where its magic names a format: version 2.4, and the whole link word is 1, Ethernet
abbrev pub opened : Option Format → List ℕ → Result Format CaptureFault
opened None header = Err BadMagic
opened (Some f) header =
    if not (number_at f.big 2 4 header == 2 && number_at f.big 2 6 header == 4) then Err BadVersion
    else if not (number_at f.big 4 20 header == 1) then Err BadLink
    else Ok f

-- what the 24 bytes of a file header say (pcap 2.4, file header)
unfoldable pub opening : List ℕ → Result Format CaptureFault
opening header = opened (format_of header) header

-- how a capture begins
abbrev pub begin : List ℕ → Result Format CaptureFault
begin bytes = if nat_lt (length bytes) 24 then Err (Torn 0) else opening (take 24 bytes)

-- how many of a record's fractions make a second
abbrev pub fractions : Format → ℕ
fractions f = if f.micro then 10 ^ 6 else 10 ^ 9

-- the seconds of a record header (pcap 2.4, packet record)
abbrev pub seconds_in : Format → List ℕ → ℕ
seconds_in f header = number_at f.big 4 0 header

-- the fraction of a second in a record header
abbrev pub fraction_in : Format → List ℕ → ℕ
fraction_in f header = number_at f.big 4 4 header

-- how many captured bytes follow a record header
abbrev pub captured_in : Format → List ℕ → ℕ
captured_in f header = number_at f.big 4 8 header

-- how many bytes the packet of a record header had
abbrev pub original_in : Format → List ℕ → ℕ
original_in f header = number_at f.big 4 12 header

-- a record's time in nanoseconds
abbrev pub time_in : Format → List ℕ → ℕ
time_in f header = seconds_in f header * 10 ^ 9 + (if f.micro then fraction_in f header * 1000 else fraction_in f header)

-- the fault of a record's header: a fraction of a second or more, or more captured bytes than the longest record has
unfoldable pub head_fault : Format → ℕ → List ℕ → Option CaptureFault
head_fault f number header =
    if nat_le (fractions f) (fraction_in f header) then Some (BadFraction number)
    else if nat_lt 262144 (captured_in f header) then Some (BadLength number)
    else None

-- the record of a header and its captured bytes
unfoldable pub seen : Format → List ℕ → List ℕ → Seen
seen f header bytes = record { time = time_in f header; bytes = bytes; original = original_in f header }

-- what stands at the front of what is left: nothing, a fault, or a record and what follows it
pub data Front : Type 0 where
  ends : Front
  stops : CaptureFault → Front
  holds : Seen → List ℕ → Front

-- the captured bytes after a header, where so many are left
abbrev pub front_whole : Format → ℕ → List ℕ → List ℕ → Front
front_whole f number header rest =
    if nat_lt (length rest) (captured_in f header) then stops (Torn number)
    else holds (seen f header (take (captured_in f header) rest)) (drop (captured_in f header) rest)

-- what stands after a header that has this fault, or none
abbrev pub front_after : Format → ℕ → List ℕ → List ℕ → Option CaptureFault → Front
front_after f number header rest (Some fault) = stops fault
front_after f number header rest None = front_whole f number header rest

-- what stands at the front of what is left, where so many records came before
unfoldable pub front : Format → ℕ → List ℕ → Front
front f before left =
    if length left == 0 then ends
    else if before == 100000000 then stops TooMany
    else if nat_lt (length left) 16 then stops (Torn (before + 1))
    else front_after f (before + 1) (take 16 left) (drop 16 left) (head_fault f (before + 1) (take 16 left))

-- From here on a capture has these records, and then it ends or has this fault.
abbrev pub Holds : Format → ℕ → List ℕ → List Seen → Option CaptureFault → Type 0
Holds f before left [] None = front f before left ≡ ends
Holds f before left [] (Some fault) = front f before left ≡ stops fault
Holds f before left (r ∷ rs) fault = (rest : List ℕ) × (front f before left ≡ holds r rest) × Holds f (before + 1) rest rs fault

-- after a file header that says this, a capture has these records, and then it ends or has this fault
abbrev pub HoldsAfter : Result Format CaptureFault → List ℕ → List Seen → Option CaptureFault → Type 0
HoldsAfter (Ok f) left rs fault = Holds f 0 left rs fault
HoldsAfter (Err e) left rs fault = (rs ≡ []) × (fault ≡ Some e)

-- The bytes are a capture of these records, and then it ends or has this fault.
abbrev pub IsCapture : List ℕ → List Seen → Option CaptureFault → Type 0
IsCapture bytes rs fault = HoldsAfter (begin bytes) (drop 24 bytes) rs fault
