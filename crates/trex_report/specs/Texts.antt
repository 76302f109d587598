-- The lines that are printed, each with a line feed at its end; numbers are decimal. Own.
use Rattle.std.specs.Prelude.{ℕ, ◌+◌, ◌/◌, ◌%◌, List, [], ◌∷◌, ◌++◌, codes, sum_by, nat_lt, if◌then◌else◌, Option, Some, None}
use Rattle.std.specs.List.{concat, flat_map}
use Rattle.std.specs.Fmt.{decimal}
use Rattle.trex_pcap.specs.declared.fault.CaptureFault.{CaptureFault}
use Rattle.trex_pcap.specs.declared.fault.CaptureFault.TheVariants.{Torn, BadMagic, BadVersion, BadLink, TooMany, BadFraction, BadLength, Fault}
use Rattle.trex_pcap.specs.declared.unfit.Unfit.{Unfit}
use Rattle.trex_pcap.specs.declared.unfit.Unfit.TheVariants.{Count, Length, Cut, Backwards, Late, TooLarge}
use Rattle.trex_profile.specs.declared.refusal.Refusal.{Refusal}
use Rattle.trex_io.specs.Seen.{Seen}
use Rattle.trex_stats.specs.Counts.{Counts, flows_of, lines_in, lines_of, totals_of}
use Rattle.trex_stats.specs.declared.line.FlowLine.{FlowLine}
use Rattle.trex_stats.specs.declared.stats.Totals.{Totals}
use Rattle.trex_words.specs.declared.asked.Usage.{Usage}
use Rattle.trex_words.specs.declared.asked.Usage.TheVariants.{NoCommand, UnknownCommand, UnknownOption, Repeated, NoValue, BadNumber, OutOfRange, Missing}
use Rattle.trex_report.specs.declared.report.Tally.{Tally}
use Rattle.trex_report.specs.declared.line.Line.{Line}
use Rattle.trex_report.specs.declared.line.Line.TheVariants.{Accepted, Usage as UsageLine, Refused, BadCapture, Unfit as UnfitLine, ReadFault, WriteFault, OutOfMemory, Sample, Wire, LineTooLong, TooMuch}
use Rattle.trex_report.specs.Names.{fault_name, unfit_name, rule_name, option_name}

-- how many packets, and of how many bytes
abbrev pub count_pieces : ℕ → ℕ → List (List ℕ)
count_pieces packets bytes = codes " packets " ∷ decimal packets ∷ codes " bytes " ∷ decimal bytes ∷ codes "\n" ∷ []

-- what was sent of a stream
unfoldable pub tally_line : Tally → List ℕ
tally_line t = concat (codes "stream " ∷ decimal t.id ∷ count_pieces t.packets t.bytes)

-- what was sent in all
unfoldable pub total_line : ℕ → ℕ → List ℕ
total_line packets bytes = concat (codes "total" ∷ count_pieces packets bytes)

-- the report: a line for each stream, and one for all
abbrev pub report_text : List Tally → List ℕ
report_text tallies =
    flat_map tally_line tallies ++ total_line (sum_by (λ t. t.packets) tallies) (sum_by (λ t. t.bytes) tallies)

-- what is counted of a flow
unfoldable pub flow_line : FlowLine → List ℕ
flow_line f =
    codes "flow " ++ decimal f.flow
    ++ codes " received " ++ decimal f.received
    ++ codes " duplicates " ++ decimal f.duplicates
    ++ codes " lost " ++ decimal f.lost
    ++ codes " reordered " ++ decimal f.reordered
    ++ codes " early " ++ decimal f.early
    ++ codes " least " ++ decimal f.least
    ++ codes " greatest " ++ decimal f.greatest
    ++ codes " sum " ++ decimal f.sum
    ++ codes "\n"

-- what is counted of all records
unfoldable pub records_line : Totals → List ℕ
records_line t =
    codes "records " ++ decimal t.records ++ codes " bytes " ++ decimal t.bytes ++ codes " stamped " ++ decimal t.stamped ++ codes "\n"

-- what is counted of a capture: a line for each flow, and one for all records
abbrev pub counts_text : List FlowLine → Totals → List ℕ
counts_text flows totals = flat_map flow_line flows ++ records_line totals

-- the same by what is kept
abbrev pub kept_text : Counts → List ℕ
kept_text c = counts_text (lines_in c.flows) (record { records = c.records; bytes = c.bytes; stamped = c.stamped })

-- the same of a capture with these records
unfoldable pub analysis_text : List Seen → List ℕ
analysis_text rs = counts_text (lines_of rs (flows_of rs)) (totals_of rs)

-- that a profile keeps all rules, and how many streams it has
unfoldable pub accepted_line : ℕ → List ℕ
accepted_line streams = concat (codes "accepted streams " ∷ decimal streams ∷ codes "\n" ∷ [])

-- a fault of the words at a place
unfoldable pub placed_line : List ℕ → ℕ → List ℕ
placed_line name at = concat (codes "usage: " ∷ name ∷ codes " at " ∷ decimal at ∷ codes "\n" ∷ [])

-- an option that is missing
unfoldable pub missing_line : List ℕ → List ℕ
missing_line option = concat (codes "usage: Missing option --" ∷ option ∷ codes "\n" ∷ [])

-- a fault of the words
abbrev pub usage_line : Usage → List ℕ
usage_line NoCommand = codes "usage: NoCommand\n"
usage_line UnknownCommand = codes "usage: UnknownCommand\n"
usage_line (UnknownOption at) = placed_line (codes "UnknownOption") at
usage_line (Repeated at) = placed_line (codes "Repeated") at
usage_line (NoValue at) = placed_line (codes "NoValue") at
usage_line (BadNumber at) = placed_line (codes "BadNumber") at
usage_line (OutOfRange at) = placed_line (codes "OutOfRange") at
usage_line (Missing option) = missing_line (option_name option)

-- a place, after a word that says of what, where there is one
abbrev pub place_pieces : List ℕ → Option ℕ → List (List ℕ)
place_pieces word None = []
place_pieces word (Some place) = word ∷ decimal place ∷ []

-- why a profile is refused
unfoldable pub refusal_line : Refusal → List ℕ
refusal_line r =
    concat (codes "refused: " ∷ rule_name r.rule ∷ place_pieces (codes " stream ") r.stream ++ place_pieces (codes " at ") r.at ++ codes "\n" ∷ [])

-- the record of a fault, where it has one
abbrev pub record_of : CaptureFault → Option ℕ
record_of (Torn number) = Some number
record_of BadMagic = None
record_of BadVersion = None
record_of BadLink = None
record_of TooMany = None
record_of (BadFraction number) = Some number
record_of (BadLength number) = Some number
record_of Fault = None

-- what is said of a capture: what it is, and the record where it has one
unfoldable pub capture_line : List ℕ → List ℕ → Option ℕ → List ℕ
capture_line said name number = concat (said ∷ name ∷ place_pieces (codes " record ") number ++ codes "\n" ∷ [])

-- what is wrong with a capture
abbrev pub fault_line : CaptureFault → List ℕ
fault_line fault = capture_line (codes "bad capture: ") (fault_name fault) (record_of fault)

-- the record that makes a capture unfit, where it is one
abbrev pub unfit_record : Unfit → Option ℕ
unfit_record (Count number) = Some number
unfit_record (Length number) = Some number
unfit_record (Cut number) = Some number
unfit_record (Backwards number) = Some number
unfit_record (Late number) = Some number
unfit_record TooLarge = None

-- why a capture makes no profile
abbrev pub unfit_line : Unfit → List ℕ
unfit_line unfit = capture_line (codes "unfit capture: ") (unfit_name unfit) (unfit_record unfit)

-- a number below 16 as a digit, in lower case
abbrev pub hex_digit : ℕ → ℕ
hex_digit n = if nat_lt n 10 then 48 + n else 87 + n

-- a number of 16 bits as four digits
abbrev pub hex : ℕ → List ℕ
hex n = hex_digit (n / 4096) ∷ hex_digit (n / 256 % 16) ∷ hex_digit (n / 16 % 16) ∷ hex_digit (n % 16) ∷ []

-- what is summed up of a sample: seed, streams, packets, their bytes, and the checksum of the capture
unfoldable pub sample_line : ℕ → ℕ → ℕ → ℕ → ℕ → List ℕ
sample_line seed streams packets bytes sum =
    codes "sample seed " ++ decimal seed
    ++ codes " streams " ++ decimal streams
    ++ codes " packets " ++ decimal packets
    ++ codes " bytes " ++ decimal bytes
    ++ codes " sum " ++ hex sum
    ++ codes "\n"

-- the numbers of a wire: how many records were sent, lost and copied, and how many copies arrived
unfoldable pub wire_line : ℕ → ℕ → ℕ → ℕ → List ℕ
wire_line sent lost copied arrived =
    codes "wire sent " ++ decimal sent
    ++ codes " lost " ++ decimal lost
    ++ codes " copied " ++ decimal copied
    ++ codes " arrived " ++ decimal arrived
    ++ codes "\n"

-- a bound that the input of a session breaks, and the line where it does
unfoldable pub session_line : List ℕ → ℕ → List ℕ
session_line name line = concat (codes "bad session: " ∷ name ∷ codes " line " ∷ decimal line ∷ codes "\n" ∷ [])

-- a line by itself
abbrev pub line_text : Line → List ℕ
line_text (Accepted streams) = accepted_line streams
line_text (UsageLine usage) = usage_line usage
line_text (Refused r) = refusal_line r
line_text (BadCapture fault) = fault_line fault
line_text (UnfitLine unfit) = unfit_line unfit
line_text ReadFault = codes "read fault\n"
line_text WriteFault = codes "write fault\n"
line_text OutOfMemory = codes "out of memory\n"
line_text (Sample seed streams packets bytes sum) = sample_line seed streams packets bytes sum
line_text (Wire sent lost copied arrived) = wire_line sent lost copied arrived
line_text (LineTooLong line) = session_line (codes "LineTooLong") line
line_text (TooMuch line) = session_line (codes "TooMuch") line
