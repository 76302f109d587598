-- What the command words ask for: a request, or the first fault from the left with its word's place. Own.
use Rattle.std.specs.Prelude.{ℕ, ◌+◌, ◌-◌, ◌*◌, ◌/◌, ◌^◌, ◌≤◌, ◌==◌, ◌&&◌, Bool, List, [], ◌∷◌, length, map, codes, Option, None, Some, Result, Ok, Err, is_some, if◌then◌else◌, nat_lt, nat_le, slice_index_or, String, string_bytes}
use Rattle.std.specs.declared.alloc.Global.{Global}
use Rattle.std.specs.Option.{option_or}
use Rattle.std.specs.Str.{bytes_eq, all_ascii_digits}
use Rattle.std.specs.Str.Parse.{digits_value}
use Rattle.trex_words.specs.First.{first_of}
use Rattle.trex_words.specs.declared.asked.RunAsk.{RunAsk}
use Rattle.trex_words.specs.declared.asked.SampleAsk.{SampleAsk}
use Rattle.trex_words.specs.declared.asked.WireAsk.{WireAsk}
use Rattle.trex_words.specs.declared.asked.Asked.{Asked}
use Rattle.trex_words.specs.declared.asked.Asked.TheVariants.{Run as ARun, Check as ACheck, Analyze as AnAnalysis, Sample as ASample, Import as AnImport, Wire as AWire, Session as ASession, Help as SomeHelp}
use Rattle.trex_words.specs.declared.command.Command.{Command}
use Rattle.trex_words.specs.declared.command.Command.TheVariants.{Run, Check, Analyze, Sample, Import, Wire, Session, Help}
use Rattle.trex_words.specs.declared.options.Limits.{Limits}
use Rattle.trex_words.specs.declared.asked.OptionName.TheVariants.{Seed}
use Rattle.trex_words.specs.declared.asked.Usage.{Usage}
use Rattle.trex_words.specs.declared.asked.Usage.TheVariants.{NoCommand, UnknownCommand, UnknownOption, Repeated, NoValue, BadNumber, OutOfRange, Missing}

-- the words as bytes
abbrev pub texts : List (String Global) → List (List ℕ)
texts words = map string_bytes words

-- the command of a word, if it is one
abbrev pub command_of : List ℕ → Option Command
command_of word =
    if bytes_eq word (codes "run") then Some Run
    else (if bytes_eq word (codes "check") then Some Check
    else (if bytes_eq word (codes "analyze") then Some Analyze
    else (if bytes_eq word (codes "sample") then Some Sample
    else (if bytes_eq word (codes "import") then Some Import
    else (if bytes_eq word (codes "wire") then Some Wire
    else (if bytes_eq word (codes "session") then Some Session
    else (if bytes_eq word (codes "help") then Some Help else None)))))))

-- the options of a command: the name of each, its least and its greatest value, and its value where it isn't given
abbrev pub Options : Type 0
Options = List (List ℕ × Limits)

abbrev pub limits : ℕ → ℕ → ℕ → Limits
limits least greatest default = record { least = least; greatest = greatest; default = default }

-- the options that a run and a sample have both
abbrev pub schedule_options : Options
schedule_options =
    (codes "--duration", limits 1 (10 ^ 18) (10 ^ 9))
    ∷ (codes "--limit", limits 1 100000000 100000)
    ∷ (codes "--cores", limits 1 64 1)
    ∷ []

abbrev pub run_options : Options
run_options = (codes "--base", limits 0 3000000000 0) ∷ schedule_options

-- the seed must be given
abbrev pub sample_options : Options
sample_options = (codes "--seed", limits 0 (2 ^ 64 - 1) 0) ∷ (codes "--streams", limits 1 256 16) ∷ schedule_options

-- the seed must be given; losses and copies are in millionths
abbrev pub wire_options : Options
wire_options =
    (codes "--seed", limits 0 (2 ^ 64 - 1) 0)
    ∷ (codes "--loss", limits 0 1000000 0)
    ∷ (codes "--copy", limits 0 1000000 0)
    ∷ (codes "--delay", limits 0 (10 ^ 18) 0)
    ∷ []

abbrev pub options_of : Command → Options
options_of Run = run_options
options_of Check = []
options_of Analyze = []
options_of Sample = sample_options
options_of Import = []
options_of Wire = wire_options
options_of Session = []
options_of Help = []

-- the limits of an option, if the command has it
abbrev pub limits_of : Options → List ℕ → Option Limits
limits_of [] name = None
limits_of (option ∷ options) name = if bytes_eq name option.0 then Some option.1 else limits_of options name

-- the word at a place
abbrev pub word : List (List ℕ) → ℕ → List ℕ
word words at = slice_index_or words at []

-- the words after the command are pairs: the option of pair k stands at place 2k + 1, its value after it
abbrev pub option_at : ℕ → ℕ
option_at k = 2 * k + 1

-- the place of the value of an option among the first n pairs, if it stands there
abbrev pub value_place : List (List ℕ) → ℕ → List ℕ → Option ℕ
value_place words n name = first_of (λ k. if bytes_eq (word words (option_at k)) name then Some (option_at k + 1) else None) n

-- whether a text is one or more digits
abbrev pub is_number : List ℕ → Bool
is_number text = nat_lt 0 (length text) && all_ascii_digits text

-- whether the number of a text lies from a least to a greatest value
abbrev pub is_within : ℕ → ℕ → List ℕ → Bool
is_within least greatest text = nat_le least (digits_value 10 text) && nat_le (digits_value 10 text) greatest

-- what is wrong with a value at a place: it has one or more digits, and lies within the limits
abbrev pub value_fault : Limits → ℕ → List ℕ → Option Usage
value_fault l at text = if is_number text then (if is_within l.least l.greatest text then None else Some (OutOfRange at)) else Some (BadNumber at)

-- what is wrong with an option at a place, and with its value: it is an option of the command that didn't stand before, and a word
-- follows it
abbrev pub option_fault : Option Limits → Bool → List (List ℕ) → ℕ → Option Usage
option_fault None stood words at = Some (UnknownOption at)
option_fault (Some l) stood words at = if stood then Some (Repeated at) else (if length words == at + 1 then Some (NoValue at) else value_fault l (at + 1) (word words (at + 1)))

-- what is wrong with pair k
abbrev pub pair_fault : Options → List (List ℕ) → ℕ → Option Usage
pair_fault options words k = option_fault (limits_of options (word words (option_at k))) (is_some (value_place words k (word words (option_at k)))) words (option_at k)

-- what is wrong with the words after the command: the first fault from the left
unfoldable pub fault_of : Options → List (List ℕ) → Option Usage
fault_of options words = first_of (pair_fault options words) (length words / 2)

-- the number at a place, or the default where there is no place
abbrev pub number_at : List (List ℕ) → Option ℕ → ℕ → ℕ
number_at words None default = default
number_at words (Some at) default = digits_value 10 (word words at)

-- the default of an option
abbrev pub default_of : Option Limits → ℕ
default_of None = 0
default_of (Some l) = l.default

-- the value of an option: the number that the words give it, or its default
unfoldable pub value_of : Options → List (List ℕ) → List ℕ → ℕ
value_of options words name = number_at words (value_place words (length words / 2) name) (default_of (limits_of options name))

-- the seed, where it isn't given
abbrev pub missing_seed : List (List ℕ) → Option Usage
missing_seed words = if is_some (value_place words (length words / 2) (codes "--seed")) then None else Some (Missing Seed)

-- an option that must be given and isn't
abbrev pub missing_option : Command → List (List ℕ) → Option Usage
missing_option Run words = None
missing_option Check words = None
missing_option Analyze words = None
missing_option Sample words = missing_seed words
missing_option Import words = None
missing_option Wire words = missing_seed words
missing_option Session words = None
missing_option Help words = None

-- what is wrong with the words of a command: the first fault from the left, and after the last word an option that is missing
abbrev pub command_fault : Command → List (List ℕ) → Option Usage
command_fault command words = option_or (fault_of (options_of command) words) (missing_option command words)

-- a run with the values of its options, the base aside
abbrev pub run_of : Options → List (List ℕ) → ℕ → RunAsk
run_of options words base = record {
  duration = value_of options words (codes "--duration");
  limit = value_of options words (codes "--limit");
  cores = value_of options words (codes "--cores");
  base = base;
}

abbrev pub run_ask : List (List ℕ) → RunAsk
run_ask words = run_of run_options words (value_of run_options words (codes "--base"))

-- a sample with the values of its options; its base is 0
abbrev pub sample_ask : List (List ℕ) → SampleAsk
sample_ask words = record {
  seed = value_of sample_options words (codes "--seed");
  streams = value_of sample_options words (codes "--streams");
  run = run_of sample_options words 0;
}

abbrev pub wire_ask : List (List ℕ) → WireAsk
wire_ask words = record {
  seed = value_of wire_options words (codes "--seed");
  loss = value_of wire_options words (codes "--loss");
  copy = value_of wire_options words (codes "--copy");
  delay = value_of wire_options words (codes "--delay");
}

-- what a command asks for
abbrev pub request : Command → List (List ℕ) → Asked
request Run words = ARun (run_ask words)
request Check words = ACheck
request Analyze words = AnAnalysis
request Sample words = ASample (sample_ask words)
request Import words = AnImport
request Wire words = AWire (wire_ask words)
request Session words = ASession
request Help words = SomeHelp

-- the request, if nothing is wrong with the words
abbrev pub unless : Option Usage → Asked → Result Asked Usage
unless None request = Ok request
unless (Some fault) request = Err fault

-- the request of a command, if the first word is one
abbrev pub asked_by : Option Command → List (List ℕ) → Result Asked Usage
asked_by None words = Err UnknownCommand
asked_by (Some command) words = unless (command_fault command words) (request command words)

-- what the words ask for, the command first
unfoldable pub asked : List (List ℕ) → Result Asked Usage
asked [] = Err NoCommand
asked (word ∷ words) = asked_by (command_of word) (word ∷ words)

-- the ranges of a run's options
pub record IsRunAsk (ask : RunAsk) : Type 0 where
  pub duration : ask.duration ≤ 10 ^ 18
  pub limit : ask.limit ≤ 100000000
  pub base : ask.base ≤ 3000000000
  pub cores : (1 ≤ ask.cores) × (ask.cores ≤ 64)

-- the ranges of a sample's options
pub record IsSampleAsk (ask : SampleAsk) : Type 0 where
  pub streams : (1 ≤ ask.streams) × (ask.streams ≤ 256)
  pub run : IsRunAsk ask.run

-- the ranges of a wire's options
pub record IsWireAsk (ask : WireAsk) : Type 0 where
  pub loss : ask.loss ≤ 1000000
  pub copy : ask.copy ≤ 1000000
  pub delay : ask.delay ≤ 10 ^ 18

-- the ranges of a request
abbrev pub IsAsked : Asked → Type 0
IsAsked (ARun ask) = IsRunAsk ask
IsAsked ACheck = Unit {0}
IsAsked AnAnalysis = Unit {0}
IsAsked (ASample ask) = IsSampleAsk ask
IsAsked AnImport = Unit {0}
IsAsked (AWire ask) = IsWireAsk ask
IsAsked ASession = Unit {0}
IsAsked SomeHelp = Unit {0}
