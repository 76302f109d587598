-- The kinds of values that a profile's names have (own).
use Rattle.std.specs.Prelude.{ℕ, ◌-◌, ◌^◌, ◌==◌, nat_eq, nat_le, bytes_eq, ℤ, pos, negsuc, zero, suc, codes, List, [], ◌∷◌, Option, None, Some, option_map, option_and_then, Result, Ok, Err, if◌then◌else◌}
use Rattle.std.specs.List.{list_any}
use Rattle.base64.specs.Engines.{standard}
use Rattle.base64.specs.GeneralPurpose.{decoded_of}
use Rattle.serde_json.specs.Data.{Data, null, boolean, number, string, array, object}
use Rattle.serde_json.specs.Find.{as_str, as_array}
use Rattle.trex_decimal.specs.Decimal.{whole_of, signed_of, scaled_of}
use Rattle.trex_decimal.specs.declared.decimal.DecimalFault.{DecimalFault}
use Rattle.trex_profile.specs.declared.raw.RateKind.{RateKind}
use Rattle.trex_profile.specs.declared.raw.RateKind.TheVariants.{Pps, BpsL1, BpsL2}
use Rattle.trex_profile.specs.declared.raw.RawPlace.{RawPlace}
use Rattle.trex_profile.specs.declared.raw.RawPlace.TheVariants.{At, Named}
use Rattle.trex_ipv6.specs.Address.{address6_of}
use Rattle.trex_stamp.specs.declared.header.Version.{Version}
use Rattle.trex_stamp.specs.declared.header.Version.TheVariants.{One, Two}
use Rattle.trex_vars.specs.declared.spec.Op.{Op}
use Rattle.trex_vars.specs.declared.spec.Op.TheVariants.{Inc, Dec, Random}
use Rattle.trex_json.specs.declared.kinds.InstrWord.{InstrWord}
use Rattle.trex_json.specs.declared.kinds.InstrWord.TheVariants.{FlowVar, RandLimit, Tuple, Write, WriteMask, FixIpv4, FixHw, FixIpv6, Trim}
use Rattle.trex_json.specs.declared.kinds.ModeWord.{ModeWord}
use Rattle.trex_json.specs.declared.kinds.ModeWord.TheVariants.{Continuous, SingleBurst, MultiBurst}
use Rattle.trex_json.specs.declared.kinds.LayerWord.{LayerWord}
use Rattle.trex_json.specs.declared.kinds.LayerWord.TheVariants.{Ethernet, Vlan, Ipv4, Ipv6, Tcp, Udp, Raw}
use Rattle.trex_json.specs.Addresses.{mac_of, address_of}
use Rattle.trex_json.specs.Json.{list_of}

-- an object
abbrev pub an_object : Data → Option Data
an_object null = None
an_object (boolean b) = None
an_object (number n) = None
an_object (string s) = None
an_object (array ds) = None
an_object (object ms) = Some (object ms)

-- the items of an array
abbrev pub an_array : Data → Option (List Data)
an_array d = option_map list_of (as_array d)

-- a number, where it is no greater than this one
abbrev pub at_most : ℕ → ℕ → Option ℕ
at_most greatest n = if nat_le n greatest then Some n else None

-- a whole number from 0 to the greatest
abbrev pub whole : ℕ → Data → Option ℕ
whole greatest d = option_and_then (at_most greatest) (option_and_then whole_of (as_str d))

-- the value of a decimal that was read
abbrev pub read_value : Result ℕ DecimalFault → Option ℕ
read_value (Ok n) = Some n
read_value (Err fault) = None

-- a decimal times 10 to the power of digits, floored
abbrev pub scaled : ℕ → Data → Option ℕ
scaled digits d = option_and_then (λ text. read_value (scaled_of text digits)) (as_str d)

-- a decimal times 10 to the power of digits, floored, where that is no greater than this number
abbrev pub decimal : ℕ → ℕ → Data → Option ℕ
decimal digits greatest d = option_and_then (at_most greatest) (scaled digits d)

-- the id of a stream as a signed number gives it: none for -1, else from 0 to 2147483647
abbrev pub id_of : ℤ → Option (Option ℕ)
id_of (pos n) = if nat_le n 2147483647 then Some (Some n) else None
id_of (negsuc zero) = Some None
id_of (negsuc (suc n)) = None

-- the id of the next stream, or none
abbrev pub next_id : Data → Option (Option ℕ)
next_id d = option_and_then id_of (option_and_then signed_of (as_str d))

-- the word of a mode
abbrev pub mode_of_word : List ℕ → Option ModeWord
mode_of_word word =
    if bytes_eq word (codes "continuous") then Some Continuous
    else if bytes_eq word (codes "single_burst") then Some SingleBurst
    else if bytes_eq word (codes "multi_burst") then Some MultiBurst
    else None

abbrev pub mode_word : Data → Option ModeWord
mode_word d = option_and_then mode_of_word (as_str d)

-- the word of what a rate counts
abbrev pub rate_of_word : List ℕ → Option RateKind
rate_of_word word =
    if bytes_eq word (codes "pps") then Some Pps
    else if bytes_eq word (codes "bps_L1") then Some BpsL1
    else if bytes_eq word (codes "bps_L2") then Some BpsL2
    else None

abbrev pub rate_kind : Data → Option RateKind
rate_kind d = option_and_then rate_of_word (as_str d)

-- the word of the one kind of flow
abbrev pub if_latency : List ℕ → Option (List ℕ)
if_latency word = if bytes_eq word (codes "latency") then Some word else None

abbrev pub latency_word : Data → Option (List ℕ)
latency_word d = option_and_then if_latency (as_str d)

-- the version of a latency header
abbrev pub version_of : ℕ → Option Version
version_of n = if n == 1 then Some One else if n == 2 then Some Two else None

abbrev pub a_version : Data → Option Version
a_version d = option_and_then version_of (whole 2 d)

-- the numbers of an array, each a whole number from 0 to the greatest
abbrev pub numbers_of : ℕ → List Data → Option (List ℕ)
numbers_of greatest [] = Some []
numbers_of greatest (d ∷ ds) = option_and_then (λ n. option_map (λ ns. n ∷ ns) (numbers_of greatest ds)) (whole greatest d)

-- bytes, as a base64 text (RFC 4648, section 4), or else as an array of whole numbers from 0 to 255
abbrev pub bytes_by : Option (List ℕ) → Option (List Data) → Option (List ℕ)
bytes_by (Some text) items = decoded_of standard text
bytes_by None items = option_and_then (numbers_of 255) items

abbrev pub bytes : Data → Option (List ℕ)
bytes d = bytes_by (as_str d) (an_array d)

-- the values of a list of variables: there is one, so none stands for an absent list
abbrev pub values : Data → Option (Option (List ℕ))
values d = option_map Some (option_and_then (numbers_of (2 ^ 64 - 1)) (an_array d))

-- a number, where it is one of these
abbrev pub one_of : List ℕ → ℕ → Option ℕ
one_of numbers n = if list_any (nat_eq n) numbers then Some n else None

-- a number of bytes in which a number is held
abbrev pub a_size : Data → Option ℕ
a_size d = option_and_then (one_of (1 ∷ 2 ∷ 4 ∷ 8 ∷ [])) (whole 8 d)

-- what stands behind an IPv4 header: 11 for UDP, 13 for TCP, 17 for anything
abbrev pub l4_code : Data → Option ℕ
l4_code d = option_and_then (one_of (11 ∷ 13 ∷ 17 ∷ [])) (whole 17 d)

-- what stands behind an IPv6 header: 11 for UDP, 13 for TCP
abbrev pub l4_code6 : Data → Option ℕ
l4_code6 d = option_and_then (one_of (11 ∷ 13 ∷ [])) (whole 13 d)

-- a signed number
abbrev pub a_signed : Data → Option ℤ
a_signed d = option_and_then signed_of (as_str d)

-- a number of bits, to the left where it is positive
abbrev pub shift_of : ℤ → Option ℤ
shift_of (pos n) = if nat_le n 63 then Some (pos n) else None
shift_of (negsuc n) = if nat_le n 62 then Some (negsuc n) else None

abbrev pub a_shift : Data → Option ℤ
a_shift d = option_and_then shift_of (a_signed d)

-- where a write begins: the byte that a text writes as a whole number, else the field that it names
abbrev pub place_by : List ℕ → Option ℕ → RawPlace
place_by text None = Named text
place_by text (Some at) = At at

abbrev pub place_of_text : List ℕ → RawPlace
place_of_text text = place_by text (whole_of text)

abbrev pub a_place : Data → Option RawPlace
a_place d = option_map place_of_text (as_str d)

-- how a variable goes from packet to packet
abbrev pub op_of_word : List ℕ → Option Op
op_of_word word =
    if bytes_eq word (codes "inc") then Some Inc
    else if bytes_eq word (codes "dec") then Some Dec
    else if bytes_eq word (codes "random") then Some Random
    else None

abbrev pub an_op : Data → Option Op
an_op d = option_and_then op_of_word (as_str d)

-- the word of an instruction
abbrev pub instr_of_word : List ℕ → Option InstrWord
instr_of_word word =
    if bytes_eq word (codes "flow_var") then Some FlowVar
    else if bytes_eq word (codes "flow_var_rand_limit") then Some RandLimit
    else if bytes_eq word (codes "tuple_flow_var") then Some Tuple
    else if bytes_eq word (codes "write_flow_var") then Some Write
    else if bytes_eq word (codes "write_mask_flow_var") then Some WriteMask
    else if bytes_eq word (codes "fix_checksum_ipv4") then Some FixIpv4
    else if bytes_eq word (codes "fix_checksum_hw") then Some FixHw
    else if bytes_eq word (codes "fix_checksum_ipv6") then Some FixIpv6
    else if bytes_eq word (codes "trim_pkt_size") then Some Trim
    else None

abbrev pub instr_word : Data → Option InstrWord
instr_word d = option_and_then instr_of_word (as_str d)

-- the word of a layer
abbrev pub layer_of_word : List ℕ → Option LayerWord
layer_of_word word =
    if bytes_eq word (codes "Ethernet") then Some Ethernet
    else if bytes_eq word (codes "Vlan") then Some Vlan
    else if bytes_eq word (codes "Ipv4") then Some Ipv4
    else if bytes_eq word (codes "Ipv6") then Some Ipv6
    else if bytes_eq word (codes "Tcp") then Some Tcp
    else if bytes_eq word (codes "Udp") then Some Udp
    else if bytes_eq word (codes "Raw") then Some Raw
    else None

abbrev pub layer_word : Data → Option LayerWord
layer_word d = option_and_then layer_of_word (as_str d)

-- a MAC address
abbrev pub a_mac : Data → Option (List ℕ)
a_mac d = option_and_then mac_of (as_str d)

-- an IPv4 address
abbrev pub an_address : Data → Option ℕ
an_address d = option_and_then address_of (as_str d)

-- an IPv6 address
abbrev pub an_address6 : Data → Option (List ℕ)
an_address6 d = option_and_then address6_of (as_str d)
