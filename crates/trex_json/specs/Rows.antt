-- The names of a profile: each with its kind and its default, or required (own). An absent object counts as null, of which
-- each name is absent.
use Rattle.std.specs.Prelude.{ℕ, ◌-◌, ◌^◌, ℤ, pos, Bool, true, false, List, [], codes, Option, None}
use Rattle.serde_json.specs.Data.{Data, null}
use Rattle.serde_json.specs.Find.{as_bool, as_str}
use Rattle.trex_profile.specs.declared.raw.RateKind.{RateKind}
use Rattle.trex_profile.specs.declared.raw.RateKind.TheVariants.{Pps}
use Rattle.trex_profile.specs.declared.raw.RawPlace.{RawPlace}
use Rattle.trex_profile.specs.declared.raw.RawPlace.TheVariants.{At}
use Rattle.trex_stamp.specs.declared.header.Version.{Version}
use Rattle.trex_stamp.specs.declared.header.Version.TheVariants.{One}
use Rattle.trex_stamp.specs.Stamp.{flow_size}
use Rattle.trex_vars.specs.declared.spec.Op.{Op}
use Rattle.trex_vars.specs.declared.spec.Op.TheVariants.{Inc}
use Rattle.trex_json.specs.declared.kinds.InstrWord.{InstrWord}
use Rattle.trex_json.specs.declared.kinds.InstrWord.TheVariants.{FixIpv4}
use Rattle.trex_json.specs.declared.kinds.ModeWord.{ModeWord}
use Rattle.trex_json.specs.declared.kinds.ModeWord.TheVariants.{Continuous}
use Rattle.trex_json.specs.declared.kinds.LayerWord.{LayerWord}
use Rattle.trex_json.specs.declared.kinds.LayerWord.TheVariants.{Raw}
use Rattle.trex_json.specs.Kinds.{an_object, an_array, whole, scaled, decimal, next_id, mode_word, rate_kind, latency_word, a_version, bytes, values, a_size, l4_code, l4_code6, a_signed, a_shift, a_place, an_op, instr_word, layer_word, a_mac, an_address, an_address6}
use Rattle.trex_json.specs.Names.{Row, optional, required}

-- the names of an entry
abbrev pub stream_id : Row ℕ
stream_id = required (codes "stream_id") (whole 2147483647) 0

abbrev pub stream : Row Data
stream = required (codes "stream") an_object null

-- the names of a stream
abbrev pub enabled : Row Bool
enabled = optional (codes "enabled") as_bool true

abbrev pub self_start : Row Bool
self_start = optional (codes "self_start") as_bool true

-- microseconds, of which nanoseconds are kept
abbrev pub isg : Row ℕ
isg = optional (codes "isg") (decimal 3 (10 ^ 18)) 0

abbrev pub next : Row (Option ℕ)
next = optional (codes "next_stream_id") next_id None

abbrev pub action_count : Row ℕ
action_count = optional (codes "action_count") (whole 4294967295) 0

abbrev pub seed : Row ℕ
seed = optional (codes "random_seed") (whole (2 ^ 64 - 1)) 0

abbrev pub packet : Row Data
packet = required (codes "packet") an_object null

abbrev pub mode : Row Data
mode = required (codes "mode") an_object null

abbrev pub flow_stats : Row Data
flow_stats = optional (codes "flow_stats") an_object null

abbrev pub vm : Row Data
vm = optional (codes "vm") an_object null

-- the names of a packet, of which one is there
abbrev pub binary : Row (List ℕ)
binary = required (codes "binary") bytes []

abbrev pub layers : Row (List Data)
layers = required (codes "layers") an_array []

-- the names of a mode
abbrev pub mode_type : Row ModeWord
mode_type = required (codes "type") mode_word Continuous

abbrev pub rate : Row Data
rate = required (codes "rate") an_object null

abbrev pub total_pkts : Row ℕ
total_pkts = required (codes "total_pkts") (whole 4294967295) 0

abbrev pub pkts_per_burst : Row ℕ
pkts_per_burst = required (codes "pkts_per_burst") (whole 4294967295) 0

abbrev pub count : Row ℕ
count = required (codes "count") (whole 4294967295) 0

-- microseconds, of which nanoseconds are kept
abbrev pub ibg : Row ℕ
ibg = optional (codes "ibg") (decimal 3 (10 ^ 18)) 0

-- the names of a rate
abbrev pub rate_type : Row RateKind
rate_type = required (codes "type") rate_kind Pps

-- in millionths
abbrev pub rate_value : Row ℕ
rate_value = required (codes "value") (scaled 6) 0

-- the names of a flow
abbrev pub flow_enabled : Row Bool
flow_enabled = optional (codes "enabled") as_bool false

abbrev pub rule_type : Row (List ℕ)
rule_type = required (codes "rule_type") latency_word []

abbrev pub version : Row Version
version = optional (codes "version") a_version One

-- the greatest number that a latency header of that version has room for
abbrev pub flow_number : Version → Row ℕ
flow_number version = required (codes "stream_id") (whole (256 ^ flow_size version - 1)) 0

-- the name of a stream's program
abbrev pub instructions : Row (List Data)
instructions = optional (codes "instructions") an_array []

-- the word of an instruction
abbrev pub instr_type : Row InstrWord
instr_type = required (codes "type") instr_word FixIpv4

-- the names of instructions
abbrev pub name : Row (List ℕ)
name = required (codes "name") as_str []

abbrev pub size : Row ℕ
size = required (codes "size") a_size 1

abbrev pub op : Row Op
op = required (codes "op") an_op Inc

abbrev pub min_value : Row ℕ
min_value = optional (codes "min_value") (whole (2 ^ 64 - 1)) 0

-- the greatest number of so many bytes, where it is absent
abbrev pub max_value : ℕ → Row ℕ
max_value size = optional (codes "max_value") (whole (2 ^ 64 - 1)) (256 ^ size - 1)

-- the least value, where it is absent
abbrev pub init_value : ℕ → Row ℕ
init_value min = optional (codes "init_value") (whole (2 ^ 64 - 1)) min

abbrev pub step : Row ℕ
step = optional (codes "step") (whole (2 ^ 64 - 1)) 1

abbrev pub value_list : Row (Option (List ℕ))
value_list = optional (codes "value_list") values None

abbrev pub limit : Row ℕ
limit = required (codes "limit") (whole (2 ^ 64 - 1)) 0

-- whether a variable begins anew at each visit
abbrev pub restart : Row Bool
restart = optional (codes "restart") as_bool false

-- the stream's seed, where it is absent
abbrev pub own_seed : ℕ → Row ℕ
own_seed seed = optional (codes "seed") (whole (2 ^ 64 - 1)) seed

abbrev pub ip_min : Row ℕ
ip_min = required (codes "ip_min") (whole 4294967295) 0

abbrev pub ip_max : Row ℕ
ip_max = required (codes "ip_max") (whole 4294967295) 0

abbrev pub port_min : Row ℕ
port_min = required (codes "port_min") (whole 65535) 0

abbrev pub port_max : Row ℕ
port_max = required (codes "port_max") (whole 65535) 0

abbrev pub limit_flows : Row ℕ
limit_flows = optional (codes "limit_flows") (whole 4294967295) 0

abbrev pub write_offset : Row RawPlace
write_offset = required (codes "pkt_offset") a_place (At 0)

abbrev pub add_value : Row ℤ
add_value = optional (codes "add_value") a_signed (pos 0)

abbrev pub is_big_endian : Row Bool
is_big_endian = optional (codes "is_big_endian") as_bool true

abbrev pub cast_size : Row ℕ
cast_size = required (codes "pkt_cast_size") a_size 1

abbrev pub mask : Row ℕ
mask = required (codes "mask") (whole (2 ^ 64 - 1)) 0

abbrev pub shift : Row ℤ
shift = optional (codes "shift") a_shift (pos 0)

abbrev pub fix_offset : Row ℕ
fix_offset = required (codes "pkt_offset") (whole (2 ^ 64 - 1)) 0

abbrev pub l2_len : Row ℕ
l2_len = required (codes "l2_len") (whole (2 ^ 64 - 1)) 0

abbrev pub l3_len : Row ℕ
l3_len = required (codes "l3_len") (whole (2 ^ 64 - 1)) 0

abbrev pub l4_type : Row ℕ
l4_type = required (codes "l4_type") l4_code 17

abbrev pub l4_type6 : Row ℕ
l4_type6 = required (codes "l4_type") l4_code6 11

-- the word of a layer
abbrev pub layer_type : Row LayerWord
layer_type = required (codes "type") layer_word Raw

-- the names of layers; the payload's is `binary`, as a packet's
abbrev pub mac_dst : Row (List ℕ)
mac_dst = required (codes "dst") a_mac []

abbrev pub mac_src : Row (List ℕ)
mac_src = required (codes "src") a_mac []

abbrev pub etype : Row ℕ
etype = optional (codes "etype") (whole 65535) 34997

abbrev pub tci : Row ℕ
tci = required (codes "tci") (whole 65535) 0

abbrev pub ip_src : Row ℕ
ip_src = required (codes "src") an_address 0

abbrev pub ip_dst : Row ℕ
ip_dst = required (codes "dst") an_address 0

abbrev pub tos : Row ℕ
tos = optional (codes "tos") (whole 255) 0

abbrev pub ip_id : Row ℕ
ip_id = optional (codes "id") (whole 65535) 0

abbrev pub frag : Row ℕ
frag = optional (codes "frag") (whole 65535) 0

abbrev pub ttl : Row ℕ
ttl = optional (codes "ttl") (whole 255) 64

abbrev pub proto : Row ℕ
proto = optional (codes "proto") (whole 255) 253

abbrev pub class : Row ℕ
class = optional (codes "class") (whole 255) 0

abbrev pub label : Row ℕ
label = optional (codes "label") (whole 1048575) 0

abbrev pub hop : Row ℕ
hop = optional (codes "hop") (whole 255) 64

-- the next header: 59 says that none follows (RFC 8200, section 4.7)
abbrev pub next_header : Row ℕ
next_header = optional (codes "next") (whole 255) 59

abbrev pub ip6_src : Row (List ℕ)
ip6_src = required (codes "src") an_address6 []

abbrev pub ip6_dst : Row (List ℕ)
ip6_dst = required (codes "dst") an_address6 []

abbrev pub sport : Row ℕ
sport = required (codes "sport") (whole 65535) 0

abbrev pub dport : Row ℕ
dport = required (codes "dport") (whole 65535) 0

abbrev pub seq : Row ℕ
seq = optional (codes "seq") (whole 4294967295) 0

abbrev pub ack : Row ℕ
ack = optional (codes "ack") (whole 4294967295) 0

abbrev pub tcp_flags : Row ℕ
tcp_flags = optional (codes "flags") (whole 255) 2

abbrev pub window : Row ℕ
window = optional (codes "window") (whole 65535) 8192
