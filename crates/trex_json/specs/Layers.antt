-- The packet of a stream, as bytes or by layers, and the rules on it (own).
use Rattle.std.specs.Prelude.{ℕ, ◌||◌, ◌==◌, Bool, count_by, List, [], ◌∷◌, map, Option, is_none, is_some, option_map, codes, if◌then◌else◌}
use Rattle.serde_json.specs.Data.{Data}
use Rattle.trex_headers.specs.declared.layer.Version.{Version}
use Rattle.trex_headers.specs.declared.layer.Version.TheVariants.{V4, V6}
use Rattle.trex_headers.specs.Built.{built, too_long}
use Rattle.trex_headers.specs.Layer.{Layer, Ethernet, Vlan, Ipv4, Ipv6, Tcp, Udp, Raw}
use Rattle.trex_headers.specs.Order.{is_ipv6, misplaced}
use Rattle.trex_profile.specs.declared.refusal.Breach.{Breach}
use Rattle.trex_profile.specs.declared.rule.Rule.TheVariants.{BadBinary, BadLayer, LayerOrder, LayersTooLong}
use Rattle.trex_profile.specs.Order.{first, first_each}
use Rattle.trex_profile.specs.Refusal.{at_place, rule, rule_there}
use Rattle.trex_json.specs.declared.kinds.LayerWord.{LayerWord}
use Rattle.trex_json.specs.declared.kinds.LayerWord.TheVariants.{Ethernet as EthernetWord, Vlan as VlanWord, Ipv4 as Ipv4Word, Ipv6 as Ipv6Word, Tcp as TcpWord, Udp as UdpWord, Raw as RawWord}
use Rattle.trex_json.specs.Kinds.{an_object}
use Rattle.trex_json.specs.Names.{under, wrong, value}
use Rattle.trex_json.specs.Rows as row

-- the names of an Ethernet layer are wrong
unfoldable pub ethernet_wrong : Data → Bool
ethernet_wrong d = wrong row.mac_dst d || wrong row.mac_src d || wrong row.etype d

-- the names of a tag are wrong
unfoldable pub vlan_wrong : Data → Bool
vlan_wrong d = wrong row.tci d || wrong row.etype d

-- the names of an IPv4 layer are wrong
unfoldable pub ipv4_wrong : Data → Bool
ipv4_wrong d =
    wrong row.tos d || wrong row.ip_id d || wrong row.frag d || wrong row.ttl d || wrong row.proto d || wrong row.ip_src d
    || wrong row.ip_dst d

-- the names of an IPv6 layer are wrong
unfoldable pub ipv6_wrong : Data → Bool
ipv6_wrong d =
    wrong row.class d || wrong row.label d || wrong row.hop d || wrong row.next_header d || wrong row.ip6_src d || wrong row.ip6_dst d

-- the names of a TCP layer are wrong
unfoldable pub tcp_wrong : Data → Bool
tcp_wrong d =
    wrong row.sport d || wrong row.dport d || wrong row.seq d || wrong row.ack d || wrong row.tcp_flags d || wrong row.window d

-- the names of a UDP layer are wrong
unfoldable pub udp_wrong : Data → Bool
udp_wrong d = wrong row.sport d || wrong row.dport d

-- a name of a layer of that word is missing or not of its kind
abbrev pub names_wrong : LayerWord → Data → Bool
names_wrong EthernetWord d = ethernet_wrong d
names_wrong VlanWord d = vlan_wrong d
names_wrong Ipv4Word d = ipv4_wrong d
names_wrong Ipv6Word d = ipv6_wrong d
names_wrong TcpWord d = tcp_wrong d
names_wrong UdpWord d = udp_wrong d
names_wrong RawWord d = wrong row.binary d

-- an IPv4 layer, each default filled in
abbrev pub ipv4 : Data → Layer
ipv4 d =
    Ipv4 (value row.tos d) (value row.ip_id d) (value row.frag d) (value row.ttl d) (value row.proto d) (value row.ip_src d)
    (value row.ip_dst d)

-- an IPv6 layer, each default filled in
abbrev pub ipv6 : Data → Layer
ipv6 d =
    Ipv6 (value row.class d) (value row.label d) (value row.hop d) (value row.next_header d) (value row.ip6_src d) (value row.ip6_dst d)

-- a TCP layer, each default filled in
abbrev pub tcp : Data → Layer
tcp d =
    Tcp (value row.sport d) (value row.dport d) (value row.seq d) (value row.ack d) (value row.tcp_flags d) (value row.window d)

-- a layer of that word, each default filled in
abbrev pub layer_by : LayerWord → Data → Layer
layer_by EthernetWord d = Ethernet (value row.mac_dst d) (value row.mac_src d) (value row.etype d)
layer_by VlanWord d = Vlan (value row.tci d) (value row.etype d)
layer_by Ipv4Word d = ipv4 d
layer_by Ipv6Word d = ipv6 d
layer_by TcpWord d = tcp d
layer_by UdpWord d = Udp (value row.sport d) (value row.dport d)
layer_by RawWord d = Raw (value row.binary d)

-- a layer is no object, or its type is missing or unknown, or one of its names is wrong
unfoldable pub layer_wrong : Data → Bool
layer_wrong d = is_none (an_object d) || wrong row.layer_type d || names_wrong (value row.layer_type d) d

-- the rule on the layer at a place
abbrev pub layer_rule : ℕ → Data → Option Breach
layer_rule place d = rule_there BadLayer place (layer_wrong d)

-- the layer, each default filled in
abbrev pub layer_of : Data → Layer
layer_of d = layer_by (value row.layer_type d) d

-- the layers of a packet
abbrev pub layers_of : Data → List Layer
layers_of packet = map layer_of (value row.layers packet)

-- the version of IP over which layers are built: 6 where one of them is its header, else 4
abbrev pub version_over : List Layer → Version
version_over layers = if count_by is_ipv6 layers == 0 then V4 else V6

-- the rule on the order of layers, at the first that can't stand where it does
abbrev pub order_rule : List Layer → Option Breach
order_rule layers = option_map (λ at. at_place at LayerOrder) (misplaced (version_over layers) layers)

-- the rules on layers that are read
abbrev pub build_rules : List Layer → Option Breach
build_rules layers = first (order_rule layers ∷ rule LayersTooLong (too_long layers) ∷ [])

-- the rules on a packet by layers
unfoldable pub layers_rules : Data → Option Breach
layers_rules packet = first (
    rule BadLayer (wrong row.layers packet)
    ∷ first_each layer_rule 0 (value row.layers packet)
    ∷ build_rules (layers_of packet)
    ∷ [])

-- a packet has bytes, which count where it has layers too
abbrev pub has_binary : Data → Bool
has_binary packet = is_some (under (codes "binary") packet)

-- a packet has layers
abbrev pub has_layers : Data → Bool
has_layers packet = is_some (under (codes "layers") packet)

-- the rules on what a packet has
unfoldable pub template_rules : Data → Option Breach
template_rules packet = if has_binary packet then rule BadBinary (wrong row.binary packet) else layers_rules packet

-- the bytes of a packet
unfoldable pub template_of : Data → List ℕ
template_of packet = if has_binary packet then value row.binary packet else built (layers_of packet)
