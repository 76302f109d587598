-- Which bytes a checksum covers, and when a fixed header verifies. Own.
use Rattle.std.specs.Prelude.{◌≡◌, ℕ, ◌+◌, ◌-◌, ◌<◌, ◌≤◌, ◌⊎◌, List, IsTrue, IsFalse, All, IfSome, IsSomeAnd}
use Rattle.trex_sum.specs.Checksum.{sum_of, Verifies}
use Rattle.trex_headers.specs.declared.layer.Version.{Version as IpVersion}
use Rattle.trex_headers.specs.Network.{Network, network_of}
use Rattle.trex_vm.specs.declared.effect.Fix.{Fix}
use Rattle.trex_vm.specs.declared.effect.Fix.TheVariants.{Header, Segment}
use Rattle.trex_vm.specs.declared.instr.Instr.{Instr}
use Rattle.trex_vm.specs.declared.instr.L4Kind.{L4Kind}
use Rattle.trex_vm.specs.declared.instr.L4Kind.TheVariants.{Tcp, Udp}
use Rattle.trex_vm.specs.Effect.{fix_of, writes_byte}
use Rattle.trex_vm.specs.Fix.{header_length, header_at, segment_length, segment_fits, segment_at}

-- byte k is one of the `size` bytes from `at` on
abbrev pub IsWithin : ℕ → ℕ → ℕ → Type 0
IsWithin at size k = (at ≤ k) × (k < at + size)

-- byte k is the protocol or the next header, or one of the two addresses, of the IP header at a place
abbrev pub IsOfPseudoHeader : Network → ℕ → ℕ → Type 0
IsOfPseudoHeader net ip k = (k ≡ ip + net.protocol) ⊎ IsWithin (ip + net.addresses) (net.end - net.addresses) k

-- the checksum of a segment covers byte k: of the segment, the protocol or next header, the two addresses, and for TCP the length in the IP header
abbrev pub CoversSegment : IpVersion → L4Kind → ℕ → ℕ → List ℕ → ℕ → Type 0
CoversSegment version Udp ip header packet k =
    IsWithin (ip + header) (segment_length version Udp ip header packet) k ⊎ IsOfPseudoHeader (network_of version) ip k
CoversSegment version Tcp ip header packet k =
    IsWithin (ip + header) (segment_length version Tcp ip header packet) k
    ⊎ (IsOfPseudoHeader (network_of version) ip k ⊎ IsWithin (ip + (network_of version).length) 2 k)

-- the checksum of a fix covers byte k of the packet
abbrev pub CoversByte : Fix → List ℕ → ℕ → Type 0
CoversByte (Header at) packet k = IsWithin at (header_length packet at) k
CoversByte (Segment version ip header kind) packet k = CoversSegment version kind ip header packet k

-- the checksum that the instruction fixes covers byte k of the packet
abbrev pub Covers : Instr → List ℕ → ℕ → Type 0
Covers instr packet k = IsSomeAnd (fix_of instr) (λ fix. CoversByte fix packet k)

-- no later instruction writes a byte that the fix covers
abbrev pub StaysFixed : Instr → List Instr → List ℕ → Type 0
StaysFixed fix later packet = (k : ℕ) → Covers fix packet k → All (λ instr. IsFalse (writes_byte instr k)) later

-- what a fix wrote the checksum of verifies: a segment, where its length fits
abbrev pub FixVerifies : Fix → List ℕ → Type 0
FixVerifies (Header at) packet = Verifies (sum_of (header_at at packet))
FixVerifies (Segment version ip header kind) packet =
    IsTrue (segment_fits version kind ip header packet) → Verifies (sum_of (segment_at version kind ip header packet))

-- the header that the instruction fixed verifies
abbrev pub HeaderVerifies : Instr → List ℕ → Type 0
HeaderVerifies instr packet = IfSome (fix_of instr) (λ fix. FixVerifies fix packet)
