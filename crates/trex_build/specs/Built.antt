-- The packet of some layers over IPv4. Own.
use Rattle.std.specs.Prelude.{ℕ, List, Result}
pub use Rattle.trex_headers.specs.Built.{built, too_long}
use Rattle.trex_headers.specs.declared.building.BuildFault.{BuildFault}
use Rattle.trex_headers.specs.declared.layer.Version.TheVariants.{V4}
use Rattle.trex_headers.specs.Layer.{Layer}
use Rattle.trex_headers.specs.Built as headers
use Rattle.trex_headers.specs.Verified as verified

-- an answer is the packet, or else the first fault, unless memory ran out: the order is looked at, and then the length
abbrev pub Builds : {X : Type 0} → (X → List ℕ) → Result X BuildFault → List Layer → Type 0
Builds view result layers = headers.Builds view result V4 layers

-- each IPv4 header of the packet of some layers verifies, and each UDP or TCP segment behind one
abbrev pub HeadersVerify : List Layer → List ℕ → Type 0
HeadersVerify layers packet = verified.HeadersVerify V4 layers packet
