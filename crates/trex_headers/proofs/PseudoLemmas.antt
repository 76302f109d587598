-- The length and the sum of a pseudo header, over either version of IP.
use Rattle.std.proofs.Common.{◌≡◌, ℕ, ◌+◌, ◌%◌, ◌<◌, List, [], ◌∷◌, ◌++◌, length, ◌∙◌, arith, length-append}
use Rattle.byteorder.specs.Endian.{big_bytes}
use Rattle.trex_sum.specs.Checksum.{sum_of}
use Rattle.trex_sum.proofs.SumLemmas.{sum_of-append}
use Rattle.trex_headers.specs.declared.layer.Version.{Version}
use Rattle.trex_headers.specs.declared.layer.Version.TheVariants.{V4, V6}
use Rattle.trex_headers.specs.Header.{pseudo_ipv4, pseudo_ipv6}
use Rattle.trex_headers.specs.Network.{network_of}

pub length-pseudo_ipv4 : (ends : List ℕ) (protocol len : ℕ) → length (pseudo_ipv4 ends protocol len) ≡ length ends + 4
unfolding pseudo_ipv4
length-pseudo_ipv4 ends protocol len = length-append ends (0 ∷ protocol ∷ big_bytes 2 len)

length-pseudo_ipv6 : (ends : List ℕ) (protocol len : ℕ) → length (pseudo_ipv6 ends protocol len) ≡ length ends + 8
unfolding pseudo_ipv6
length-pseudo_ipv6 ends protocol len = length-append ends (big_bytes 4 len ++ (0 ∷ 0 ∷ 0 ∷ protocol ∷ []))

-- with addresses of whole words it is whole words
pub length-pseudo : (version : Version) (ends : List ℕ) (protocol len : ℕ) → length ends % 2 ≡ 0 → length ((network_of version).pseudo ends protocol len) % 2 ≡ 0
length-pseudo V4 ends protocol len even = omega (arith, length-pseudo_ipv4 ends protocol len)
length-pseudo V6 ends protocol len even = omega (arith, length-pseudo_ipv6 ends protocol len)

-- and its sum is that of its parts
pub sum_of-pseudo : (version : Version) (ends : List ℕ) (protocol len : ℕ) → length ends % 2 ≡ 0 → len < 65536
    → sum_of ((network_of version).pseudo ends protocol len) ≡ sum_of ends + protocol + len
unfolding pseudo_ipv4 pseudo_ipv6
sum_of-pseudo V4 ends protocol len even short = sum_of-append ends (0 ∷ protocol ∷ big_bytes 2 len) even ∙ omega arith
sum_of-pseudo V6 ends protocol len even short = sum_of-append ends (big_bytes 4 len ++ (0 ∷ 0 ∷ 0 ∷ protocol ∷ [])) even ∙ omega arith
