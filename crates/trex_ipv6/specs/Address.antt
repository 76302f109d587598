-- Texts of IPv6 addresses (RFC 4291, section 2.2). That the form which ends in an IPv4 address is left out is the program's own choice.
use Rattle.std.specs.Prelude.{◌≡◌, ℕ, ◌==◌, Bool, false, if◌then◌else◌, List, Option, None}
use Rattle.std.specs.List.{list_any}
use Rattle.std.specs.Option.{option_map}
use Rattle.std.specs.Net.Addr.{octets_of}
use Rattle.std.specs.Net.Grammar.{IsColonHex}
use Rattle.std.specs.Net.Reader.{read_ipv6, whole_value}

-- the text has a dot
abbrev pub has_dot : List ℕ → Bool
has_dot text = list_any (λ c. c == 46) text

-- The text writes these sixteen bytes: eight groups of one to four hexadecimal digits, or fewer with one `::` for one zero group or
-- more (RFC 4291, section 2.2), and no dot.
pub record IsAddress6 (text bytes : List ℕ) : Type 0 where
  pub groups : List ℕ
  pub spelled : IsColonHex text groups
  pub plain : has_dot text ≡ false
  pub value : bytes ≡ octets_of groups

-- the sixteen bytes that a text writes, where it writes any
unfoldable pub address6_of : List ℕ → Option (List ℕ)
address6_of text = if has_dot text then None else option_map octets_of (whole_value (read_ipv6 text))
