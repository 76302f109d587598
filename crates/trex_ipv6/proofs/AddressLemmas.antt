-- Address texts by their grammar and by their reader.
use Rattle.std.proofs.Common.{◌≡◌, ◌↔◌, ◌==◌, ℕ, Bool, true, false, if◌then◌else◌, List, [], ◌∷◌, ◌++◌, length, Option, Some, None, refl, sym, ap, ◌∙◌, subst, arith, append-nil}
use Rattle.std.proofs.lemmas.Bool.Decides.{nat_tests}
use Rattle.std.specs.declared.net.ipv6_addr.Ipv6Addr.{Ipv6Addr}
use Rattle.std.specs.Option.{option_map}
use Rattle.std.specs.Net.Addr.{octets_of}
use Rattle.std.specs.Net.Grammar.{IsColonHex, IsIpv6Text}
use Rattle.std.specs.Net.Reader.{read_ipv6, whole_value}
use Rattle.std.proofs.NetLemmas.Ipv6.{read_ipv6_complete, read_ipv6_sound, EndsGroups-nil}
use Rattle.std.proofs.NetLemmas.Options.{cond_none, cond_some, and_then_some, map_some}
use Rattle.trex_ipv6.specs.Address.{address6_of, has_dot, IsAddress6}

-- a text by the grammar is read whole
pub reads_spelled : (text groups : List ℕ) → IsColonHex text groups → whole_value (read_ipv6 text) ≡ Some groups
reads_spelled text groups h = ap whole_value (rw append-nil at (read_ipv6_complete text groups [] h EndsGroups-nil))

empty : (xs : List ℕ) → (length xs == 0) ≡ true → xs ≡ []
empty [] is = refl
empty (x ∷ xs) is = absurd (grind (arith, nat_tests))

-- what is read whole is a text by the grammar
spelled-read : (text groups : List ℕ) → whole_value (read_ipv6 text) ≡ Some groups → IsColonHex text groups
spelled-read text groups e =
    and_then_some _ (read_ipv6 text) groups e λ part read kept.
    let (whole, value) = cond_some (length part.1 == 0) part.0 groups kept in
    let (front, split, spelled) = read_ipv6_sound text part.0 part.1 read in
    let same : text ≡ front = split ∙ ap (λ (rest : List ℕ). front ++ rest) (empty part.1 whole) ∙ append-nil front in
    subst (λ (t : List ℕ). IsColonHex t groups) (sym same) (subst (λ (g : List ℕ). IsColonHex front g) value spelled)

-- a text that no address spells isn't read
pub address6_of-none : (text : List ℕ) → ((a : Ipv6Addr) → IsIpv6Text text a → ⊥) → None ≡ address6_of text
unfolding address6_of
address6_of-none text none = by_test (has_dot text) (whole_value (read_ipv6 text)) refl
  where
    by_test : (dot : Bool) (value : Option (List ℕ)) → whole_value (read_ipv6 text) ≡ value → None ≡ (if dot then None else option_map octets_of value)
    by_test true value is = refl
    by_test false None is = refl
    by_test false (Some groups) is = absurd (none (record { segments = groups }) (spelled-read text groups is))

-- the reader gives the bytes that a text writes, and no others
pub address6_of-iff : (text bytes : List ℕ) → IsAddress6 text bytes ↔ (address6_of text ≡ Some bytes)
unfolding address6_of
address6_of-iff text bytes = (
  λ h. rw h.plain (ap (option_map octets_of) (reads_spelled text h.groups h.spelled) ∙ ap Some (sym h.value)),
  λ e.
      let (plain, given) = cond_none (has_dot text) (option_map octets_of (whole_value (read_ipv6 text))) bytes e in
      map_some octets_of (whole_value (read_ipv6 text)) bytes given λ groups read is.
      record { groups = groups; spelled = spelled-read text groups read; plain = plain; value = sym is },
)
