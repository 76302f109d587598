-- The text of an import is read back.
use Rattle.std.proofs.Common.{◌≡◌, ℕ, ◌+◌, ◌-◌, ◌≤◌, ◌<◌, Bool, true, false, ne_eqb, lt-ltb, nat_lt, ◌&&◌, List, [], ◌∷◌, ◌++◌, decimal, Some, refl, sym, ap, ap₂, ◌∙◌, arith, append-nil}
use Rattle.std.proofs.lemmas.Bool.{and_parts}
use Rattle.std.proofs.lemmas.Str.{IsUtf8-from_ascii}
use Rattle.std.proofs.lemmas.Str.Ascii.{IsAscii-cons, IsAscii-nil}
use Rattle.std.proofs.lemmas.List.Folds.{list_all-append}
use borrow.Author.Tests.{ltb-true}
use Rattle.std.specs.List.{join_with_byte, list_all}
use Rattle.std.specs.Option.{option_and_then, option_map}
use Rattle.std.specs.Str.{IsAscii, IsUtf8}
use Rattle.base64.specs.Engines.{standard}
use Rattle.base64.specs.GeneralPurpose.{IsBytes, encode_of}
use Rattle.json.proofs.Printed.Tokens.{tokens-print}
use Rattle.json.proofs.Printed.Trees.{ArePrintable-json_tokens, value-json_tokens}
use Rattle.json.specs.Json as json
use Rattle.json.specs.Lex.{tokens}
use Rattle.json.specs.Tree as tree
use Rattle.serde_json.proofs.Texts.{print-outline}
use Rattle.serde_json.specs.Data.{Data, Items, item, array}
use Rattle.serde_json.specs.Read.{max_depth, of_items, of_json, read}
use Rattle.serde_json.specs.View.{items_of}
use Rattle.serde_json.specs.Written.{compact_text, items_outline, outline}
use Rattle.trex_decimal.proofs.QuotedLemmas.{inside_at_end, inside_at_end-append, quoted-kept}
use Rattle.trex_decimal.specs.Quoted.{quoted}
use Rattle.trex_io.specs.Seen.{Seen}
use Rattle.trex_import.proofs.PlainLemmas.{is_plain, is_plain_text, plain_tells, plain-decimal, plain-encode_of, plain-microseconds}
use Rattle.trex_import.proofs.TextLemmas.{document-text}
use Rattle.trex_import.specs.Document.{document, entry_data}
use Rattle.trex_import.specs.Drafts.{HaveBytes}
use Rattle.trex_import.specs.Imported.{entry_text, entry_with, first_time, for_each, imported, microseconds}

-- ---- what holds of each entry holds of the text

-- a fact that holds of two lists, and then of both joined
module _ (P : List ℕ → Type 0) (joins : (xs ys : List ℕ) → P xs → P ys → P (xs ++ ys)) (comma : P (44 ∷ []))
    (each : (id ns : ℕ) (bytes : List ℕ) → IsBytes bytes → P (entry_text id ns bytes)) (none : P []) where
  entries-have : (start number : ℕ) (rs : List Seen) → HaveBytes rs → P (join_with_byte 44 (for_each entry_text start number rs))
  entries-have start number [] have = none
  entries-have start number (r ∷ []) (here, later) = each number (r.time - start) r.bytes here
  entries-have start number (r ∷ s ∷ rs) (here, later) =
      let rest = join_with_byte 44 (for_each entry_text start (number + 1) (s ∷ rs)) in
      joins (entry_text number (r.time - start) r.bytes) (44 ∷ rest) (each number (r.time - start) r.bytes here)
      (joins (44 ∷ []) rest comma (entries-have start (number + 1) (s ∷ rs) later))

  imported-has : P (91 ∷ []) → P (93 ∷ []) → (rs : List Seen) → HaveBytes rs → P (imported rs)
  imported-has first last rs have =
      let entries = join_with_byte 44 (for_each entry_text (first_time rs) 1 rs) in
      joins (91 ∷ []) (entries ++ 93 ∷ []) first (joins entries (93 ∷ []) (entries-have (first_time rs) 1 rs have) last)

-- ---- quoted

-- a plain text stands inside a JSON text
plain-inside : (s : List ℕ) → is_plain_text s ≡ true → inside_at_end true s ≡ Some true
plain-inside [] plain = refl
plain-inside (b ∷ s) plain =
    let parts = and_parts (is_plain b) (is_plain_text s) plain in
    let tells = plain_tells b parts.0 in
    rw (ne_eqb b 34 tells.no_quote, ne_eqb b 92 tells.no_backslash) (plain-inside s parts.1)

-- after the text, no JSON text is open
abbrev EndsOutside : List ℕ → Type 0
EndsOutside text = inside_at_end false text ≡ Some false

outside-joins : (xs ys : List ℕ) → EndsOutside xs → EndsOutside ys → EndsOutside (xs ++ ys)
outside-joins xs ys first next = inside_at_end-append false false xs ys first ∙ next

entry-outside : (gap packet id : List ℕ) → is_plain_text gap ≡ true → is_plain_text packet ≡ true → is_plain_text id ≡ true → EndsOutside (entry_with gap packet id)
unfolding entry_with
entry-outside gap packet id gap_is packet_is id_is =
    inside_at_end-append true true gap _ (plain-inside gap gap_is)
    ∙ inside_at_end-append true true packet _ (plain-inside packet packet_is)
    ∙ inside_at_end-append true true id _ (plain-inside id id_is)

pub imported-quoted : (rs : List Seen) → HaveBytes rs → quoted (imported rs) ≡ imported rs
imported-quoted rs have =
    quoted-kept (imported rs) false
    (imported-has EndsOutside outside-joins refl (λ id ns bytes are. entry-outside (microseconds ns) (encode_of standard bytes) (decimal id) (plain-microseconds ns) (plain-encode_of bytes are) (plain-decimal id)) refl refl refl rs have)

-- ---- UTF-8

abbrev is_ascii_text : List ℕ → Bool
is_ascii_text = list_all (λ b. nat_lt b 128)

ascii_from : (s : List ℕ) → is_ascii_text s ≡ true → IsAscii s
ascii_from [] ascii = IsAscii-nil
ascii_from (b ∷ s) ascii =
    let parts = and_parts (nat_lt b 128) (is_ascii_text s) ascii in
    IsAscii-cons b s (ltb-true b 128 parts.0) (ascii_from s parts.1)

plain-ascii : (s : List ℕ) → is_plain_text s ≡ true → is_ascii_text s ≡ true
plain-ascii [] plain = refl
plain-ascii (b ∷ s) plain =
    let parts = and_parts (is_plain b) (is_plain_text s) plain in
    let tells = plain_tells b parts.0 in
    let small : b < 128 = omega (arith, tells.ascii) in
    ap₂ (λ x y. x && y) (lt-ltb b 128 small) (plain-ascii s parts.1)

-- an ASCII front is passed
ascii-front : (s rest : List ℕ) → is_plain_text s ≡ true → is_ascii_text (s ++ rest) ≡ is_ascii_text rest
ascii-front s rest plain = list_all-append (λ b. nat_lt b 128) s rest ∙ ap (λ x. x && is_ascii_text rest) (plain-ascii s plain)

ascii-joins : (xs ys : List ℕ) → is_ascii_text xs ≡ true → is_ascii_text ys ≡ true → is_ascii_text (xs ++ ys) ≡ true
ascii-joins xs ys first next = list_all-append (λ b. nat_lt b 128) xs ys ∙ ap₂ (λ x y. x && y) first next

entry-ascii : (gap packet id : List ℕ) → is_plain_text gap ≡ true → is_plain_text packet ≡ true → is_plain_text id ≡ true → is_ascii_text (entry_with gap packet id) ≡ true
unfolding entry_with
entry-ascii gap packet id gap_is packet_is id_is = ascii-front gap _ gap_is ∙ ascii-front packet _ packet_is ∙ ascii-front id _ id_is

pub imported-utf8 : (rs : List Seen) → HaveBytes rs → IsUtf8 (imported rs)
imported-utf8 rs have =
    IsUtf8-from_ascii (imported rs)
    (ascii_from (imported rs)
    (imported-has (λ l. is_ascii_text l ≡ true) ascii-joins refl (λ id ns bytes are. entry-ascii (microseconds ns) (encode_of standard bytes) (decimal id) (plain-microseconds ns) (plain-encode_of bytes are) (plain-decimal id)) refl refl refl rs have))

-- ---- read

-- some items read as they are
record Reads (ds : Items) : Type 0 where
  same : of_items (items_outline ds) ≡ Some ds
  shallow : tree.items_depth (items_outline ds) ≤ 4
  numbers : tree.ItemsHaveNumbers (items_outline ds)

entries-read : (start number : ℕ) (rs : List Seen) → Reads (items_of (for_each entry_data start number rs))
entries-read start number [] = record { same = refl; shallow = omega arith; numbers = tt }
entries-read start number (r ∷ rs) =
    let later = entries-read start (number + 1) rs in
    record {
      same = ap (option_map (item (entry_data number (r.time - start) r.bytes))) later.same;
      shallow = omega (arith, later.shallow);
      numbers = (((tt, (((tt, (tt, tt)), (tt, (tt, tt))), ((tt, tt), tt))), (tt, tt)), later.numbers);
    }

-- the text of a value that reads as it is
read-text : (d : Data) → of_json (outline d) ≡ Some d → tree.depth (outline d) ≤ max_depth → tree.HasNumbers (outline d) → read (compact_text d) ≡ Some d
read-text d same shallow numbers =
    let ts = tree.json_tokens (outline d) in
    let lexed : tokens (compact_text d) ≡ ts ++ [] = ap tokens (sym (print-outline d)) ∙ tokens-print ts (ArePrintable-json_tokens (outline d) numbers) ∙ sym (append-nil ts) in
    ap (λ o. option_and_then of_json (option_and_then (λ p. json.if_last p.0 p.1) o)) (ap (json.value max_depth) lexed ∙ value-json_tokens (outline d) max_depth [] shallow) ∙ same

pub imported-read : (rs : List Seen) → HaveBytes rs → read (imported rs) ≡ Some (document rs)
imported-read rs have =
    let entries = entries-read (first_time rs) 1 rs in
    ap read (sym (document-text rs have)) ∙ read-text (document rs) (ap (option_map array) entries.same) (omega (arith, entries.shallow)) entries.numbers
