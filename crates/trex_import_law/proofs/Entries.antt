-- The entries of a text of records keep the rules on shapes, and say the streams of the records.
use Rattle.std.proofs.Common.{◌≡◌, ℕ, ◌+◌, ◌-◌, ◌^◌, ◌<◌, ◌≤◌, true, nat_le, List, [], ◌∷◌, length, map, codes, decimal, Some, None, Ok, refl, ap, ap₂, ◌∙◌, arith, le-leb, le-ltb}
use Rattle.std.proofs.lemmas.Str.{is_utf8-from_IsUtf8}
use Rattle.std.specs.Str.{IsUtf8}
use Rattle.base64.specs.Engines.{standard}
use Rattle.base64.specs.GeneralPurpose.{IsBytes, decoded_of, encode_of}
use Rattle.serde_json.specs.Data.{Data}
use Rattle.serde_json.specs.Read.{read}
use Rattle.serde_json.specs.View.{items_of}
use Rattle.trex_decimal.proofs.NumberLemmas.{whole_of-decimal}
use Rattle.trex_decimal.specs.Decimal.{scaled_of, whole_of}
use Rattle.trex_decimal.specs.Grammar.{stop_of}
use Rattle.trex_import.specs.Document.{document, entry_data, entry_of}
use Rattle.trex_import.specs.Drafts.{HaveBytes}
use Rattle.trex_import.specs.Imported.{first_time, for_each, imported, microseconds}
use Rattle.trex_io.specs.Seen.{Seen}
use Rattle.trex_json.specs.Json.{json_of, list_of, value_of}
use Rattle.trex_json.specs.Layers.{template_of, template_rules}
use Rattle.trex_json.specs.Shape.{count_rules, effect_rules, entry_rules, entry_stream, field_rules, flow_wrong, mode_rules, packet_wrong, rate_wrong, shape_refusal, stream_of, stream_rules, vm_wrong}
use Rattle.trex_json.specs.Verdict.{shape_of, text_refusal}
use Rattle.trex_profile.specs.Order.{first_each}
use Rattle.trex_import_law.proofs.EntryLemmas.{decoded_of-encode_of, scaled_of-microseconds}
use Rattle.trex_import_law.proofs.Fit.{AreFit, AreProfile, count-each}
use Rattle.trex_import_law.proofs.ReadingLemmas.{imported-quoted, imported-read, imported-utf8}
use Rattle.trex_import_law.specs.Resent.{once, streams_of}

-- ---- one entry

-- the two numbers that each entry has
one-is : whole_of (codes "1") ≡ Some 1
unfolding whole_of
one-is = refl

rate-is : scaled_of (codes "1000000000") 6 ≡ Ok (10 ^ 15)
unfolding scaled_of stop_of
rate-is = refl

-- an entry whose texts say this gap, this id and these bytes
module _ (gap packet id : List ℕ) (ns n : ℕ) (bytes : List ℕ)
    (gap_is : scaled_of gap 3 ≡ Ok ns) (near : nat_le ns (10 ^ 18) ≡ true)
    (id_is : whole_of id ≡ Some n) (few : nat_le n 2147483647 ≡ true)
    (packet_is : decoded_of standard packet ≡ Some bytes) where
  entry-fits : entry_rules (entry_of gap packet id) ≡ None
  unfolding entry_rules stream_rules field_rules packet_wrong template_rules mode_rules rate_wrong count_rules effect_rules flow_wrong vm_wrong
  entry-fits = rw (id_is, few, gap_is, near, packet_is, one-is, rate-is) refl

  entry-says : entry_stream (entry_of gap packet id) ≡ once n ns bytes
  unfolding stream_of template_of
  entry-says = rw (id_is, few, gap_is, near, packet_is, one-is, rate-is) refl

-- ---- all entries

-- an entry of the text keeps the rules, and says its stream
record IsEntry (number ns : ℕ) (bytes : List ℕ) : Type 0 where
  fits : entry_rules (entry_data number ns bytes) ≡ None
  says : entry_stream (entry_data number ns bytes) ≡ once number ns bytes

entry-is : (number ns : ℕ) (bytes : List ℕ) → number ≤ 4096 → ns < 10 ^ 18 → IsBytes bytes → IsEntry number ns bytes
entry-is number ns bytes few near are =
    let gap_is = scaled_of-microseconds ns near in
    let id_is = whole_of-decimal number (omega arith) in
    let packet_is = decoded_of-encode_of bytes are in
    let within = le-leb ns (10 ^ 18) (omega arith) in
    let small = le-leb number 2147483647 (omega arith) in
    record {
      fits = entry-fits (microseconds ns) (encode_of standard bytes) (decimal number) ns number bytes gap_is within id_is small packet_is;
      says = entry-says (microseconds ns) (encode_of standard bytes) (decimal number) ns number bytes gap_is within id_is small packet_is;
    }

-- the rules on shapes, entry by entry
entries-fit : (position start before number : ℕ) (rs : List Seen) → AreFit start before number rs → HaveBytes rs
    → first_each shape_refusal position (for_each entry_data start number rs) ≡ None
entries-fit position start before number [] fit have = refl
entries-fit position start before number (r ∷ rs) fit have =
    let here = entry-is number (r.time - start) r.bytes fit.0.few fit.0.near have.0 in
    rw (here.fits, entries-fit (position + 1) start r.time (number + 1) rs fit.1 have.1) refl

-- the streams of the entries are those of the records
entries-say : (start before number : ℕ) (rs : List Seen) → AreFit start before number rs → HaveBytes rs
    → map entry_stream (for_each entry_data start number rs) ≡ for_each once start number rs
entries-say start before number [] fit have = refl
entries-say start before number (r ∷ rs) fit have =
    let here = entry-is number (r.time - start) r.bytes fit.0.few fit.0.near have.0 in
    ap₂ (λ x xs. x ∷ xs) here.says (entries-say start r.time (number + 1) rs fit.1 have.1)

-- ---- the text

-- the list of the items that a list makes is that list
list-back : (ds : List Data) → list_of (items_of ds) ≡ ds
list-back [] = refl
list-back (d ∷ ds) = ap (λ rest. d ∷ rest) (list-back ds)

-- a text that is UTF-8 and reads as a value
value_of-read : (text : List ℕ) (d : Data) → IsUtf8 text → read text ≡ Some d → value_of text ≡ Some d
value_of-read text d utf8 is = rw (is_utf8-from_IsUtf8 text utf8) is

-- the JSON value of the text, whose numbers count as texts
imported-json : (rs : List Seen) → HaveBytes rs → json_of (imported rs) ≡ Some (document rs)
imported-json rs have = ap value_of (imported-quoted rs have) ∙ value_of-read (imported rs) (document rs) (imported-utf8 rs have) (imported-read rs have)

pub imported-shape : (rs : List Seen) → AreProfile rs → HaveBytes rs → shape_of (imported rs) ≡ Ok (streams_of rs)
unfolding text_refusal
imported-shape rs are have =
    let items = for_each entry_data (first_time rs) 1 rs in
    let short = le-ltb 33554432 (length (imported rs)) are.text in
    let count : length items ≤ 4096 = omega (arith, count-each entry_data (first_time rs) 1 rs, are.few) in
    let few = le-ltb 4096 (length items) count in
    rw (short, imported-json rs have, list-back items, few, entries-fit 0 (first_time rs) (first_time rs) 1 rs are.fit have)
    (ap Ok (entries-say (first_time rs) (first_time rs) 1 rs are.fit have))
