-- The text of the records of a capture is that of their JSON value.
use Rattle.std.proofs.Common.{◌≡◌, ℕ, ◌+◌, ◌-◌, true, false, List, [], ◌∷◌, ◌++◌, map, codes, decimal, refl, sym, ap, ap₂, ◌∙◌, append_assoc}
use Rattle.std.specs.List.{join_with_byte}
use Rattle.base64.specs.Engines.{standard}
use Rattle.base64.specs.GeneralPurpose.{IsBytes, encode_of}
use Rattle.json.specs.Print.{escape, escape_byte}
use Rattle.serde_json.specs.Data.{Data, object, no_members, member}
use Rattle.serde_json.specs.View.{items_of}
use Rattle.serde_json.specs.Written.{compact_text, items_text, members_text, items_have_float}
use Rattle.trex_io.specs.Seen.{Seen}
use Rattle.trex_import.specs.Document.{document, entry_data, entry_of, once_data, text_member}
use Rattle.trex_import.specs.Drafts.{HaveBytes}
use Rattle.trex_import.specs.Imported.{entry_text, entry_with, first_time, for_each, imported, microseconds}
use Rattle.trex_import.proofs.PlainLemmas.{escape-plain, plain-decimal, plain-encode_of, plain-microseconds}

-- the text of an array is that of its items, joined by commas
items-joined : (ds : List Data) → items_text false (items_of ds) ≡ join_with_byte 44 (map compact_text ds) ++ 93 ∷ []
items-joined [] = refl
items-joined (d ∷ []) = refl
items-joined (d ∷ e ∷ ds) =
    ap (λ l. compact_text d ++ 44 ∷ l) (items-joined (e ∷ ds))
    ∙ sym (append_assoc (compact_text d) (44 ∷ join_with_byte 44 (map compact_text (e ∷ ds))) (93 ∷ []))

-- ---- an entry

behind : (text rest : List ℕ) → (text ++ 34 ∷ []) ++ rest ≡ text ++ 34 ∷ rest
behind text rest = append_assoc text (34 ∷ []) rest

inside : (text rest more : List ℕ) → ((text ++ 34 ∷ []) ++ rest) ++ more ≡ text ++ 34 ∷ (rest ++ more)
inside text rest more = ap (λ l. l ++ more) (behind text rest) ∙ append_assoc text (34 ∷ rest) more

around : (text rest more last : List ℕ) → (((text ++ 34 ∷ []) ++ rest) ++ more) ++ last ≡ text ++ 34 ∷ ((rest ++ more) ++ last)
around text rest more last = ap (λ l. l ++ last) (inside text rest more) ∙ append_assoc text (34 ∷ (rest ++ more)) last

-- what stands behind the gap in a stream, and behind the stream in an entry
abbrev behind_gap : List ℕ → List ℕ
behind_gap packet = members_text true (member (codes "mode") once_data (member (codes "packet") (object (text_member (codes "binary") packet no_members)) no_members))

abbrev behind_stream : List ℕ → List ℕ
behind_stream id = members_text true (text_member (codes "stream_id") id no_members)

escaped-entry : (gap packet id : List ℕ) → compact_text (entry_of gap packet id) ≡ entry_with (escape gap) (escape packet) (escape id)
unfolding escape_byte entry_with
escaped-entry gap packet id =
    ap (λ l. codes "{\"stream\":{\"isg\":\"" ++ l) (inside (escape gap) (behind_gap packet) (behind_stream id)
    ∙ ap (λ l. escape gap ++ (codes "\",\"mode\":{\"rate\":{\"type\":\"pps\",\"value\":\"1000000000\"},\"total_pkts\":\"1\",\"type\":\"single_burst\"},\"packet\":{\"binary\":\"" ++ l))
    (around (escape packet) (125 ∷ []) (125 ∷ []) (behind_stream id) ∙ ap (λ l. escape packet ++ (codes "\"}},\"stream_id\":\"" ++ l)) (behind (escape id) (125 ∷ []))))

-- ---- all entries

pub entry_data-text : (id ns : ℕ) (bytes : List ℕ) → IsBytes bytes → compact_text (entry_data id ns bytes) ≡ entry_text id ns bytes
entry_data-text id ns bytes are =
    escaped-entry (microseconds ns) (encode_of standard bytes) (decimal id)
    ∙ rw (escape-plain (microseconds ns) (plain-microseconds ns), escape-plain (encode_of standard bytes) (plain-encode_of bytes are), escape-plain (decimal id) (plain-decimal id)) refl

texts-for_each : (start number : ℕ) (rs : List Seen) → HaveBytes rs → map compact_text (for_each entry_data start number rs) ≡ for_each entry_text start number rs
texts-for_each start number [] are = refl
texts-for_each start number (r ∷ rs) (here, later) = ap₂ (λ l ls. l ∷ ls) (entry_data-text number (r.time - start) r.bytes here) (texts-for_each start (number + 1) rs later)

pub document-text : (rs : List Seen) → HaveBytes rs → compact_text (document rs) ≡ imported rs
document-text rs are =
    let start = first_time rs in
    ap (λ l. 91 ∷ l) (items-joined (for_each entry_data start 1 rs) ∙ ap (λ ls. join_with_byte 44 ls ++ 93 ∷ []) (texts-for_each start 1 rs are))

pub document-no_float : (start number : ℕ) (rs : List Seen) → items_have_float (items_of (for_each entry_data start number rs)) ≡ false
document-no_float start number [] = refl
document-no_float start number (r ∷ rs) = document-no_float start (number + 1) rs
