-- A word is the text of the string at its place.
use Rattle.std.proofs.Common.{◌≡◌, ℕ, ◌<◌, Err, refl, arith, List, [], ◌∷◌, length, get_or, String, string_bytes, sym, ap, ◌∙◌}
use Rattle.std.specs.declared.alloc.Global.{Global}
use Rattle.std.proofs.lemmas.List.{get_or-map, length-map}
use Rattle.trex_words.specs.Asked.{texts, word, command_of, asked, asked_by}
use Rattle.trex_words.specs.declared.asked.Usage.TheVariants.{NoCommand}

pub word_is : (words : List (String Global)) (at : ℕ) (s : String Global) → at < length words → s ≡ get_or words at s → word (texts words) at ≡ string_bytes s
word_is words at s within is = get_or-map string_bytes words at s [] within ∙ ap string_bytes (sym is)

pub length_texts : (words : List (String Global)) → length (texts words) ≡ length words
length_texts words = length-map words string_bytes

-- the readings of the words
pub asked_some : (words : List (List ℕ)) → 0 < length words → asked words ≡ asked_by (command_of (word words 0)) words
unfolding asked
asked_some [] some = absurd (omega arith)
asked_some (c ∷ ws) some = refl

pub asked_none : (words : List (List ℕ)) → length words ≡ 0 → asked words ≡ Err NoCommand
unfolding asked
asked_none [] none = refl
asked_none (c ∷ ws) none = absurd (omega arith)
