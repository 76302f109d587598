-- The verdict on a profile's text: the first rule that it breaks, or its streams (own).
use Rattle.std.specs.Prelude.{ℕ, nat_lt, List, [], ◌∷◌, length, map, Option, is_none, option_and_then, unwrap_or, Result}
use Rattle.serde_json.specs.Data.{Data}
use Rattle.trex_profile.specs.declared.rule.Rule.TheVariants.{TooLong, NotJson, NotArray, TooManyStreams}
use Rattle.trex_profile.specs.declared.refusal.Refusal.{Refusal}
use Rattle.trex_profile.specs.Order.{first, first_each, unless, ◌>>=◌}
use Rattle.trex_profile.specs.Refusal.{document}
use Rattle.trex_profile.specs.Admission.{admitted}
use Rattle.trex_profile.specs.Stream.{Stream}
use Rattle.trex_json.specs.Json.{json_of}
use Rattle.trex_json.specs.Kinds.{an_array}
use Rattle.trex_json.specs.Shape.{shape_refusal, entry_stream}

-- the entries of a text that is an array
abbrev pub array_of : List ℕ → Option (List Data)
array_of text = option_and_then an_array (json_of text)

-- the entries of a text, none where it isn't an array
abbrev pub entries : List ℕ → List Data
entries text = unwrap_or (array_of text) []

-- the rules on entries: how many there are, then entry by entry
abbrev pub entries_refusal : List Data → Option Refusal
entries_refusal entries = first (
    document TooManyStreams (nat_lt 4096 (length entries))
    ∷ first_each shape_refusal 0 entries
    ∷ [])

-- the rules on the document, then those on shapes
unfoldable pub text_refusal : List ℕ → Option Refusal
text_refusal text = first (
    document TooLong (nat_lt 33554432 (length text))
    ∷ document NotJson (is_none (json_of text))
    ∷ document NotArray (is_none (array_of text))
    ∷ entries_refusal (entries text)
    ∷ [])

-- what a text says, unless a rule on documents or shapes is broken
abbrev pub shape_of : List ℕ → Result (List Stream) Refusal
shape_of text = unless (text_refusal text) (map entry_stream (entries text))

-- what a text says, unless a rule is broken
abbrev pub verdict : List ℕ → Result (List Stream) Refusal
verdict text = shape_of text >>= admitted
