-- The JSON reading of a profile's text.
use Rattle.std.specs.Prelude.{ℕ, List, [], ◌∷◌, Option, None, if◌then◌else◌}
use Rattle.std.specs.Str.{is_utf8}
use Rattle.serde_json.specs.Data.{Data, Items, no_items, item}
use Rattle.serde_json.specs.Read.{read}
use Rattle.trex_decimal.specs.Quoted.{quoted}

-- the JSON value of a text (RFC 8259), nested at most 127 deep; a text that isn't UTF-8 has none
abbrev pub value_of : List ℕ → Option Data
value_of text = if is_utf8 text then read text else None

-- the JSON value of a profile's text, whose numbers count as texts
abbrev pub json_of : List ℕ → Option Data
json_of text = value_of (quoted text)

-- the items of an array as a list
abbrev pub list_of : Items → List Data
list_of no_items = []
list_of (item d ds) = d ∷ list_of ds
