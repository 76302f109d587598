-- The id of a stream whose entry stands alone in a text (own).
use Rattle.std.specs.Prelude.{ℕ, List, Option, option_map}
use Rattle.trex_json.specs.Json.{json_of}
use Rattle.trex_json.specs.Names.{value}
use Rattle.trex_json.specs.Rows.{stream_id}

-- the id of an entry, where its text has a JSON reading
abbrev pub entry_id : List ℕ → Option ℕ
entry_id text = option_map (value stream_id) (json_of text)
