-- The table of a session: the id and the text of each stream, in the order in which they were added. Own.
use Rattle.std.specs.Prelude.{ℕ, ◌==◌, Bool, List, [], ◌∷◌, ◌++◌, codes, find, position, Option, option_map}
use Rattle.std.specs.List.{flat_map, list_any}
use Rattle.std.specs.Fmt.{decimal}

-- a stream: its id and its text
abbrev pub Entry : Type 0
Entry = ℕ × List ℕ

abbrev pub Table : Type 0
Table = List Entry

-- whether a stream has this id
abbrev pub has_id : ℕ → Entry → Bool
has_id id entry = entry.0 == id

-- whether the table holds a stream of this id
abbrev pub holds : ℕ → Table → Bool
holds id table = list_any (has_id id) table

-- the place of the stream of this id
abbrev pub place_of : ℕ → Table → Option ℕ
place_of id table = position (has_id id) table

-- the text of the stream of this id
abbrev pub text_of : ℕ → Table → Option (List ℕ)
text_of id table = option_map (λ entry. entry.1) (find (has_id id) table)

-- the line of all ids
abbrev pub id_text : Entry → List ℕ
id_text entry = codes " " ++ decimal entry.0

abbrev pub ids_line : Table → List ℕ
ids_line table = codes "ids" ++ flat_map id_text table ++ codes "\n"

-- the texts, joined by commas
abbrev pub other_text : Entry → List ℕ
other_text entry = codes "," ++ entry.1

abbrev pub joined : Table → List ℕ
joined [] = []
joined (entry ∷ others) = entry.1 ++ flat_map other_text others

-- the profile of all streams, as a JSON text
unfoldable pub profile_text : Table → List ℕ
profile_text table = codes "[" ++ joined table ++ codes "]"
