-- A session as a fold over its lines: its replies and its captures. What a run of a profile's text writes is a parameter. Own.
use Rattle.std.specs.Prelude.{ℕ, List, [], ◌∷◌, ◌++◌, codes}
use Rattle.trex_words.specs.declared.asked.RunAsk.{RunAsk}
use Rattle.trex_rpc.specs.declared.reply.Reply.{Reply}
use Rattle.trex_rpc.specs.declared.reply.Reply.TheVariants.{Text, Start, Quit}
use Rattle.trex_rpc.specs.Answer.{answer}
use Rattle.trex_rpc.specs.Table.{Table, profile_text}

-- what a run of a profile's text writes, to the notes and to the output
pub record Runs : Type 0 where
  pub notes : List ℕ → RunAsk → List ℕ
  pub out : List ℕ → RunAsk → List ℕ

-- the table after a line
abbrev pub table_of : Table → List ℕ → Table
table_of table line = (answer table line).table

abbrev pub reply_of : Table → List ℕ → Reply
reply_of table line = (answer table line).reply

-- what the notes get of a reply
abbrev pub notes_text : Runs → Table → Reply → List ℕ
notes_text runs table (Text text) = text
notes_text runs table (Start ask) = runs.notes (profile_text table) ask
notes_text runs table Quit = codes "ok\n"

-- what the output gets of it
abbrev pub out_text : Runs → Table → Reply → List ℕ
out_text runs table (Text text) = []
out_text runs table (Start ask) = runs.out (profile_text table) ask
out_text runs table Quit = []

-- what a line writes to the notes
unfoldable pub reply : Runs → Table → List ℕ → List ℕ
reply runs table line = notes_text runs (table_of table line) (reply_of table line)

-- what it writes to the output
unfoldable pub captured : Runs → Table → List ℕ → List ℕ
captured runs table line = out_text runs (table_of table line) (reply_of table line)

-- the table after the lines
abbrev pub tables : Table → List (List ℕ) → Table
tables table [] = table
tables table (line ∷ lines) = tables (table_of table line) lines

-- what the lines write one after another, each to the table that the lines before it left
abbrev pub along : (Table → List ℕ → List ℕ) → Table → List (List ℕ) → List ℕ
along text table [] = []
along text table (line ∷ lines) = text table line ++ along text (table_of table line) lines

-- all replies to the lines
abbrev pub replies : Runs → List (List ℕ) → List ℕ
replies runs lines = along (reply runs) [] lines

-- all captures of the lines
abbrev pub captures : Runs → List (List ℕ) → List ℕ
captures runs lines = along (captured runs) [] lines
