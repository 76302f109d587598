-- What a line of a session does to the table, and what it is answered with. Own.
use Rattle.std.specs.Prelude.{◌≡◌, ℕ, ◌==◌, Bool, true, false, List, [], ◌∷◌, ◌++◌, length, remove, codes, Option, None, Some, option_and_then, Result, Ok, Err, IfOk, OnErr, if◌then◌else◌, nat_lt, nat_le}
use Rattle.std.specs.List.{before_first, after_first, position_or_len, slice_split}
use Rattle.std.specs.Str.{bytes_eq, is_utf8}
use Rattle.trex_decimal.specs.Decimal.{whole_of}
use Rattle.trex_json.specs.EntryId.{entry_id}
use Rattle.trex_json.specs.Kinds.{at_most}
use Rattle.trex_json.specs.Verdict.{verdict}
use Rattle.trex_profile.specs.declared.refusal.Refusal.{Refusal}
use Rattle.trex_profile.specs.declared.rule.Rule.{Rule}
use Rattle.trex_profile.specs.declared.rule.Rule.TheVariants.{NoSuchStream}
use Rattle.trex_profile.specs.Stream.{Stream}
use Rattle.trex_report.specs.Texts.{refusal_line, usage_line}
use Rattle.trex_words.specs.declared.asked.Asked.{Asked}
use Rattle.trex_words.specs.declared.asked.Asked.TheVariants.{Run}
use Rattle.trex_words.specs.declared.asked.Usage.{Usage}
use Rattle.trex_words.specs.Asked.{asked, IsRunAsk}
use Rattle.trex_rpc.specs.declared.reply.Reply.{Reply}
use Rattle.trex_rpc.specs.declared.reply.Reply.TheVariants.{Text, Start, Quit}
use Rattle.trex_rpc.specs.Table.{Table, holds, place_of, text_of, ids_line}

-- the table after a line, and the reply to it
pub record Answer : Type 0 where
  pub table : Table
  pub reply : Reply

-- a text is the reply
abbrev pub says : Table → List ℕ → Answer
says table text = record { table = table; reply = Text text }

-- a space (ASCII)
abbrev pub is_space : ℕ → Bool
is_space b = b == 32

-- the id that a text writes
abbrev pub id_of : List ℕ → Option ℕ
id_of text = option_and_then (at_most 2147483647) (whole_of text)

-- the profile of one stream, as a JSON text
unfoldable pub alone : List ℕ → List ℕ
alone text = codes "[" ++ text ++ codes "]"

-- a rule that a stream which is added later may mend: it may be the next stream that is named
abbrev pub may_be_mended : Rule → Bool
may_be_mended NoSuchStream = true
may_be_mended _ = false

-- the rule that a profile of one stream breaks, but for one that may be mended
abbrev pub unmended : Result (List Stream) Refusal → Option Refusal
unmended (Ok streams) = None
unmended (Err r) = if may_be_mended r.rule then None else Some r

-- the most streams of a table are those of a profile
abbrev pub appended : Table → ℕ → List ℕ → Answer
appended table id text =
    if holds id table then says table (codes "refused: DuplicateId\n")
    else (if nat_le 4096 (length table) then says table (codes "refused: TableFull\n")
    else says (table ++ (id, text) ∷ []) (codes "ok\n"))

-- a stream is added, unless its text is no JSON text or breaks a rule, its id is held, or the table is full
abbrev pub added_by : Option ℕ → Option Refusal → Table → List ℕ → Answer
added_by None broken table text = says table (codes "refused: NotJson\n")
added_by (Some id) (Some r) table text = says table (refusal_line r)
added_by (Some id) None table text = appended table id text

abbrev pub added : Table → List ℕ → Answer
added table text = added_by (entry_id text) (unmended (verdict (alone text))) table text

-- a stream goes
abbrev pub removed_at : Option ℕ → Table → Answer
removed_at None table = says table (codes "refused: NoSuchStream\n")
removed_at (Some at) table = says (remove table at) (codes "ok\n")

abbrev pub removed_by : Option ℕ → Table → Answer
removed_by None table = says table (codes "refused: BadStreamId\n")
removed_by (Some id) table = removed_at (place_of id table) table

abbrev pub removed : Table → List ℕ → Answer
removed table text = removed_by (id_of text) table

-- the text of a stream, as it was added
abbrev pub got_text : Option (List ℕ) → Table → Answer
got_text None table = says table (codes "refused: NoSuchStream\n")
got_text (Some text) table = says table (text ++ codes "\n")

abbrev pub got_by : Option ℕ → Table → Answer
got_by None table = says table (codes "refused: BadStreamId\n")
got_by (Some id) table = got_text (text_of id table) table

abbrev pub got : Table → List ℕ → Answer
got table text = got_by (id_of text) table

-- the reply to a start: the run, or what is wrong with its words; words that begin with `run` ask for nothing but a run
abbrev pub start_reply : Result Asked Usage → Reply
start_reply (Ok (Run ask)) = Start ask
start_reply (Ok _) = Text []
start_reply (Err usage) = Text (usage_line usage)

abbrev pub started : Table → List (List ℕ) → Answer
started table words = record { table = table; reply = start_reply (asked (codes "run" ∷ words)) }

-- no such command
abbrev pub unknown : Table → Answer
unknown table = says table (codes "refused: UnknownCommand\n")

-- a command, and what stands behind the space after it
abbrev pub spaced : Table → List ℕ → List ℕ → Answer
spaced table command rest =
    if bytes_eq command (codes "add_stream") then added table rest
    else (if bytes_eq command (codes "remove_stream") then removed table rest
    else (if bytes_eq command (codes "get_stream") then got table rest
    else (if bytes_eq command (codes "start") then started table (slice_split is_space rest)
    else unknown table)))

-- a line without a space
abbrev pub plain : Table → List ℕ → Answer
plain table line =
    if bytes_eq line (codes "get_stream_list") then says table (ids_line table)
    else (if bytes_eq line (codes "remove_all_streams") then says [] (codes "ok\n")
    else (if bytes_eq line (codes "start") then started table []
    else (if bytes_eq line (codes "quit") then record { table = table; reply = Quit }
    else unknown table)))

-- a line that is text
abbrev pub answer_text : Table → List ℕ → Answer
answer_text table line =
    if nat_lt (position_or_len is_space line) (length line) then spaced table (before_first is_space line) (after_first is_space line)
    else plain table line

-- what a line does
unfoldable pub answer : Table → List ℕ → Answer
answer table line = if is_utf8 line then answer_text table line else says table (codes "refused: NotText\n")

-- the run that a reply asks for lies within the ranges of a run
abbrev pub IsReply : Reply → Type 0
IsReply (Text text) = Unit {0}
IsReply (Start ask) = IsRunAsk ask
IsReply Quit = Unit {0}

-- A call does what an answer says, and where there is no memory the table stays.
pub record GivesAnswer {E : Type 0} (answer : Answer) (old new : Table) (result : Result Reply E) : Type 0 where
  pub does : IfOk result (λ reply. (new ≡ answer.table) × (reply ≡ answer.reply))
  pub kept : OnErr result (new ≡ old)
  pub ranges : IfOk result IsReply
