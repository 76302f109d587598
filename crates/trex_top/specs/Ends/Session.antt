-- How a session ends: what holds at each status, where the input is told. Its replies and captures are those of the lines that were heard. Own.
use Rattle.std.specs.Prelude.{◌≡◌, ℕ, ◌+◌, List, [], length, take, Some, Result, Ok, Err, IfSome}
use Rattle.trex_json.specs.Verdict.{verdict}
use Rattle.trex_profile.specs.declared.refusal.Refusal.{Refusal}
use Rattle.trex_profile.specs.Stream.{Stream}
use Rattle.trex_report.specs.declared.line.Line.{Line}
use Rattle.trex_report.specs.declared.line.Line.TheVariants.{ReadFault as ReadLine, WriteFault, OutOfMemory, LineTooLong as LongLine, TooMuch as MuchLine}
use Rattle.trex_report.specs.Texts.{refusal_line}
use Rattle.trex_rpc.specs.declared.bound.Bound.{Bound}
use Rattle.trex_rpc.specs.declared.bound.Bound.TheVariants.{LineTooLong, TooMuch}
use Rattle.trex_rpc.specs.Heard.{Heard, heard}
use Rattle.trex_rpc.specs.Talk.{Runs, captures, replies}
use Rattle.trex_rpc.specs.Written.{Spoken}
use Rattle.trex_run.specs.Capture.{capture, report, sequence}
use Rattle.trex_words.specs.declared.asked.RunAsk.{RunAsk}
use Rattle.trex_top.specs.declared.status.Status.{Status}
use Rattle.trex_top.specs.declared.status.Status.TheVariants.{Done, ReadFault, OutFault, NotesFault, Memory, BadSession}
use Rattle.trex_top.specs.Sides.{Side, Failed, given, Got, GotPart, GotPrefix, GotThen, GotSomeThen}

-- what a run of a profile writes to the notes: the report, or the line of the refusal
abbrev pub start_notes : RunAsk → Result (List Stream) Refusal → List ℕ
start_notes ask (Ok p) = report p ask
start_notes ask (Err r) = refusal_line r

-- what it writes to the output: the capture, or nothing
abbrev pub start_out : RunAsk → Result (List Stream) Refusal → List ℕ
start_out ask (Ok p) = capture p ask
start_out ask (Err r) = []

-- what a start of a session writes
abbrev pub starts : Runs
starts = record { notes = λ text ask. start_notes ask (verdict text); out = λ text ask. start_out ask (verdict text) }

-- the line of a bound that is broken in a line of the input, counted from 1
abbrev pub bound_line : Bound → ℕ → Line
bound_line LineTooLong line = LongLine line
bound_line TooMuch line = MuchLine line

-- where the input is told, this holds of what is heard of it
abbrev pub OnHeard : {S : Type 0} → Side S → (Heard → Type 0) → Type 0
OnHeard input P = IfSome (given input) (λ text. P (heard text))

module _ {S O N : Type 0} where
  abbrev pub SessionEnds : Side S → Side O → Side N → Status → Type 0
  -- all captures and all replies, and the input was read past `quit` or to its end
  SessionEnds input out notes Done =
      OnHeard input (λ h. Spoken starts out.bytes notes.bytes out.old out.new notes.old notes.new h (input.bytes input.new))
  SessionEnds input out notes ReadFault =
      Failed input × OnHeard input (λ h. GotPrefix out (captures starts h.lines) × GotSomeThen notes (replies starts h.lines) ReadLine)
  SessionEnds input out notes OutFault =
      Failed out × OnHeard input (λ h. GotPart out (captures starts h.lines) × GotSomeThen notes (replies starts h.lines) WriteFault)
  SessionEnds input out notes NotesFault =
      Failed notes × OnHeard input (λ h. GotPrefix out (captures starts h.lines) × GotPart notes (replies starts h.lines))
  -- no capture is cut
  SessionEnds input out notes Memory =
      OnHeard input (λ h. ((n : ℕ) × Got out (captures starts (take n h.lines))) × GotSomeThen notes (replies starts h.lines) OutOfMemory)
  -- all lines before the one that breaks a bound are answered
  SessionEnds input out notes BadSession =
      OnHeard input (λ h. (bound : Bound) × (h.broken ≡ Some bound) × Got out (captures starts h.lines)
      × GotThen notes (replies starts h.lines) (bound_line bound (length h.lines + 1)))
  -- no other status comes
  SessionEnds input out notes _ = ⊥
