-- What was written when a line was answered, and when a session ended. `held` and `told` are the bytes that the output and the notes hold,
-- where they tell them. Own.
use Rattle.std.specs.Prelude.{◌≡◌, ℕ, ◌+◌, List, ◌++◌, length, take, Option, None, Some, Result, Ok, Err}
use Rattle.trex_io.specs.Faults.{Rises}
use Rattle.trex_io.specs.Texts.{Wrote, WrotePart, WrotePrefix}
use Rattle.trex_rpc.specs.declared.stop.Stop.{Stop}
use Rattle.trex_rpc.specs.declared.stop.Stop.TheVariants.{ReadFault, OutFault as NoOutput, NotesFault as NoNotes, Memory as NoMemory, Bad}
use Rattle.trex_rpc.specs.declared.stop.Unanswered.{Unanswered}
use Rattle.trex_rpc.specs.declared.stop.Unanswered.TheVariants.{OutFault, NotesFault, Memory}
use Rattle.trex_rpc.specs.Heard.{Heard}
use Rattle.trex_rpc.specs.Talk.{Runs, captures, replies}

-- an answer that failed as the stop of its session
abbrev pub stop_of : Unanswered → Stop
stop_of OutFault = NoOutput
stop_of NotesFault = NoNotes
stop_of Memory = NoMemory

-- the input was read to a place at or behind which these bytes begin
abbrev pub Leaves : List ℕ → Option (List ℕ) → Type 0
Leaves rest None = ⊥
Leaves rest (Some left) = (front : List ℕ) × (rest ≡ front ++ left)

module _ {O N : Type 0} (held : O → Option (List ℕ)) (faults : O → ℕ) (told : N → Option (List ℕ)) (count : N → ℕ) (out out' : O) (notes notes' : N) where
  -- What was written of an answer, a capture and a reply: both, or a part of the one that failed. Memory is taken before the first byte.
  abbrev pub Answered : List ℕ → List ℕ → Result (Unit {0}) Unanswered → Type 0
  Answered capture reply (Ok u) = Wrote held out out' capture × Wrote told notes notes' reply
  Answered capture reply (Err OutFault) = WrotePart held out out' capture × Rises faults out out' × (notes' ≡ notes)
  Answered capture reply (Err NotesFault) = Wrote held out out' capture × WrotePart told notes notes' reply × Rises count notes notes'
  Answered capture reply (Err Memory) = (out' ≡ out) × (notes' ≡ notes)

-- What was written of a reply to the notes alone: all, or a part where they failed.
abbrev pub Noted : {N : Type 0} → (N → Option (List ℕ)) → (N → ℕ) → N → N → List ℕ → Result (Unit {0}) Unanswered → Type 0
Noted told count notes notes' reply (Ok u) = Wrote told notes notes' reply
Noted told count notes notes' reply (Err NotesFault) = WrotePart told notes notes' reply × Rises count notes notes'
Noted told count notes notes' reply (Err _) = ⊥

module _ {O N : Type 0} (runs : Runs) (held : O → Option (List ℕ)) (told : N → Option (List ℕ)) (out out' : O) (notes notes' : N) where
  -- A session that ended: all captures and all replies were written, and the input was read past `quit` or to its end.
  pub record Spoken (h : Heard) (left : Option (List ℕ)) : Type 0 where
    pub unbroken : h.broken ≡ None
    pub captured_all : Wrote held out out' (captures runs h.lines)
    pub replied_all : Wrote told notes notes' (replies runs h.lines)
    pub read : Leaves h.rest left

  -- A session that stopped.
  abbrev pub Stopped : Heard → Stop → Type 0
  Stopped h ReadFault = WrotePrefix held out out' (captures runs h.lines) × WrotePrefix told notes notes' (replies runs h.lines)
  Stopped h NoOutput = WrotePart held out out' (captures runs h.lines) × WrotePrefix told notes notes' (replies runs h.lines)
  Stopped h NoNotes = WrotePrefix held out out' (captures runs h.lines) × WrotePart told notes notes' (replies runs h.lines)
  -- no capture is cut
  Stopped h NoMemory = ((n : ℕ) × Wrote held out out' (captures runs (take n h.lines))) × WrotePrefix told notes notes' (replies runs h.lines)
  -- all lines before the one that breaks the bound were answered
  Stopped h (Bad bound line) =
      (h.broken ≡ Some bound) × (line ≡ length h.lines + 1) × Wrote held out out' (captures runs h.lines) × Wrote told notes notes' (replies runs h.lines)
