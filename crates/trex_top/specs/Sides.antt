-- A source, a sink and the gates over a call. The tables of the commands speak of them. Own.
use Rattle.std.specs.Prelude.{◌≡◌, ℕ, List, ◌++◌, take, Option}
use Rattle.std.specs.Io.KnownBytes.{IsAtEnd}
use Rattle.trex_crew.specs.Told.{IfTold}
use Rattle.trex_io.specs.Faults.{Rises}
use Rattle.trex_io.specs.Texts.{Wrote, WrotePart, WrotePrefix}
use Rattle.trex_merge.specs.Frames.{Frame}
use Rattle.trex_report.specs.declared.line.Line.{Line}
use Rattle.trex_report.specs.Texts.{line_text}
use Rattle.trex_run.specs.Rounds.{AreRounds, TellEnough}

-- A source or a sink over a call: the bytes that it has left or holds, where it tells them, its count of faults, and itself before and
-- after the call.
pub record Side (K : Type 0) : Type 0 where
  pub bytes : K → Option (List ℕ)
  pub faults : K → ℕ
  pub old : K
  pub new : K

abbrev pub side : {K : Type 0} → (K → Option (List ℕ)) → (K → ℕ) → K → K → Side K
side bytes faults old new = record { bytes = bytes; faults = faults; old = old; new = new }

-- The gates over a call: the entries that each tells, where it tells them, and all gates before and after the call.
pub record GateSide (G : Type 0) : Type 0 where
  pub entries : G → Option (List (ℕ × ℕ))
  pub before : List G
  pub after : List G

abbrev pub gate_side : {G : Type 0} → (G → Option (List (ℕ × ℕ))) → List G → List G → GateSide G
gate_side entries before after = record { entries = entries; before = before; after = after }

-- A line on whose failing nothing hangs: a prefix of it was written, the whole where the count of faults didn't rise.
pub record Tells {K : Type 0} (held : K → Option (List ℕ)) (faults : K → ℕ) (old new : K) (line : List ℕ) : Type 0 where
  pub prefix : WrotePrefix held old new line
  pub whole : ¬ Rises faults old new → Wrote held old new line

-- A text was written, and then a line on whose failing nothing hangs.
pub record TellsAfter {K : Type 0} (held : K → Option (List ℕ)) (faults : K → ℕ) (old new : K) (text line : List ℕ) : Type 0 where
  pub prefix : (n : ℕ) × Wrote held old new (text ++ take n line)
  pub whole : ¬ Rises faults old new → Wrote held old new (text ++ line)

module _ {K : Type 0} where
  -- it was left alone
  abbrev pub Kept : Side K → Type 0
  Kept s = s.new ≡ s.old

  -- its count of faults rose
  abbrev pub Failed : Side K → Type 0
  Failed s = Rises s.faults s.old s.new

  -- what a source had to give
  abbrev pub given : Side K → Option (List ℕ)
  given s = s.bytes s.old

  -- a source was read to its end
  abbrev pub AtEnd : Side K → Type 0
  AtEnd s = IsAtEnd (s.bytes s.new)

  -- a sink got the whole text
  abbrev pub Got : Side K → List ℕ → Type 0
  Got s text = Wrote s.bytes s.old s.new text

  -- a sink got a prefix of the text other than the whole
  abbrev pub GotPart : Side K → List ℕ → Type 0
  GotPart s text = WrotePart s.bytes s.old s.new text

  -- a sink got a prefix of the text, perhaps the whole
  abbrev pub GotPrefix : Side K → List ℕ → Type 0
  GotPrefix s text = WrotePrefix s.bytes s.old s.new text

  -- a sink got a line on whose failing nothing hangs
  abbrev pub GotLine : Side K → Line → Type 0
  GotLine s line = Tells s.bytes s.faults s.old s.new (line_text line)

  -- a sink got a text and then such a line
  abbrev pub GotThen : Side K → List ℕ → Line → Type 0
  GotThen s text line = TellsAfter s.bytes s.faults s.old s.new text (line_text line)

  -- a sink got a prefix of a text and then such a line
  abbrev pub GotSomeThen : Side K → List ℕ → Line → Type 0
  GotSomeThen s text line = (n : ℕ) × GotThen s (take n text) line

module _ {G : Type 0} where
  -- no gate was entered
  abbrev pub Unentered : GateSide G → Type 0
  Unentered g = g.after ≡ g.before

  -- where the gates tell their entries, they were entered for whole rounds of so many cores
  abbrev pub Rounds : GateSide G → ℕ → Type 0
  Rounds g cores = IfTold g.entries g.before g.after (AreRounds cores)

  -- and for as many rounds as these packets want
  abbrev pub EnoughRounds : GateSide G → ℕ → List Frame → Type 0
  EnoughRounds g cores frames = Rounds g cores × TellEnough g.entries cores frames g.before g.after
