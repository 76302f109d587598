-- What was written to a sink, where it tells the bytes that it holds: `held` gives them in each state. Own.
use Rattle.std.specs.Prelude.{ℕ, ◌<◌, List, Option, length, take, Result, OnOk, OnErr}
use Rattle.std.specs.Io.KnownBytes.{Appends}
use Rattle.trex_io.specs.Faults.{HasCause}

-- the whole text was appended
abbrev pub Wrote : {K : Type 0} → (K → Option (List ℕ)) → K → K → List ℕ → Type 0
Wrote held old new text = Appends (held old) (held new) text

-- a prefix of the text other than the whole was appended
abbrev pub WrotePart : {K : Type 0} → (K → Option (List ℕ)) → K → K → List ℕ → Type 0
WrotePart held old new text = (n : ℕ) × (n < length text) × Wrote held old new (take n text)

-- a prefix of the text was appended, perhaps the whole
abbrev pub WrotePrefix : {K : Type 0} → (K → Option (List ℕ)) → K → K → List ℕ → Type 0
WrotePrefix held old new text = (n : ℕ) × Wrote held old new (take n text)

-- A call that writes a text: the whole at `Ok`, and at `Err` a part of it, for a cause.
pub record Writes {K T E : Type 0} (held : K → Option (List ℕ)) (faults : K → ℕ) (old new : K) (result : Result T E) (text : List ℕ) : Type 0 where
  pub whole : OnOk result (Wrote held old new text)
  pub part : OnErr result (WrotePart held old new text)
  pub cause : HasCause faults old new result
