-- A text that is written in pieces. Own.
use Rattle.std.specs.Prelude.{◌≡◌, ℕ, List, ◌++◌, Option}
use Rattle.trex_io.specs.Texts.{Wrote}

-- a front of the text was written, and the piece is the rest of it
abbrev pub WrittenAndPending : {K : Type 0} → (K → Option (List ℕ)) → K → K → List ℕ → List ℕ → Type 0
WrittenAndPending held old new piece text = (front : List ℕ) × Wrote held old new front × (text ≡ front ++ piece)
