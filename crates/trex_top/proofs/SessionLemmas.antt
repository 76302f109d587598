-- A session that stopped, and the line that tells why.
use Rattle.std.proofs.Common.{ℕ, ◌≤◌, List, take, Option, None, Some, IfSome}
use Rattle.trex_io.specs.Texts.{WrotePrefix}
use Rattle.trex_top.specs.Sides.{Tells, TellsAfter}
use Rattle.trex_top.proofs.Lines.{TellsAfter-line}

module _ {K : Type 0} (held : K → Option (List ℕ)) (faults : K → ℕ) (old mid new : K) where
  -- a prefix of a text was written, and then a line is told
  pub then_line : (input : Option (List ℕ)) (A : List ℕ → Type 0) (text : List ℕ → List ℕ) (line : List ℕ)
      → IfSome input (λ b. A b × WrotePrefix held old mid (text b)) → faults old ≤ faults mid → Tells held faults mid new line
      → IfSome input (λ b. A b × ((n : ℕ) × TellsAfter held faults old new (take n (text b)) line))
  then_line None A text line stops later tells = tt
  then_line (Some b) A text line (a, (n, wrote)) later tells = (a, (n, TellsAfter-line held faults old mid new (take n (text b)) line wrote later tells))
