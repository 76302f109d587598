-- The line that tells a verdict. Own.
use Rattle.std.specs.Prelude.{ℕ, List, length, Result, Ok, Err}
use Rattle.trex_profile.specs.declared.refusal.Refusal.{Refusal}
use Rattle.trex_profile.specs.Stream.{Stream}
use Rattle.trex_report.specs.Texts.{accepted_line, refusal_line}

-- how many streams an accepted profile has, or which rule is broken first, and where
abbrev pub verdict_line : Result (List Stream) Refusal → List ℕ
verdict_line (Ok streams) = accepted_line (length streams)
verdict_line (Err refusal) = refusal_line refusal
