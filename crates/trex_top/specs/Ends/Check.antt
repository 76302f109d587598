-- How a check ends: what holds at each status. Own.
use Rattle.std.specs.Prelude.{List, length, Ok}
use Rattle.trex_profile.specs.Stream.{Stream}
use Rattle.trex_report.specs.Texts.{accepted_line}
use Rattle.trex_top.specs.declared.status.Status.{Status}
use Rattle.trex_top.specs.declared.status.Status.TheVariants.{Done, Refused, ReadFault, OutFault, Memory}
use Rattle.trex_top.specs.Rows.{HasVerdict, BreaksRule, CannotRead, CannotWrite, NoMemory}
use Rattle.trex_top.specs.Sides.{Side, Kept, given, AtEnd, Got}

module _ {S O N : Type 0} where
  abbrev pub CheckEnds : Side S → Side O → Side N → Status → Type 0
  -- the line of a profile that keeps all rules
  CheckEnds input out notes Done =
      (p : List Stream) × HasVerdict (given input) (Ok p) × AtEnd input × Got out (accepted_line (length p)) × Kept notes
  -- the line of the first broken rule
  CheckEnds input out notes Refused = BreaksRule input out notes
  CheckEnds input out notes ReadFault = CannotRead input out notes
  -- a part of the line
  CheckEnds input out notes OutFault = (p : List Stream) × HasVerdict (given input) (Ok p) × CannotWrite out notes (accepted_line (length p))
  CheckEnds input out notes Memory = NoMemory out notes
  -- no other status comes
  CheckEnds input out notes _ = ⊥
