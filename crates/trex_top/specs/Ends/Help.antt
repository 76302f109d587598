-- How the request for help ends: what holds at each status. Own.
use Rattle.trex_words.specs.Help.{help_text}
use Rattle.trex_top.specs.declared.status.Status.{Status}
use Rattle.trex_top.specs.declared.status.Status.TheVariants.{Done, OutFault}
use Rattle.trex_top.specs.Rows.{CannotWrite}
use Rattle.trex_top.specs.Sides.{Side, Kept, Got}

module _ {O N : Type 0} where
  abbrev pub HelpEnds : Side O → Side N → Status → Type 0
  -- the whole text
  HelpEnds out notes Done = Got out help_text × Kept notes
  -- a part of the text
  HelpEnds out notes OutFault = CannotWrite out notes help_text
  -- no other status comes
  HelpEnds out notes _ = ⊥
