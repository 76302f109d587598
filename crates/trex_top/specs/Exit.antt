-- The exit status of the program for each way in which it may end. Own.
use Rattle.std.specs.Prelude.{◌≡◌, ℕ}
use Rattle.trex_top.specs.declared.status.Status.{Status}
use Rattle.trex_top.specs.declared.status.Status.TheVariants.{Done, Usage, Refused, ReadFault, OutFault, NotesFault, BadCapture, Memory, Unfit, BadSession}

abbrev pub exit_number : Status → ℕ
exit_number Done = 0
exit_number Usage = 2
exit_number Refused = 3
exit_number ReadFault = 4
exit_number OutFault = 5
exit_number NotesFault = 6
exit_number BadCapture = 7
exit_number Memory = 8
exit_number Unfit = 9
exit_number BadSession = 10

-- a number is the exit status of one of these ways
abbrev pub IsExitNumber : ℕ → Type 0
IsExitNumber number = (s : Status) × (number ≡ exit_number s)
