-- Where the reading of a whole source stops. Own.
use Rattle.std.specs.Prelude.{◌≡◌, ℕ, ◌<◌, ◌≤◌}
use Rattle.trex_io.specs.declared.reading.ReadAll.{ReadAll}
use Rattle.trex_io.specs.declared.reading.ReadAll.TheVariants.{Fault, TooLong, Memory}

-- the error, for a limit and the number of bytes that were taken: too long exactly where these are more than the limit
abbrev pub StopsAfter : ReadAll → ℕ → ℕ → Type 0
StopsAfter Fault limit taken = taken ≤ limit
StopsAfter (TooLong n) limit taken = (n ≡ limit) × (limit < taken)
StopsAfter Memory limit taken = taken ≤ limit
