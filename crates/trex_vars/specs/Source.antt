-- Where one core stands among the places of a variable. Own.
use Rattle.std.specs.Prelude.{◌≡◌, ℕ, ◌+◌, ◌*◌, ◌%◌, None, Some}
use Rattle.trex_vars.specs.declared.source.Source.{Source}
use Rattle.trex_vars.specs.declared.source.Source.TheVariants.{Turning, Drawn}
use Rattle.trex_vars.specs.Check.{fault_of}
use Rattle.trex_vars.specs.Registers.{course_of, draw_at, place_at}
use Rattle.trex_vars.specs.Variable.{Variable}

-- the source of the places at packet n: a wheel on the course, which each turn moves by as many packets as there are cores, or the word
-- that is drawn and all places
abbrev pub StandsAt : Variable → ℕ → ℕ → Source → Type 0
StandsAt variable cores number (Turning wheel) =
    ((draw_at variable number ≡ None) × (wheel.place ≡ place_at (course_of variable) number))
    × ((wheel.stride ≡ cores * (course_of variable).step % (wheel.last + 1)) × (wheel.last ≡ (course_of variable).last))
StandsAt variable cores number (Drawn draw places) = (draw_at variable number ≡ Some draw) × (places.last ≡ (course_of variable).last)

-- the registers of one of some cores at packet n of a variable
pub record IsAt (variable : Variable) (cores number : ℕ) (source : Source) : Type 0 where
  pub sound : fault_of variable ≡ None
  pub stands : StandsAt variable cores number source
