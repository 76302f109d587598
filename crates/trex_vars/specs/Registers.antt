-- The registers that one core keeps for a variable. Own.
use Rattle.std.specs.Prelude.{ℕ, ◌+◌, ◌-◌, ◌*◌, ◌/◌, ◌%◌, length, slice_index, Option, None, Some}
use Rattle.trex_vars.specs.declared.draw.Draw.{Draw}
use Rattle.trex_vars.specs.declared.course.Course.{Course}
use Rattle.trex_vars.specs.declared.spec.Op.{Op}
use Rattle.trex_vars.specs.declared.spec.Op.TheVariants.{Inc, Dec, Random}
use Rattle.trex_vars.specs.declared.value.VarValue.{VarValue}
use Rattle.trex_vars.specs.declared.value.VarValue.TheVariants.{One, Pair}
use Rattle.trex_vars.specs.Value.{back, flows, word_at}
use Rattle.trex_vars.specs.Variable.{Variable, Counter, RandLimit, ListOf, Tuple}

-- the course of a random variable, which stays at one of its places
abbrev pub still : ℕ → Course
still last = record { first = 0; step = 0; last = last }

-- the course of m values from a first one on: up, down, or still where each value is random
abbrev pub counter_course : Op → ℕ → ℕ → ℕ → Course
counter_course Inc m first step = record { first = first; step = step; last = m - 1 }
counter_course Dec m first step = record { first = first; step = back m 0 step; last = m - 1 }
counter_course Random m first step = still (m - 1)

-- the places that a variable runs through from packet to packet: of its values or of its pairs
abbrev pub course_of : Variable → Course
course_of (Counter op size init min max step seed position) = counter_course op (max - min + 1) (init - min) step
course_of (RandLimit size min max limit seed position) = still (max - min)
course_of (ListOf op size step values seed position) = counter_course op (length values) 0 step
course_of (Tuple ip_min ip_max port_min port_max limit) =
    record { first = 0; step = 1; last = flows ((ip_max - ip_min + 1) * (port_max - port_min + 1)) limit - 1 }

-- the word that a random counter draws at packet n
abbrev pub counter_draw : Op → ℕ → ℕ → ℕ → Option Draw
counter_draw Inc seed position n = None
counter_draw Dec seed position n = None
counter_draw Random seed position n = Some (record { seed = seed; position = position; number = n })

-- the word that a variable draws at packet n
abbrev pub draw_at : Variable → ℕ → Option Draw
draw_at (Counter op size init min max step seed position) n = counter_draw op seed position n
draw_at (RandLimit size min max limit seed position) n = Some (record { seed = seed; position = position; number = n % limit })
draw_at (ListOf op size step values seed position) n = counter_draw op seed position n
draw_at (Tuple ip_min ip_max port_min port_max limit) n = None

-- the place after n steps on a course
abbrev pub place_at : Course → ℕ → ℕ
place_at course n = (course.first + n * course.step) % (course.last + 1)

-- the place of a word, where one is drawn, or after n steps on a course
abbrev pub place_by : Option Draw → Course → ℕ → ℕ
place_by None course n = place_at course n
place_by (Some draw) course n = word_at draw.seed draw.position draw.number % (course.last + 1)

-- the place of a variable's value at packet n
abbrev pub place_of : Variable → ℕ → ℕ
place_of variable n = place_by (draw_at variable n) (course_of variable) n

-- the value of a variable at a place
abbrev pub shown : Variable → ℕ → VarValue
shown (Counter op size init min max step seed position) place = One (min + place)
shown (RandLimit size min max limit seed position) place = One (min + place)
shown (ListOf op size step values seed position) place = One (slice_index values place)
shown (Tuple ip_min ip_max port_min port_max limit) place =
    let addresses = ip_max - ip_min + 1 in Pair (ip_min + place % addresses) (port_min + place / addresses)
