-- Registers that go on from packet to packet.
use Rattle.std.proofs.Common.{◌≡◌, ℕ, ◌+◌, ◌-◌, ◌*◌, ◌%◌, ◌<◌, refl, sym, ap, ◌∙◌, arith}
use Rattle.std.proofs.Math.Nat.{add-mod-mod, mod-add-mod}
use Rattle.std.specs.Prelude.{None, Some, IfSome}
use Rattle.std.specs.Option.{option_map}
use Rattle.trex_vars.specs.declared.course.Course.{Course}
use Rattle.trex_vars.specs.declared.draw.Draw.{Draw}
use Rattle.trex_vars.specs.declared.spec.Op.TheVariants.{Inc, Dec, Random}
use Rattle.trex_vars.specs.declared.wheel.Wheel.{Wheel}
use Rattle.trex_vars.specs.declared.source.Source.TheVariants.{Turning}
use Rattle.trex_vars.specs.Registers.{course_of, draw_at, place_at}
use Rattle.trex_vars.specs.Source.{StandsAt}
use Rattle.trex_vars.specs.Variable.{Variable, Counter, RandLimit, ListOf, Tuple}

-- a turn of so many steps goes on by so many packets
pub place-turned : (course : Course) (n cores : ℕ)
    → (place_at course n + cores * course.step % (course.last + 1)) % (course.last + 1) ≡ place_at course (n + cores)
place-turned course n cores =
    let m = course.last + 1 in
    let far = course.first + n * course.step in
    let same : far + cores * course.step ≡ course.first + (n + cores) * course.step = omega arith in
    add-mod-mod (far % m) (cores * course.step) m ∙ mod-add-mod far m (cores * course.step) ∙ ap (λ (x : ℕ). x % m) same

-- a number over m places, which go up to m - 1
pub mod-last : (m number : ℕ) → 0 < m → number % (m - 1 + 1) ≡ number % m
mod-last m number pos =
    let same : m - 1 + 1 ≡ m = omega arith in
    ap (λ (k : ℕ). number % k) same

renumbered : (a b : Draw) (k number : ℕ) → Some a ≡ Some b → k ≡ number → Some (record a { number = k }) ≡ Some (record b { number = number })
renumbered a b k number e h =
    ap (λ (j : ℕ). Some (record a { number = j })) h ∙ ap (option_map (λ (d : Draw). record d { number = number })) e

-- the word of a later packet is of the same seed and position
pub draw-on : (variable : Variable) (n later number : ℕ) (draw : Draw) → draw_at variable n ≡ Some draw
    → IfSome (draw_at variable later) (λ next. next.number ≡ number) → draw_at variable later ≡ Some (record draw { number = number })
draw-on (Counter Inc size init min max step seed position) n later number draw e h = cc
draw-on (Counter Dec size init min max step seed position) n later number draw e h = cc
draw-on (Counter Random size init min max step seed position) n later number draw e h =
    renumbered (record { seed = seed; position = position; number = n }) draw later number e h
draw-on (RandLimit size min max limit seed position) n later number draw e h =
    renumbered (record { seed = seed; position = position; number = n % limit }) draw (later % limit) number e h
draw-on (ListOf Inc size step values seed position) n later number draw e h = cc
draw-on (ListOf Dec size step values seed position) n later number draw e h = cc
draw-on (ListOf Random size step values seed position) n later number draw e h =
    renumbered (record { seed = seed; position = position; number = n }) draw later number e h
draw-on (Tuple ip_min ip_max port_min port_max limit) n later number draw e h = cc

no_draw-on : (variable : Variable) (n later : ℕ) → draw_at variable n ≡ None → draw_at variable later ≡ None
no_draw-on (Counter Inc size init min max step seed position) n later e = refl
no_draw-on (Counter Dec size init min max step seed position) n later e = refl
no_draw-on (Counter Random size init min max step seed position) n later e = cc
no_draw-on (RandLimit size min max limit seed position) n later e = cc
no_draw-on (ListOf Inc size step values seed position) n later e = refl
no_draw-on (ListOf Dec size step values seed position) n later e = refl
no_draw-on (ListOf Random size step values seed position) n later e = cc
no_draw-on (Tuple ip_min ip_max port_min port_max limit) n later e = refl

-- a wheel that went on by one turn stands as many packets on as there are cores
pub turned-on : (variable : Variable) (cores n later : ℕ) (wheel turned : Wheel) → StandsAt variable cores n (Turning wheel) → later ≡ n + cores
    → turned.place ≡ (wheel.place + wheel.stride) % (wheel.last + 1) → turned.stride ≡ wheel.stride → turned.last ≡ wheel.last
    → StandsAt variable cores later (Turning turned)
turned-on variable cores n later wheel turned at on p s l =
    let course = course_of variable in
    let place_is : (wheel.place + wheel.stride) % (wheel.last + 1) ≡ place_at course later =
    rw (at.0.1, at.1.0, at.1.1, on) (place-turned course n cores) in
    ((no_draw-on variable n later at.0.0, p ∙ place_is), (s ∙ at.1.0 ∙ ap (λ (k : ℕ). cores * course.step % (k + 1)) (sym l), l ∙ at.1.1))
