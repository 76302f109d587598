-- What lies between the two places, without its front.
use Rattle.std.proofs.Common.{◌≡◌, ℕ, ◌+◌, ◌-◌, ◌≤◌, ◌∙◌, List, length, take, drop, sym, ap, arith, length-take, length-drop}
use Rattle.std.proofs.Math.Seq.{drop-drop}
use Rattle.std.proofs.lemmas.List.{drop-take}
use Rattle.trex_measure.proofs.window.Window.skip.Goals as goal

skipped : (xs : List ℕ) (from to count : ℕ) → from + count ≤ to → take (to - (from + count)) (drop (from + count) xs) ≡ drop count (take (to - from) (drop from xs))
skipped xs from to count within =
    let left = to - (from + count) in
    let size : count + (to - (from + count)) ≡ to - from = omega (arith, within) in
    ap (take left) (sym (drop-drop count from xs)) ∙ sym (drop-take count left (drop from xs)) ∙ ap (λ n. drop count (take n (drop from xs))) size

pub returns : goal.returns
returns c =
    let xs = c.self.inside.buffer.items in
    let from = c.self.inside.from in
    let to = c.self.inside.to in
    let within : from + c.args.count ≤ to = omega (arith, c.requires, ap length c.self.view_is, length-take (to - from) (drop from xs), c.self.invariant.0) in
    skipped xs from to c.args.count within ∙ ap (drop c.args.count) c.self.view_is
