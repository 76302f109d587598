-- The packets of all cores together are all packets.
use Rattle.std.proofs.Common.{◌≡◌, ℕ, zero, suc, ◌+◌, ◌%◌, ◌==◌, ◌<◌, ◌≤◌, inl, inr, List, map, sym, ap, arith}
use Rattle.std.proofs.lemmas.Bool.{eqb-true}
use Rattle.std.proofs.lemmas.Bool.Decides.{eqb_tells}
use Rattle.std.proofs.Math.Nat.{mod-lt}
use Rattle.std.specs.List.{AllByRecursion, filter, range_with_len}
use Rattle.trex_merge.specs.declared.key.Key.{Key}
use Rattle.trex_merge.specs.Frames.{Frame, key_of, shares}
use Rattle.trex_merge.specs.Order.{AreApart, AreDistinct, ComesBefore, EachPair, Has, IsRising, joined, ordered}
use Rattle.trex_merge.proofs.OrderLemmas.{distinct-ordered, has-filter, ordered_is_only, pairs-filter, rising-ordered}
use Rattle.trex_merge.proofs.ListLemmas.{has-append, pairs-append}

-- ---- the parts of a list that a number parts

-- the part with each number of a range
abbrev pub parts : {X : Type 0} → (X → ℕ) → List X → ℕ → ℕ → List (List X)
parts of xs from count = map (λ n. filter (λ x. of x == n) xs) (range_with_len from count)

-- the parts have what the list has with a number of the range
pub has-parts : {X : Type 0} (of : X → ℕ) (xs : List X) (from count : ℕ) (x : X)
    → (Has (joined (parts of xs from count)) x → Has xs x × ((from ≤ of x) × (of x < from + count)))
    × (Has xs x → from ≤ of x → of x < from + count → Has (joined (parts of xs from count)) x)
has-parts of xs from zero x = ((λ h. absurd h), (λ h low high. absurd (omega (arith, low, high))))
has-parts of xs from (suc count) x =
    let here = filter (λ y. of y == from) xs in
    let later = joined (parts of xs (from + 1) count) in
    let both = has-append here later x in
    let mine = has-filter (λ y. of y == from) xs x in
    let before = has-parts of xs (from + 1) count x in (
      (λ h. elim (both.0 h) [
        | inl first ↦ let at = mine.0 first in let same : of x ≡ from = eqb-true (of x) from at.1 in (at.0, (omega (arith, same), omega (arith, same)))
        | inr other ↦ let at = before.0 other in (at.0, (omega (arith, at.1.0), omega (arith, at.1.1)))
      ]),
      (λ h low high. elim (eqb_tells (of x) from) [
        | inl same ↦ both.1 (inl (mine.1 h same.0))
        | inr other ↦ let past : from + 1 ≤ of x = omega (arith, other.1, low) in both.1 (inr (before.1 h past (omega (arith, high))))
      ]),
    )

-- values of different parts are related where those of different numbers are
pub pairs-parts : {X : Type 0} (R : X → X → Type 0) (of : X → ℕ) (xs : List X) (from count : ℕ) → EachPair R xs → ((x y : X) → ¬ (of x ≡ of y) → R x y)
    → EachPair R (joined (parts of xs from count))
pairs-parts R of xs from zero pairs across = tt
pairs-parts R of xs from (suc count) pairs across =
    let here = filter (λ y. of y == from) xs in
    pairs-append R here (joined (parts of xs (from + 1) count)) (pairs-filter R (λ y. of y == from) xs pairs) (pairs-parts R of xs (from + 1) count pairs across)
    (λ x y in_here in_later.
    let first : of x ≡ from = eqb-true (of x) from ((has-filter (λ y. of y == from) xs x).0 in_here).1 in
    let later = ((has-parts of xs (from + 1) count y).0 in_later).1.0 in
    across x y (λ same. omega (arith, first, later, same)))

-- each part rises as the whole does
pub rising-parts : {X : Type 0} (key : X → Key) (of : X → ℕ) (xs : List X) (from count : ℕ) → IsRising key xs → AllByRecursion (IsRising key) (parts of xs from count)
rising-parts key of xs from zero rising = tt
rising-parts key of xs from (suc count) rising =
    (pairs-filter (ComesBefore key) (λ y. of y == from) xs rising, rising-parts key of xs (from + 1) count rising)

-- ---- the cores' shares

-- no two packets of all shares have one stream and one number
pub shares_distinct : (frames : List Frame) (cores : ℕ) → AreDistinct key_of frames → AreDistinct key_of (joined (shares cores frames))
shares_distinct frames cores distinct =
    pairs-parts (AreApart key_of) (λ frame. frame.number % cores) (ordered key_of frames) 0 cores (distinct-ordered key_of frames distinct)
    (λ x y other same. other (ap (λ (n : ℕ). n % cores) same.1))

-- each share rises
pub shares_rise : (frames : List Frame) (cores : ℕ) → AreDistinct key_of frames → AllByRecursion (IsRising key_of) (shares cores frames)
shares_rise frames cores distinct =
    rising-parts key_of (λ frame. frame.number % cores) (ordered key_of frames) 0 cores (rising-ordered key_of frames distinct)

-- the shares merged are all packets in order
pub shares_merged : (frames : List Frame) (cores : ℕ) → AreDistinct key_of frames → 0 < cores → ordered key_of (joined (shares cores frames)) ≡ ordered key_of frames
shares_merged frames cores distinct some =
    let whole = ordered key_of frames in
    sym (ordered_is_only key_of whole (joined (shares cores frames)) (shares_distinct frames cores distinct) (rising-ordered key_of frames distinct) (λ x.
    let both = has-parts (λ frame. frame.number % cores) whole 0 cores x in (
      (λ h. both.1 h (omega arith) (omega (arith, mod-lt x.number some))),
      (λ h. (both.0 h).0),
    )))
