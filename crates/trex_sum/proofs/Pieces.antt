-- The sum of bytes that go by in pieces.
use Rattle.std.proofs.Common.{◌≡◌, ℕ, ◌+◌, ◌%◌, ◌==◌, Bool, true, false, not, List, ◌∷◌, ◌++◌, length, length-append, if◌then◌else◌, refl, sym, ap, ◌∙◌, arith}
use Rattle.std.proofs.lemmas.Bool.Decides.{nat_tests}
use Rattle.trex_sum.specs.declared.running.RunningSum.{RunningSum}
use Rattle.trex_sum.specs.Checksum.{sum_of}
use Rattle.trex_sum.specs.Running.{running}
use Rattle.trex_sum.proofs.SumLemmas.{sum_of-append, sum_of-append_odd}

-- what follows is summed by whether its first byte ends a word
sum-more : (front piece : List ℕ) (odd : Bool) → (length front % 2 == 1) ≡ odd → sum_of front + sum_of (if odd then 0 ∷ piece else piece) ≡ sum_of (front ++ piece)
sum-more front piece true is = sym (sum_of-append_odd front piece (grind (arith, nat_tests)))
sum-more front piece false is = sym (sum_of-append front piece (grind (arith, nat_tests)))

joined : (front piece : List ℕ) (odd : Bool) → odd ≡ (length (front ++ piece) % 2 == 1)
    → (let r : RunningSum = record { sum = sum_of front + sum_of (if length front % 2 == 1 then 0 ∷ piece else piece); odd = odd } in r ≡ running (front ++ piece))
joined front piece odd is =
    ap (λ (n : ℕ). let r : RunningSum = record { sum = n; odd = odd } in r) (sum-more front piece (length front % 2 == 1) refl)
    ∙ ap (λ (b : Bool). let r : RunningSum = record { sum = sum_of (front ++ piece); odd = b } in r) is

-- an odd piece turns the parity
pub odd-more : (old : RunningSum) (front piece : List ℕ) → old ≡ running front → length piece % 2 ≡ 1
    → (let r : RunningSum = record { sum = old.sum + sum_of (if old.odd then 0 ∷ piece else piece); odd = not old.odd } in r ≡ running (front ++ piece))
odd-more old front piece is odd =
    let long : length (front ++ piece) ≡ length front + length piece = length-append front piece in
    rw is (joined front piece (not (length front % 2 == 1)) (grind (arith, nat_tests)))

-- an even one keeps it
pub even-more : (old : RunningSum) (front piece : List ℕ) → old ≡ running front → length piece % 2 ≡ 0
    → (let r : RunningSum = record { sum = old.sum + sum_of (if old.odd then 0 ∷ piece else piece); odd = old.odd } in r ≡ running (front ++ piece))
even-more old front piece is even =
    let long : length (front ++ piece) ≡ length front + length piece = length-append front piece in
    rw is (joined front piece (length front % 2 == 1) (grind (arith, nat_tests)))
