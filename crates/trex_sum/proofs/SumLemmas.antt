-- Laws of the plain sum, and of the four words that stand in one number.
use Rattle.std.proofs.Common.{◌≡◌, ℕ, ◌+◌, ◌*◌, ◌/◌, ◌%◌, ◌<◌, ◌≤◌, List, [], ◌∷◌, ◌++◌, length, get_or, take, drop, sym, ap, ◌∙◌, arith}
use Rattle.std.proofs.lemmas.List.{take-append-drop, length-take-le}
use Rattle.trex_sum.specs.Checksum.{sum_of}

-- what a loop over some bytes keeps: the sum so far and that of the rest are the whole sum, and no cell so far added more than 65536
pub record SumsSoFar (total : ℕ) (rest bytes : List ℕ) : Type 0 where
  pub summed : total + sum_of rest ≡ sum_of bytes
  pub bound : total + 65536 * length rest ≤ 65536 * length bytes

-- the sum of an even part and the rest
pub sum_of-append : (xs ys : List ℕ) → length xs % 2 ≡ 0 → sum_of (xs ++ ys) ≡ sum_of xs + sum_of ys
sum_of-append [] ys even = omega arith
sum_of-append (x ∷ []) ys even = absurd (omega arith)
sum_of-append (x ∷ y ∷ rest) ys even = let more = sum_of-append rest ys (omega arith) in omega arith

-- the sum of an odd part and the rest, whose first byte ends a word
pub sum_of-append_odd : (xs ys : List ℕ) → length xs % 2 ≡ 1 → sum_of (xs ++ ys) ≡ sum_of xs + sum_of (0 ∷ ys)
sum_of-append_odd [] ys odd = absurd (omega arith)
sum_of-append_odd (x ∷ []) [] odd = omega arith
sum_of-append_odd (x ∷ []) (y ∷ ys) odd = omega arith
sum_of-append_odd (x ∷ y ∷ rest) ys odd = let more = sum_of-append_odd rest ys (omega arith) in omega arith

-- a list cut at an even place
pub sum_of-split : (n : ℕ) (xs : List ℕ) → n % 2 ≡ 0 → n ≤ length xs → sum_of (take n xs) + sum_of (drop n xs) ≡ sum_of xs
sum_of-split n xs even within =
    let long : length (take n xs) ≡ n = length-take-le n xs within in
    let joined : sum_of (take n xs ++ drop n xs) ≡ sum_of (take n xs) + sum_of (drop n xs) = sum_of-append (take n xs) (drop n xs) (omega arith) in
    sym joined ∙ ap sum_of (take-append-drop n xs)

-- the four words of one number, added
pub four_words : (n a b c d : ℕ) → a < 65536 → b < 65536 → c < 65536 → d < 65536
    → n ≡ 281474976710656 * a + 4294967296 * b + 65536 * c + d
    → n / 281474976710656 + n / 4294967296 % 65536 + n / 65536 % 65536 + n % 65536 ≡ a + (b + (c + d))
four_words n a b c d a< b< c< d< is = omega arith

-- the sum of eight bytes, cell by cell
pub sum_of-eight : (xs : List ℕ) → length xs ≡ 8
    → sum_of xs ≡ (256 * get_or xs 0 0 + get_or xs 1 0) + ((256 * get_or xs 2 0 + get_or xs 3 0) + ((256 * get_or xs 4 0 + get_or xs 5 0) + (256 * get_or xs 6 0 + get_or xs 7 0)))
sum_of-eight (a ∷ b ∷ c ∷ d ∷ e ∷ f ∷ g ∷ h ∷ []) long = omega arith
sum_of-eight _ long = absurd (omega arith)
