-- The pieces of a text don't depend on a greater bound on their number.
use Rattle.std.proofs.Common.{◌≡◌, ℕ, zero, suc, ◌+◌, ◌<◌, ◌≤◌, Bool, true, false, cond, not, ◌&&◌, ◌==◌, slice_index, subst, List, [], ◌∷◌, length, take, drop, refl, ap, arith, length-drop}
use Rattle.trex_decimal.specs.Quoted.{text_len, rest_len, pieces_of}

pub pieces_of-enough : (n m : ℕ) (bs : List ℕ) → length bs ≤ n → length bs ≤ m → pieces_of n bs ≡ pieces_of m bs
pieces_of-enough zero zero bs p q = refl
pieces_of-enough zero (suc m) [] p q = refl
pieces_of-enough zero (suc m) (b ∷ bs) p q = absurd (omega arith)
pieces_of-enough (suc n) zero [] p q = refl
pieces_of-enough (suc n) zero (b ∷ bs) p q = absurd (omega arith)
pieces_of-enough (suc n) (suc m) [] p q = refl
pieces_of-enough (suc n) (suc m) (b ∷ bs) p q =
    let more = rest_len b bs in
    ap (λ ps. (b ∷ take more bs) ∷ ps) (pieces_of-enough n m (drop more bs) (omega (arith, length-drop more bs)) (omega (arith, length-drop more bs)))

-- the first piece of a text, and the pieces of the rest
pub pieces_of-next : (text : List ℕ) (n : ℕ) → 0 < length text → n ≡ 1 + rest_len (slice_index text 0) (drop 1 text)
    → pieces_of (length text) text ≡ take n text ∷ pieces_of (length (drop n text)) (drop n text)
pieces_of-next [] n some is = absurd (omega arith)
pieces_of-next (b ∷ bs) n some is =
    let m = rest_len b bs in
    let same : suc m ≡ n = omega arith in
    subst (λ n. pieces_of (suc (length bs)) (b ∷ bs) ≡ take n (b ∷ bs) ∷ pieces_of (length (drop n (b ∷ bs))) (drop n (b ∷ bs))) same
    (ap (λ ps. (b ∷ take m bs) ∷ ps) (pieces_of-enough (length bs) (length (drop m bs)) (drop m bs) (omega (arith, length-drop m bs)) (omega arith)))

pub pieces_of-none : (text : List ℕ) → length text ≡ 0 → pieces_of (length text) text ≡ []
pieces_of-none [] is = refl
pieces_of-none (b ∷ bs) is = absurd (omega arith)

-- a byte that doesn't end a JSON text, and what follows it
pub text_len-next : (protected : Bool) (b : ℕ) (bs : List ℕ) → (not protected && (b == 34)) ≡ false → text_len protected (b ∷ bs) ≡ 1 + text_len (not protected && (b == 92)) bs
text_len-next true b bs goes_on = refl
text_len-next false b bs goes_on = ap (λ c. cond c 1 (1 + text_len (b == 92) bs)) goes_on
