-- A quotient that is guessed by a product with a reciprocal.
use Rattle.std.proofs.Common.{◌≡◌, ℕ, ◌+◌, ◌*◌, ◌/◌, ◌%◌, ◌<◌, ◌≤◌, sym, ap, ◌∙◌, arith}
use Rattle.std.proofs.Math.Nat.{div-mul-le_self, lt-div-mul-add, mul-le-mul_left, mul-le-mul_right, mul-lt-mul_of_pos_right, le_of_mul-le-mul_right, lt_of_mul-lt-mul_right}
use Rattle.std.proofs.lemmas.Nat.{mod-mul-add}

-- the guess isn't too great
pub guess-least : (word places reciprocal whole : ℕ) → 0 < whole → reciprocal * places ≤ whole → word * reciprocal / whole * places ≤ word
guess-least word places reciprocal whole pos fits =
    let guess = word * reciprocal / whole in
    let below : guess * whole ≤ word * reciprocal = div-mul-le_self (word * reciprocal) whole in
    let scaled : (guess * whole) * places ≤ (word * reciprocal) * places = mul-le-mul_right places below in
    let all : word * (reciprocal * places) ≤ word * whole = mul-le-mul_left word fits in
    let both : (guess * places) * whole ≤ word * whole = omega arith in
    le_of_mul-le-mul_right both pos

-- the guess is too small by less than two
pub guess-most : (word places reciprocal whole : ℕ) → word < whole → 0 < places → whole ≤ reciprocal * places + places
    → word < (word * reciprocal / whole + 2) * places
guess-most word places reciprocal whole small some near =
    let guess = word * reciprocal / whole in
    let pos : 0 < whole = omega arith in
    let above : word * reciprocal < guess * whole + whole = lt-div-mul-add pos in
    let scaled : (word * reciprocal) * places < (guess * whole + whole) * places = mul-lt-mul_of_pos_right above some in
    let all : word * whole ≤ word * (reciprocal * places + places) = mul-le-mul_left word near in
    let few : word * places < whole * places = mul-lt-mul_of_pos_right small some in
    let both : word * whole < ((guess + 2) * places) * whole = omega arith in
    lt_of_mul-lt-mul_right whole both

-- all places fit below a whole as often as the reciprocal says, and the rest is at most all places
pub reciprocal-fits : (top places : ℕ) → top / places * places ≤ top + 1
reciprocal-fits top places = omega (arith, div-mul-le_self top places)

pub reciprocal-near : (top places : ℕ) → 0 < places → top + 1 ≤ top / places * places + places
reciprocal-near top places some =
    let above : top < top / places * places + places = lt-div-mul-add some in
    omega arith

-- what is left of a word after some times all places
pub rest-mod : (word places times rest : ℕ) → word ≡ times * places + rest → rest < places → rest ≡ word % places
rest-mod word places times rest parts small = sym (ap (λ (n : ℕ). n % places) parts ∙ mod-mul-add times places rest small)
