-- A text stops being a decimal after its longest front that is the front of a decimal.
use Rattle.std.proofs.Common.{◌≡◌, ℕ, suc, ◌+◌, ◌<◌, ◌≤◌, Bool, true, false, cond, List, [], ◌∷◌, ◌++◌, Option, Some, None, length, take, drop, refl, sym, ap, ◌∙◌, subst, arith, append_assoc, take-append-drop}
use Rattle.std.proofs.lemmas.List.{length-take-le, take-append-le}
use Rattle.std.specs.Option.{option_map, option_map_or}
use Rattle.trex_decimal.specs.declared.place.Place.{Place}
use Rattle.trex_decimal.specs.declared.place.Place.TheVariants.{Start, Whole, Point, Fraction, Mark, Sign, Power, End}
use Rattle.trex_decimal.specs.Grammar.{next, may_end, stop_from, stop_of, IsLongestFront}

-- from each place on a decimal can be ended
ends : (p : Place) → (rest : List ℕ) × (stop_from p rest ≡ None)
ends Start = (48 ∷ [], refl)
ends (Whole left) = ([], refl)
ends (Point left) = (48 ∷ [], refl)
ends (Fraction left) = ([], refl)
ends Mark = (48 ∷ [], refl)
ends Sign = (48 ∷ [], refl)
ends (Power first) = ([], refl)
ends End = ([], refl)

-- where a text stops after a byte, by the place to which the byte led
abbrev past : Option Place → List ℕ → Option ℕ
past led bs = option_map_or (λ p. option_map (λ n. 1 + n) (stop_from p bs)) led (Some 0)

-- a stop, counted from an earlier place
abbrev pub later : ℕ → Option ℕ → Option ℕ
later k o = option_map (λ n. k + n) o

pub past_none : (o : Option ℕ) → option_map (λ n. 1 + n) o ≡ None → o ≡ None
past_none None e = refl
past_none (Some n) e = cc

past_some : (o : Option ℕ) (at : ℕ) → option_map (λ n. 1 + n) o ≡ Some at → (n : ℕ) × (o ≡ Some n) × (at ≡ suc n)
past_some None at e = cc
past_some (Some n) at e = let same : 1 + n ≡ at = cc in (n, refl, omega arith)

stopped_here : (at : ℕ) → Some 0 ≡ Some at → at ≡ 0
stopped_here at e = cc

stopped_end : (c : Bool) (at : ℕ) → cond c None (Some 0) ≡ Some at → at ≡ 0
stopped_end true at e = cc
stopped_end false at e = cc

within_past : (led : Option Place) (bs : List ℕ) (at : ℕ) → ((q : Place) (n : ℕ) → stop_from q bs ≡ Some n → n ≤ length bs) → past led bs ≡ Some at → at ≤ suc (length bs)
within_past None bs at ih e = omega (arith, stopped_here at e)
within_past (Some q) bs at ih e = let (n, is, more) = past_some (stop_from q bs) at e in omega (arith, ih q n is, more)

-- a text stops within its bytes
within : (p : Place) (text : List ℕ) (at : ℕ) → stop_from p text ≡ Some at → at ≤ length text
within p [] at e = omega (arith, stopped_end (may_end p) at e)
within p (b ∷ bs) at e = within_past (next p b) bs at (λ q. within q bs) e

front_past : (p : Place) (b : ℕ) (bs : List ℕ) (led : Option Place) (at : ℕ) → next p b ≡ led
    → ((q : Place) (n : ℕ) → stop_from q bs ≡ Some n → (rest : List ℕ) × (stop_from q (take n bs ++ rest) ≡ None))
    → past led bs ≡ Some at → (rest : List ℕ) × (stop_from p (take at (b ∷ bs) ++ rest) ≡ None)
front_past p b bs None at leads ih e =
    subst (λ n. (rest : List ℕ) × (stop_from p (take n (b ∷ bs) ++ rest) ≡ None)) (sym (stopped_here at e)) (ends p)
front_past p b bs (Some q) at leads ih e =
    let (n, is, more) = past_some (stop_from q bs) at e in
    let (rest, ended) = ih q n is in
    subst (λ n. (rest : List ℕ) × (stop_from p (take n (b ∷ bs) ++ rest) ≡ None)) (sym more)
    (rest, ap (λ led. past led (take n bs ++ rest)) leads ∙ ap (option_map (λ n. 1 + n)) ended)

-- what stands before the stop is the front of a decimal
front : (p : Place) (text : List ℕ) (at : ℕ) → stop_from p text ≡ Some at → (rest : List ℕ) × (stop_from p (take at text ++ rest) ≡ None)
front p [] at e = subst (λ n. (rest : List ℕ) × (stop_from p (take n [] ++ rest) ≡ None)) (sym (stopped_end (may_end p) at e)) (ends p)
front p (b ∷ bs) at e = front_past p b bs (next p b) at refl (λ q. front q bs) e

fails_past : (led : Option Place) (bs rest : List ℕ) (at : ℕ)
    → ((q : Place) (n : ℕ) → stop_from q bs ≡ Some n → n < length bs → stop_from q (take (suc n) bs ++ rest) ≡ None → ⊥)
    → past led bs ≡ Some at → at < suc (length bs) → past led (take at bs ++ rest) ≡ None → ⊥
fails_past None bs rest at ih e short none = cc
fails_past (Some q) bs rest at ih e short none =
    let (n, is, more) = past_some (stop_from q bs) at e in
    let ended : stop_from q (take at bs ++ rest) ≡ None = past_none (stop_from q (take at bs ++ rest)) none in
    ih q n is (omega (arith, more)) (subst (λ n. stop_from q (take n bs ++ rest) ≡ None) more ended)

-- what stands before the stop and the byte there aren't the front of a decimal
fails : (p : Place) (text rest : List ℕ) (at : ℕ) → stop_from p text ≡ Some at → at < length text → stop_from p (take (suc at) text ++ rest) ≡ None → ⊥
fails p [] rest at e short none = absurd (omega arith)
fails p (b ∷ bs) rest at e short none = fails_past (next p b) bs rest at (λ q n. fails q bs rest n) e short none

-- a front of a text is a shorter front and the rest
take_front : (text : List ℕ) (n k : ℕ) → k ≤ n → n ≤ length text → take n text ≡ take k text ++ drop k (take n text)
take_front text n k less short =
    let long : k ≤ length (take n text) = omega (arith, length-take-le n text short) in
    let same : take k text ≡ take k (take n text) = ap (take k) (sym (take-append-drop n text)) ∙ take-append-le k (take n text) (drop n text) long in
    sym (take-append-drop k (take n text)) ∙ ap (λ l. l ++ drop k (take n text)) (sym same)

-- where a text stops is the length of its longest front that is the front of a decimal
pub IsLongestFront-of_stop : (text : List ℕ) (at : ℕ) → stop_of text ≡ Some at → IsLongestFront text at
unfolding stop_of
IsLongestFront-of_stop text at e =
    record {
      within = within Start text at e;
      front = front Start text at e;
      longest = λ n more short (rest, decimal).
          fails Start text (drop (suc at) (take n text) ++ rest) at e (omega arith)
          (subst (λ l. stop_from Start l ≡ None) (ap (λ l. l ++ rest) (take_front text n (suc at) (omega arith) short) ∙ append_assoc (take (suc at) text) (drop (suc at) (take n text)) rest) decimal);
    }
