-- A text without number tokens outside its JSON texts, and without backslashes inside them, is its own quoted text.
use Rattle.std.proofs.Common.{◌≡◌, ℕ, ◌+◌, ◌≤◌, Bool, true, false, cond, not, ◌&&◌, ◌==◌, List, [], ◌∷◌, ◌++◌, length, take, drop, Option, Some, None, refl, sym, ap, ap₂, ◌∙◌, subst, arith, length-append, length-drop, append_assoc, append-nil}
use Rattle.std.proofs.lemmas.List.{take_at, drop_at, take_all, drop_all}
use Rattle.std.proofs.lemmas.Bool.{and_parts, eqb-true, not-true}
use Rattle.std.proofs.lemmas.List.Folds.{list_all-append}
use Rattle.std.specs.List.{flat_map, list_all}
use Rattle.std.specs.Option.{option_and_then}
use Rattle.trex_decimal.specs.Quoted.{begins_token, kept, quoted, rest_len, text_len}
use Rattle.trex_decimal.proofs.Pieces.{pieces_of-enough}

-- whether the next byte stands inside a JSON text, after a byte inside or outside one; none where that byte begins a number token or is a backslash
abbrev pub inside_after : Bool → ℕ → Option Bool
inside_after false b = cond (b == 34) (Some true) (cond (begins_token b) None (Some false))
inside_after true b = cond (b == 34) (Some false) (cond (b == 92) None (Some true))

-- the same after some bytes
abbrev pub inside_at_end : Bool → List ℕ → Option Bool
inside_at_end inside [] = Some inside
inside_at_end inside (b ∷ bs) = option_and_then (λ next. inside_at_end next bs) (inside_after inside b)

pub inside_at_end-append : (inside middle : Bool) (xs ys : List ℕ) → inside_at_end inside xs ≡ Some middle → inside_at_end inside (xs ++ ys) ≡ inside_at_end middle ys
inside_at_end-append inside middle [] ys is = ap (λ o. option_and_then (λ next. inside_at_end next ys) o) is
inside_at_end-append inside middle (b ∷ xs) ys is = step (inside_after inside b) is (λ next more. inside_at_end-append next middle xs ys more)
  where
    step : (o : Option Bool) → option_and_then (λ next. inside_at_end next xs) o ≡ Some middle
        → ((next : Bool) → inside_at_end next xs ≡ Some middle → inside_at_end next (xs ++ ys) ≡ inside_at_end middle ys)
        → option_and_then (λ next. inside_at_end next (xs ++ ys)) o ≡ inside_at_end middle ys
    step None e later = cc
    step (Some next) e later = later next e

-- the first piece of a text, and the rest
pub quoted-first : (b : ℕ) (bs : List ℕ) → quoted (b ∷ bs) ≡ kept (b ∷ take (rest_len b bs) bs) ++ quoted (drop (rest_len b bs) bs)
unfolding quoted
quoted-first b bs =
    let rest = drop (rest_len b bs) bs in
    ap (λ ps. kept (b ∷ take (rest_len b bs) bs) ++ flat_map kept ps)
    (pieces_of-enough (length bs) (length rest) rest (omega (arith, length-drop (rest_len b bs) bs)) (omega arith))

-- bytes that neither end a JSON text nor protect the next one
abbrev is_quiet : List ℕ → Bool
is_quiet = list_all (λ b. not (b == 34) && not (b == 92))

text_len-quiet : (s rest : List ℕ) → is_quiet s ≡ true → text_len false (s ++ rest) ≡ length s + text_len false rest
text_len-quiet [] rest quiet = omega arith
text_len-quiet (b ∷ s) rest quiet =
    let parts = and_parts (not (b == 34) && not (b == 92)) (is_quiet s) quiet in
    let tests = and_parts (not (b == 34)) (not (b == 92)) parts.0 in
    rw (not-true (b == 34) tests.0, not-true (b == 92) tests.1) (omega (arith, text_len-quiet s rest parts.1))

quiet-push : (s : List ℕ) (b : ℕ) → is_quiet s ≡ true → (b == 34) ≡ false → (b == 92) ≡ false → is_quiet (s ++ b ∷ []) ≡ true
quiet-push s b quiet quote backslash =
    list_all-append (λ b. not (b == 34) && not (b == 92)) s (b ∷ []) ∙ rw (quiet, quote, backslash) refl

-- a JSON text that has no end
quoted-open : (s : List ℕ) → is_quiet s ≡ true → quoted (34 ∷ s) ≡ 34 ∷ s
unfolding quoted
quoted-open s quiet =
    let whole : length s ≤ text_len false s = omega (arith, text_len-quiet s [] quiet, ap (text_len false) (append-nil s)) in
    quoted-first 34 s
    ∙ ap₂ (λ a b. (34 ∷ a) ++ quoted b) (take_all (text_len false s) s whole) (drop_all (text_len false s) s whole)
    ∙ append-nil (34 ∷ s)

-- a JSON text and what follows it
quoted-closed : (s rest : List ℕ) → is_quiet s ≡ true → quoted (34 ∷ (s ++ 34 ∷ rest)) ≡ 34 ∷ (s ++ 34 ∷ quoted rest)
quoted-closed s rest quiet =
    let text = s ++ 34 ∷ rest in
    let n = text_len false text in
    let split : (s ++ 34 ∷ []) ++ rest ≡ text = append_assoc s (34 ∷ []) rest in
    let long : length (s ++ 34 ∷ []) ≡ n = omega (arith, length-append s (34 ∷ []), text_len-quiet s (34 ∷ rest) quiet) in
    quoted-first 34 text
    ∙ ap₂ (λ a b. (34 ∷ a) ++ quoted b)
    (ap (take n) (sym split) ∙ take_at (s ++ 34 ∷ []) rest n long)
    (ap (drop n) (sym split) ∙ drop_at (s ++ 34 ∷ []) rest n long)
    ∙ ap (λ l. 34 ∷ l) (append_assoc s (34 ∷ []) (quoted rest))

-- a byte that is a piece of its own
quoted-own : (b : ℕ) (bs : List ℕ) → (b == 34) ≡ false → begins_token b ≡ false → quoted (b ∷ bs) ≡ b ∷ quoted bs
quoted-own b bs quote token = quoted-first b bs ∙ rw (quote, token) refl

-- a choice by two tests that is made is that of a test which fails, or of the first
inside_step : (q t : Bool) (first third : Option Bool) (P : Type 0) (end : Option Bool → Type 0)
    → (q ≡ true → end first → P) → (q ≡ false → t ≡ false → end third → P) → ¬ end None → end (cond q first (cond t None third)) → P
inside_step true t first third P end one other none is = one refl is
inside_step false true first third P end one other none is = absurd (none is)
inside_step false false first third P end one other none is = other refl refl is

-- the end of the bytes that follow
abbrev EndsAfter : List ℕ → Bool → Option Bool → Type 0
EndsAfter bs end next = option_and_then (λ inside. inside_at_end inside bs) next ≡ Some end

no_end : (bs : List ℕ) (end : Bool) → ¬ EndsAfter bs end None
no_end bs end is = cc

mutual
  unfolding quoted

  pub quoted-kept : (t : List ℕ) (end : Bool) → inside_at_end false t ≡ Some end → quoted t ≡ t
  quoted-kept [] end is = refl
  quoted-kept (b ∷ bs) end is =
      inside_step (b == 34) (begins_token b) (Some true) (Some false) (quoted (b ∷ bs) ≡ b ∷ bs) (EndsAfter bs end)
      (λ quote more. subst (λ b. quoted (b ∷ bs) ≡ b ∷ bs) (sym (eqb-true b 34 quote)) (quoted-inside [] bs end refl more))
      (λ quote token more. quoted-own b bs quote token ∙ ap (λ l. b ∷ l) (quoted-kept bs end more))
      (no_end bs end) is

  quoted-inside : (s t : List ℕ) (end : Bool) → is_quiet s ≡ true → inside_at_end true t ≡ Some end → quoted (34 ∷ (s ++ t)) ≡ 34 ∷ (s ++ t)
  quoted-inside s [] end quiet is = ap (λ l. quoted (34 ∷ l)) (append-nil s) ∙ quoted-open s quiet ∙ ap (λ l. 34 ∷ l) (sym (append-nil s))
  quoted-inside s (b ∷ bs) end quiet is =
      inside_step (b == 34) (b == 92) (Some false) (Some true) (quoted (34 ∷ (s ++ b ∷ bs)) ≡ 34 ∷ (s ++ b ∷ bs)) (EndsAfter bs end)
      (λ quote more. subst (λ b. quoted (34 ∷ (s ++ b ∷ bs)) ≡ 34 ∷ (s ++ b ∷ bs)) (sym (eqb-true b 34 quote)) (quoted-closed s bs quiet ∙ ap (λ l. 34 ∷ (s ++ 34 ∷ l)) (quoted-kept bs end more)))
      (λ quote backslash more.
      ap (λ l. quoted (34 ∷ l)) (sym (append_assoc s (b ∷ []) bs)) ∙ quoted-inside (s ++ b ∷ []) bs end (quiet-push s b quiet quote backslash) more ∙ ap (λ l. 34 ∷ l) (append_assoc s (b ∷ []) bs))
      (no_end bs end) is
