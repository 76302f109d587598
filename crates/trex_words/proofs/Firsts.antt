-- Laws of the first answer of several.
use Rattle.std.proofs.Common.{◌≡◌, ℕ, zero, suc, ◌<◌, Option, None, Some, refl, sym, ap, ◌∙◌, subst, arith, ◌⊎◌, inl, inr}
use Rattle.std.proofs.lemmas.Bool.{cases_lt}
use Rattle.std.specs.Option.{option_or}
use Rattle.trex_words.specs.First.{first_of}

-- the last of several, or one before it
last_or_before : (k n : ℕ) → k < suc n → (k < n) ⊎ (n ≡ k)
last_or_before k n less = elim (cases_lt k n) [ inl before ↦ inl before | inr past ↦ inr (omega arith) ]

none_first : {X : Type 0} (a b : Option X) → option_or a b ≡ None → a ≡ None
none_first None b e = refl
none_first (Some x) b e = cc

none_second : {X : Type 0} (a b : Option X) → option_or a b ≡ None → b ≡ None
none_second None b e = e
none_second (Some x) b e = cc

-- where none is there, no one is
pub first_of-none : {X : Type 0} (f : ℕ → Option X) (n k : ℕ) → first_of f n ≡ None → k < n → f k ≡ None
first_of-none f zero k e less = absurd (omega arith)
first_of-none f (suc n) k e less =
    elim (last_or_before k n less) [
      | inl before ↦ first_of-none f n k (none_first (first_of f n) (f n) e) before
      | inr last ↦ subst (λ i. f i ≡ None) last (none_second (first_of f n) (f n) e)
    ]

-- the one after those that aren't there is the first
pub first_of-found : {X : Type 0} (f : ℕ → Option X) (n i : ℕ) (x : X) → i < n → first_of f i ≡ None → f i ≡ Some x → first_of f n ≡ Some x
first_of-found f zero i x less none is = absurd (omega arith)
first_of-found f (suc n) i x less none is =
    elim (last_or_before i n less) [
      | inl before ↦ ap (λ o. option_or o (f n)) (first_of-found f n i x before none is)
      | inr last ↦
          let here : first_of f n ≡ None = subst (λ k. first_of f k ≡ None) (sym last) none in
          let that : f n ≡ Some x = subst (λ k. f k ≡ Some x) (sym last) is in
          ap (λ o. option_or o (f n)) here ∙ that
    ]

some_of : {X : Type 0} (a b : Option X) (x : X) → option_or a b ≡ Some x → (a ≡ Some x) ⊎ (b ≡ Some x)
some_of None b x e = inr e
some_of (Some y) b x e = inl e

-- what is found is one of them
pub first_of-some : {X : Type 0} (f : ℕ → Option X) (n : ℕ) (x : X) → first_of f n ≡ Some x → (k : ℕ) × (k < n) × (f k ≡ Some x)
first_of-some f zero x e = cc
first_of-some f (suc n) x e =
    elim (some_of (first_of f n) (f n) x e) [
      | inl before ↦ (let (k, less, is) = first_of-some f n x before in (k, omega arith, is))
      | inr last ↦ (n, omega arith, last)
    ]
