-- Lists: the first k are passed, and the others are left; what holds of each.
use Rattle.std.proofs.Common.{◌≡◌, ℕ, zero, suc, ◌+◌, ◌≤◌, List, [], ◌∷◌, ◌++◌, take, drop, slice_get, Some, refl, sym, ap, ◌∙◌, arith, add-one, subst, take-append-drop}
use Rattle.std.specs.List.{AllByRecursion}

-- what is left begins with the next one
take_suc-next : {A : Type 0} (k : ℕ) (xs : List A) (x : A) → slice_get (drop k xs) 0 ≡ Some x → take (suc k) xs ≡ take k xs ++ x ∷ []
take_suc-next zero [] x next = cc
take_suc-next zero (y ∷ xs) x next = let same : y ≡ x = cc in ap (λ z. z ∷ []) same
take_suc-next (suc k) [] x next = cc
take_suc-next (suc k) (y ∷ xs) x next = ap (λ l. y ∷ l) (take_suc-next k xs x next)

pub take-next : {A : Type 0} (k : ℕ) (xs : List A) (x : A) → slice_get (drop k xs) 0 ≡ Some x → take (k + 1) xs ≡ take k xs ++ x ∷ []
take-next k xs x next = rw add-one (take_suc-next k xs x next)

-- the first k are the front of the first m
pub take_split : {A : Type 0} (k m : ℕ) (xs : List A) → k ≤ m → take k (take m xs) ≡ take k xs
take_split zero m xs within = refl
take_split (suc k) zero xs within = absurd (omega arith)
take_split (suc k) (suc m) [] within = refl
take_split (suc k) (suc m) (y ∷ xs) within = ap (λ l. y ∷ l) (take_split k m xs (omega arith))

pub take-front : {A : Type 0} (k m : ℕ) (xs : List A) → k ≤ m → take m xs ≡ take k xs ++ drop k (take m xs)
take-front k m xs within = sym (take-append-drop k (take m xs)) ∙ ap (λ l. l ++ drop k (take m xs)) (take_split k m xs within)

-- what stands at a place is the first of what is left from there on
pub drop_get : {X : Type 0} (k : ℕ) (xs : List X) (x : X) → slice_get xs k ≡ Some x → slice_get (drop k xs) 0 ≡ Some x
drop_get zero xs x there = there
drop_get (suc k) [] x there = cc
drop_get (suc k) (y ∷ xs) x there = drop_get k xs x there

-- what holds of each holds of the one that stands at a place
pub all_get : {X : Type 0} (P : X → Type 0) (xs : List X) (k : ℕ) (x : X) → AllByRecursion P xs → slice_get xs k ≡ Some x → P x
all_get P [] k x all there = cc
all_get P (y ∷ xs) zero x all there = let same : y ≡ x = cc in subst P same all.0
all_get P (y ∷ xs) (suc k) x all there = all_get P xs k x all.1 there

-- and of each of the first
pub all_take : {X : Type 0} (P : X → Type 0) (n : ℕ) (xs : List X) → AllByRecursion P xs → AllByRecursion P (take n xs)
all_take P zero xs all = tt
all_take P (suc n) [] all = tt
all_take P (suc n) (x ∷ xs) all = (all.0, all_take P n xs all.1)
