-- The laws of the order, over any values with a key.
use Rattle.std.proofs.Common.{◌≡◌, inl, inr, List, [], ◌∷◌, Bool, true, false, cond, IsTrue, refl, sym, ap, ◌∙◌, subst}
use Rattle.std.specs.List.{AllByRecursion, filter}
use Rattle.std.proofs.lemmas.Bool.{false≢true}
use Rattle.trex_merge.specs.declared.key.Key.{Key}
use Rattle.trex_merge.specs.Order.{is_before, AreApart, ComesBefore, placed, ordered, EachPair, IsRising, AreDistinct, Has, HaveSame}
use Rattle.trex_merge.proofs.KeyLemmas.{not_both, before_trans, one_first, not_before_itself}

-- ---- what holds of each value of a list

-- what holds of each value holds of one that the list has
pub all_at : {X : Type 0} (P : X → Type 0) (xs : List X) (x : X) → AllByRecursion P xs → Has xs x → P x
all_at P [] x all has = absurd has
all_at P (a ∷ rest) x all (inl same) = subst P (sym same) all.0
all_at P (a ∷ rest) x all (inr later) = all_at P rest x all.1 later

-- what holds of all that a list has holds of each value
pub all_from : {X : Type 0} (P : X → Type 0) (xs : List X) → ((x : X) → Has xs x → P x) → AllByRecursion P xs
all_from P [] each = tt
all_from P (a ∷ rest) each = (each a (inl refl), all_from P rest (λ x later. each x (inr later)))

-- ---- a value put at its place

-- the list with a value put at its place has that value and those before
pub has-placed : {X : Type 0} (key : X → Key) (a : X) (xs : List X) (x : X) → (Has (placed key a xs) x → Has (a ∷ xs) x) × (Has (a ∷ xs) x → Has (placed key a xs) x)
has-placed key a [] x = ((λ h. h), (λ h. h))
has-placed {X = X} key a (b ∷ rest) x =
    let before = has-placed key a rest x in
    elim (is_before (key a) (key b)) as (λ t. (Has (cond t (a ∷ b ∷ rest) (b ∷ placed key a rest)) x → Has (a ∷ b ∷ rest) x) × (Has (a ∷ b ∷ rest) x → Has (cond t (a ∷ b ∷ rest) (b ∷ placed key a rest)) x)) [
      | true ↦ ((λ h. h), (λ h. h))
      | false ↦ (
        (λ h. elim h [ inl at ↦ inr (inl at) | inr later ↦ elim (before.0 later) [ inl here ↦ inl here | inr past ↦ inr (inr past) ] ]),
        (λ h. elim h [ inl here ↦ inr (before.1 (inl here)) | inr later ↦ elim later [ inl at ↦ inl at | inr past ↦ inr (before.1 (inr past)) ] ]),
      )
    ]

-- a rising list stays rising where a value that is apart from all others is put at its place
pub rising-placed : {X : Type 0} (key : X → Key) (a : X) (xs : List X) → IsRising key xs
    → AllByRecursion (AreApart key a) xs
    → IsRising key (placed key a xs)
rising-placed key a [] rising apart = (tt, tt)
rising-placed {X = X} key a (b ∷ rest) rising apart =
    elim (is_before (key a) (key b)) as (λ t. is_before (key a) (key b) ≡ t → IsRising key (cond t (a ∷ b ∷ rest) (b ∷ placed key a rest))) [
      | true ↦ λ first.
          let P : X → Type 0 = ComesBefore key a in
          ((first, all_from P rest (λ x later. before_trans (key a) (key b) (key x) first (all_at (ComesBefore key b) rest x rising.0 later))), rising)
      | false ↦ λ not_first.
          let P : X → Type 0 = ComesBefore key b in
          let second : P a = elim (one_first (key a) (key b) apart.0) [ inl known ↦ absurd (false≢true (sym not_first ∙ known)) | inr other ↦ other ] in (
            all_from P (placed key a rest) (λ x h. elim ((has-placed key a rest x).0 h) [ inl same ↦ subst P (sym same) second | inr later ↦ all_at P rest x rising.0 later ]),
            rising-placed key a rest rising.1 apart.1,
          )
    ] refl

-- ---- the values in order

-- the list in order has the same values
pub same-ordered : {X : Type 0} (key : X → Key) (xs : List X) → HaveSame (ordered key xs) xs
same-ordered key [] x = ((λ h. h), (λ h. h))
same-ordered key (a ∷ rest) x =
    let before = same-ordered key rest x in
    let put = has-placed key a (ordered key rest) x in (
      (λ h. elim (put.0 h) [ inl same ↦ inl same | inr later ↦ inr (before.0 later) ]),
      (λ h. put.1 (elim h [ inl same ↦ inl same | inr later ↦ inr (before.1 later) ])),
    )

-- what holds of each value holds of each in order
all-ordered : {X : Type 0} (P : X → Type 0) (key : X → Key) (xs : List X) → AllByRecursion P xs → AllByRecursion P (ordered key xs)
all-ordered P key xs all = all_from P (ordered key xs) (λ x h. all_at P xs x all ((same-ordered key xs x).0 h))

-- the list in order rises
pub rising-ordered : {X : Type 0} (key : X → Key) (xs : List X) → AreDistinct key xs → IsRising key (ordered key xs)
rising-ordered key [] distinct = tt
rising-ordered key (a ∷ rest) distinct = rising-placed key a (ordered key rest) (rising-ordered key rest distinct.1) (all-ordered (AreApart key a) key rest distinct.0)

-- values stay distinct where one that is apart from all others is put at its place
distinct-placed : {X : Type 0} (key : X → Key) (a : X) (xs : List X) → AreDistinct key xs → AllByRecursion (AreApart key a) xs → AreDistinct key (placed key a xs)
distinct-placed key a [] distinct apart = (tt, tt)
distinct-placed {X = X} key a (b ∷ rest) distinct apart =
    elim (is_before (key a) (key b)) as (λ t. AreDistinct key (cond t (a ∷ b ∷ rest) (b ∷ placed key a rest))) [
      | true ↦ (apart, distinct)
      | false ↦
          let P : X → Type 0 = AreApart key b in
          let turned : P a = λ same. apart.0 (sym same.0, sym same.1) in (
            all_from P (placed key a rest) (λ x h. elim ((has-placed key a rest x).0 h) [ inl same ↦ subst P (sym same) turned | inr later ↦ all_at P rest x distinct.0 later ]),
            distinct-placed key a rest distinct.1 apart.1,
          )
    ]

-- the list in order is as distinct
pub distinct-ordered : {X : Type 0} (key : X → Key) (xs : List X) → AreDistinct key xs → AreDistinct key (ordered key xs)
distinct-ordered key [] distinct = tt
distinct-ordered key (a ∷ rest) distinct = distinct-placed key a (ordered key rest) (distinct-ordered key rest distinct.1) (all-ordered (AreApart key a) key rest distinct.0)

-- what a rising list has after its first value isn't that value
past_first : {X : Type 0} (key : X → Key) (a : X) (rest : List X) → IsRising key (a ∷ rest) → Has rest a → ⊥
past_first {X = X} key a rest rising later = not_before_itself (key a) (all_at (ComesBefore key a) rest a rising.0 later)

-- two rising lists with the same values have the same first value
same_first : {X : Type 0} (key : X → Key) (a b : X) (xs ys : List X) → IsRising key (a ∷ xs) → IsRising key (b ∷ ys) → HaveSame (a ∷ xs) (b ∷ ys) → a ≡ b
same_first key a b xs ys ra rb same =
    elim ((same a).0 (inl refl)) [
      | inl here ↦ here
      | inr later ↦ elim ((same b).1 (inl refl)) [
        | inl here ↦ sym here
        | inr past ↦ absurd (not_both (key a) (key b) (all_at (ComesBefore key a) xs b ra.0 past) (all_at (ComesBefore key b) ys a rb.0 later))
      ]
    ]

-- what one of two lists with one first value has after it the other has after it
same_rest : {X : Type 0} (key : X → Key) (a b : X) (xs ys : List X) (x : X) → a ≡ b → IsRising key (a ∷ xs) → (Has (a ∷ xs) x → Has (b ∷ ys) x) → Has xs x → Has ys x
same_rest {X = X} key a b xs ys x equal rising leads has =
    elim (leads (inr has)) [
      | inl here ↦ absurd (past_first key a xs rising (subst (λ (y : X). Has xs y) (here ∙ sym equal) has))
      | inr later ↦ later
    ]

-- two rising lists with the same values are one list
pub rising_is_one : {X : Type 0} (key : X → Key) (xs ys : List X) → IsRising key xs → IsRising key ys → HaveSame xs ys → xs ≡ ys
rising_is_one key [] [] rx ry same = refl
rising_is_one key [] (b ∷ ys) rx ry same = absurd ((same b).1 (inl refl))
rising_is_one key (a ∷ xs) [] rx ry same = absurd ((same a).0 (inl refl))
rising_is_one {X = X} key (a ∷ xs) (b ∷ ys) rx ry same =
    let first : a ≡ b = same_first key a b xs ys rx ry same in
    let rest : xs ≡ ys = rising_is_one key xs ys rx.1 ry.1 (λ x. (same_rest key a b xs ys x first rx (same x).0, same_rest key b a ys xs x (sym first) ry (same x).1)) in
    ap (λ (z : X). z ∷ xs) first ∙ ap (λ (zs : List X). b ∷ zs) rest

-- a rising list with the same values is the list in order
pub ordered_is_only : {X : Type 0} (key : X → Key) (xs ys : List X) → AreDistinct key ys → IsRising key xs → HaveSame xs ys → xs ≡ ordered key ys
ordered_is_only key xs ys distinct rising same =
    rising_is_one key xs (ordered key ys) rising (rising-ordered key ys distinct)
    (λ x. ((λ h. (same-ordered key ys x).1 ((same x).0 h)), (λ h. (same x).1 ((same-ordered key ys x).0 h))))

-- what stands before all others is the first
pub ordered_first : {X : Type 0} (key : X → Key) (x : X) (xs others : List X) → AreDistinct key xs → AreDistinct key others → HaveSame xs (x ∷ others)
    → AllByRecursion (ComesBefore key x) others → ordered key xs ≡ x ∷ ordered key others
ordered_first {X = X} key x xs others dx others_distinct same before =
    let P : X → Type 0 = ComesBefore key x in
    sym (ordered_is_only key (x ∷ ordered key others) xs dx
    (all_from P (ordered key others) (λ y h. all_at P others y before ((same-ordered key others y).0 h)), rising-ordered key others others_distinct)
    (λ y. (
      (λ h. (same y).1 (elim h [ inl here ↦ inl here | inr later ↦ inr ((same-ordered key others y).0 later) ])),
      (λ h. elim ((same y).0 h) [ inl here ↦ inl here | inr later ↦ inr ((same-ordered key others y).1 later) ]),
    )))

-- what rises is in order
pub ordered_kept : {X : Type 0} (key : X → Key) (xs : List X) → AreDistinct key xs → IsRising key xs → ordered key xs ≡ xs
ordered_kept key xs distinct rising = sym (ordered_is_only key xs xs distinct rising (λ x. ((λ h. h), (λ h. h))))

-- ---- a part

-- what holds of each value holds of each value of a part
pub all-filter : {X : Type 0} (P : X → Type 0) (test : X → Bool) (xs : List X) → AllByRecursion P xs → AllByRecursion P (filter test xs)
all-filter P test [] all = tt
all-filter P test (a ∷ rest) all =
    let rest_all = all-filter P test rest all.1 in
    elim (test a) as (λ t. AllByRecursion P (cond t (a ∷ filter test rest) (filter test rest))) [ true ↦ (all.0, rest_all) | false ↦ rest_all ]

-- a relation between each value and each later one holds in a part
pub pairs-filter : {X : Type 0} (R : X → X → Type 0) (test : X → Bool) (xs : List X) → EachPair R xs → EachPair R (filter test xs)
pairs-filter R test [] pairs = tt
pairs-filter R test (a ∷ rest) pairs =
    let later = pairs-filter R test rest pairs.1 in
    let here = all-filter (R a) test rest pairs.0 in
    elim (test a) as (λ t. EachPair R (cond t (a ∷ filter test rest) (filter test rest))) [ true ↦ (here, later) | false ↦ later ]

-- a part has the values that pass
pub has-filter : {X : Type 0} (test : X → Bool) (xs : List X) (x : X) → (Has (filter test xs) x → Has xs x × IsTrue (test x)) × (Has xs x → IsTrue (test x) → Has (filter test xs) x)
has-filter test [] x = ((λ h. absurd h), (λ h p. absurd h))
has-filter {X = X} test (a ∷ rest) x =
    let before = has-filter test rest x in
    elim (test a) as (λ t. test a ≡ t → (Has (cond t (a ∷ filter test rest) (filter test rest)) x → Has (a ∷ rest) x × IsTrue (test x)) × (Has (a ∷ rest) x → IsTrue (test x) → Has (cond t (a ∷ filter test rest) (filter test rest)) x)) [
      | true ↦ λ passes. (
        (λ h. elim h [ inl here ↦ (inl here, ap test here ∙ passes) | inr later ↦ (inr (before.0 later).0, (before.0 later).1) ]),
        (λ h p. elim h [ inl here ↦ inl here | inr later ↦ inr (before.1 later p) ]),
      )
      | false ↦ λ fails. (
        (λ h. (inr (before.0 h).0, (before.0 h).1)),
        (λ h p. elim h [ inl here ↦ absurd (false≢true (sym fails ∙ sym (ap test here) ∙ p)) | inr later ↦ before.1 later p ]),
      )
    ] refl

-- a part of what is in order is the part in order
pub filter-ordered : {X : Type 0} (key : X → Key) (test : X → Bool) (xs : List X) → AreDistinct key xs → filter test (ordered key xs) ≡ ordered key (filter test xs)
filter-ordered {X = X} key test xs distinct =
    ordered_is_only key (filter test (ordered key xs)) (filter test xs)
    (pairs-filter (AreApart key) test xs distinct)
    (pairs-filter (ComesBefore key) test (ordered key xs) (rising-ordered key xs distinct))
    (λ x. (
      (λ h. let both = (has-filter test (ordered key xs) x).0 h in (has-filter test xs x).1 ((same-ordered key xs x).0 both.0) both.1),
      (λ h. let both = (has-filter test xs x).0 h in (has-filter test (ordered key xs) x).1 ((same-ordered key xs x).1 both.0) both.1),
    ))
