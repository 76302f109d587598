-- The least of the first values of some lists: it may be looked for from the left, and none comes before it.
use Rattle.std.proofs.Common.{◌≡◌, ℕ, zero, suc, ◌+◌, inl, inr, Bool, true, false, cond, Option, None, Some, List, [], ◌∷◌, refl, sym, ◌∙◌, subst, arith, IsTrue}
use Rattle.std.proofs.lemmas.Bool.{false≢true}
use Rattle.std.specs.List.{AllByRecursion, slice_get}
use Rattle.trex_merge.specs.declared.key.Key.{Key}
use Rattle.trex_merge.specs.declared.place.Place.{Place}
use Rattle.trex_merge.specs.Heads.{earlier_of, least_from}
use Rattle.trex_merge.specs.Order.{BeginsNotBefore, is_before}
use Rattle.trex_merge.proofs.KeyLemmas.{before_trans, before_between, not_both}

-- ---- of several places

-- a test that doesn't hold is false
is_false : (t : Bool) → ¬ IsTrue t → t ≡ false
is_false true not_so = absurd (not_so refl)
is_false false not_so = refl

-- of three places it doesn't matter which two are compared first
pub earlier_assoc : (a b c : Option Place) → earlier_of (earlier_of a b) c ≡ earlier_of a (earlier_of b c)
earlier_assoc None b c = refl
earlier_assoc (Some a) None c = refl
earlier_assoc (Some a) (Some b) None =
    elim (is_before b.key a.key) as (λ t. earlier_of (cond t (Some b) (Some a)) None ≡ cond t (Some b) (Some a)) [ true ↦ refl | false ↦ refl ]
earlier_assoc (Some a) (Some b) (Some c) =
    let first : Bool → Option Place = λ t. cond t (Some b) (Some a) in
    let later : Bool → Option Place = λ t. cond t (Some c) (Some b) in
    elim (is_before b.key a.key) as (λ t. is_before b.key a.key ≡ t → earlier_of (first t) (Some c) ≡ earlier_of (Some a) (later (is_before c.key b.key))) [
      | true ↦ λ ba. elim (is_before c.key b.key) as (λ t. is_before c.key b.key ≡ t → later t ≡ earlier_of (Some a) (later t)) [
        | true ↦ λ cb. let ca : is_before c.key a.key ≡ true = before_trans c.key b.key a.key cb ba in rw ca refl
        | false ↦ λ cb. rw ba refl
      ] refl
      | false ↦ λ ba. elim (is_before c.key b.key) as (λ t. is_before c.key b.key ≡ t → earlier_of (Some a) (Some c) ≡ earlier_of (Some a) (later t)) [
        | true ↦ λ cb. refl
        | false ↦ λ cb.
            let ca : is_before c.key a.key ≡ false = is_false (is_before c.key a.key) (λ yes_ca. elim (before_between a.key b.key c.key yes_ca) [
              | inl cb' ↦ false≢true (sym cb ∙ cb')
              | inr ba' ↦ false≢true (sym ba ∙ ba')
            ]) in rw (ca, ba) refl
      ] refl
    ] refl

-- ---- what the least is

-- the first value of a list isn't before a key
abbrev pub NotBefore : {X : Type 0} → (X → Key) → Key → List X → Type 0
NotBefore key k [] = Unit {0}
NotBefore key k (x ∷ rest) = ¬ IsTrue (is_before (key x) k)

-- The least place, where the first list stands at a place: which list it is, its first value, and that no list begins before it.
pub record IsLeastFrom {X : Type 0} (key : X → Key) (from : ℕ) (lists : List (List X)) (place : Place) : Type 0 where
  pub at : ℕ
  pub x : X
  pub rest : List X
  pub stands : place.feed ≡ from + at
  pub there : slice_get lists at ≡ Some (x ∷ rest)
  pub is : place.key ≡ key x
  pub least : AllByRecursion (NotBefore key place.key) lists

-- what isn't before a later key isn't before an earlier one
not_before_earlier : {X : Type 0} (key : X → Key) (early late : Key) (lists : List (List X)) → ¬ IsTrue (is_before late early)
    → AllByRecursion (NotBefore key late) lists
    → AllByRecursion (NotBefore key early) lists
not_before_earlier key early late [] order all = tt
not_before_earlier key early late ([] ∷ lists) order all = (tt, not_before_earlier key early late lists order all.1)
not_before_earlier key early late ((x ∷ rest) ∷ lists) order all = (
  (λ before. elim (before_between early late (key x) before) [ inl known ↦ all.0 known | inr other ↦ order other ]),
  not_before_earlier key early late lists order all.1,
)

-- a list that begins with a value begins no earlier than that
begins_itself : {X : Type 0} (key : X → Key) (x : X) → ¬ IsTrue (is_before (key x) (key x))
begins_itself key x before = not_both (key x) (key x) before before

-- no list has a value where there is no least one
pub least_none : {X : Type 0} (key : X → Key) (from : ℕ) (lists : List (List X)) → least_from key from lists ≡ None → AllByRecursion (λ xs. xs ≡ []) lists
least_none key from [] none = tt
least_none key from ([] ∷ lists) none = (refl, least_none key (from + 1) lists none)
least_none key from ((x ∷ rest) ∷ lists) none = absurd (some_there (record { key = key x; feed = from }) (least_from key (from + 1) lists) none)
  where
    some_there : (one : Place) (other : Option Place) → earlier_of (Some one) other ≡ None → ⊥
    some_there one None none = cc
    some_there one (Some other) none = elim (is_before other.key one.key) as (λ t. cond t (Some other) (Some one) ≡ None → ⊥) [ true ↦ λ e. cc | false ↦ λ e. cc ] none

-- where there is a least place, it is that of a list's first value, and no list begins before it
pub least_is : {X : Type 0} (key : X → Key) (from : ℕ) (lists : List (List X)) (place : Place) → least_from key from lists ≡ Some place → IsLeastFrom key from lists place
least_is key from [] place found = cc
least_is key from ([] ∷ lists) place found =
    let later = least_is key (from + 1) lists place found in
    record { at = suc later.at; x = later.x; rest = later.rest; stands = later.stands ∙ omega arith; there = later.there; is = later.is; least = (tt, later.least) }
least_is {X = X} key from ((x ∷ rest) ∷ lists) place found =
    let mine : Place = record { key = key x; feed = from } in
    elim (least_from key (from + 1) lists) as (λ o. least_from key (from + 1) lists ≡ o → earlier_of (Some mine) o ≡ Some place → IsLeastFrom key from ((x ∷ rest) ∷ lists) place) [
      | None ↦ λ none is_mine.
          first mine x rest is_mine refl refl (none_before (key x) lists (least_none key (from + 1) lists none))
      | Some other ↦ λ there which.
          let later = least_is key (from + 1) lists other there in
          elim (is_before other.key (key x)) as (λ t. is_before other.key (key x) ≡ t → cond t (Some other) (Some mine) ≡ Some place → IsLeastFrom key from ((x ∷ rest) ∷ lists) place) [
            | true ↦ λ before is_other.
                let same : other ≡ place = cc in
                subst (IsLeastFrom key from ((x ∷ rest) ∷ lists)) same (record {
                  at = suc later.at;
                  x = later.x;
                  rest = later.rest;
                  stands = later.stands ∙ omega arith;
                  there = later.there;
                  is = later.is;
                  least = ((λ mine_before. not_both (key x) other.key mine_before before), later.least);
                })
            | false ↦ λ not_before is_mine.
                first mine x rest is_mine refl refl
                (not_before_earlier key (key x) other.key lists (λ before. false≢true (sym not_before ∙ before)) later.least)
          ] refl which
    ] refl found
  where
    none_before : (k : Key) (lists : List (List X)) → AllByRecursion (λ xs. xs ≡ []) lists → AllByRecursion (NotBefore key k) lists
    none_before k [] none = tt
    none_before k (xs ∷ lists) none = (subst (NotBefore key k) (sym none.0) tt, none_before k lists none.1)

    first : (mine : Place) (x : X) (rest : List X) → Some mine ≡ Some place → mine.feed ≡ from → mine.key ≡ key x → AllByRecursion (NotBefore key (key x)) lists
        → IsLeastFrom key from ((x ∷ rest) ∷ lists) place
    first mine x rest is_mine stands is least =
        let same : mine ≡ place = cc in
        subst (IsLeastFrom key from ((x ∷ rest) ∷ lists)) same (record {
          at = zero;
          x = x;
          rest = rest;
          stands = stands ∙ omega arith;
          there = refl;
          is = is;
          least = subst (λ (k : Key). AllByRecursion (NotBefore key k) ((x ∷ rest) ∷ lists)) (sym is) (begins_itself key x, least);
        })

-- the same said of a value with that key
pub begin_not_before : {X : Type 0} (key : X → Key) (x : X) (k : Key) (lists : List (List X)) → k ≡ key x → AllByRecursion (NotBefore key k) lists
    → AllByRecursion (BeginsNotBefore key x) lists
begin_not_before key x k [] same all = tt
begin_not_before key x k ([] ∷ lists) same all = (tt, begin_not_before key x k lists same all.1)
begin_not_before key x k ((y ∷ rest) ∷ lists) same all =
    ((λ before. all.0 (subst (λ (a : Key). IsTrue (is_before (key y) a)) (sym same) before)), begin_not_before key x k lists same all.1)
