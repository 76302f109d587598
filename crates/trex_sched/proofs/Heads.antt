-- The heads of some lists: how they change as a list loses its first packet, gets one, or comes anew.
use Rattle.std.proofs.Common.{◌≡◌, ◌≢◌, ℕ, zero, suc, ◌+◌, ◌<◌, ◌==◌, ◌⊎◌, true, false, cond, List, [], ◌∷◌, ◌++◌, drop, length, get_or, Option, None, Some, refl, sym, ap, ◌∙◌, subst, set, arith, inl, inr, IsTrue}
use Rattle.std.proofs.Permutation.{every_shuffled}
use Rattle.std.proofs.lemmas.Bool.Decides.{nat_tests}
use Rattle.std.proofs.lemmas.List.Sorted.{IsPermutation-cons, IsPermutation-swap, IsPermutation-trans, sum_by-IsPermutation}
use Rattle.std.proofs.lemmas.List.Sums.{sum_by-cons}
use Rattle.std.specs.BinaryHeap.{IsUpperBound, lt_by_cmp}
use Rattle.std.specs.List.{AllByRecursion, slice_get}
use Rattle.std.specs.List.Sorted.{IsPermutation}
use Rattle.std.specs.Ordering.{is_lt, is_some_and, nat_cmp, ordering_then, partial_ordering_then}
use Rattle.std.specs.declared.cmp.Ordering.{Ordering}
use Rattle.std.specs.declared.cmp.Ordering.TheVariants.{Less, Equal, Greater}
use Rattle.std.specs.declared.cmp.Reverse.{Reverse}
use Rattle.trex_merge.specs.Order.{BeginsNotBefore, is_before}
use Rattle.trex_merge.proofs.FeedLemmas.{slice_get-set_other}
use Rattle.trex_merge.proofs.KeyLemmas.{not_before_itself}
use Rattle.trex_sched.specs.declared.head.Head.{Head}
use Rattle.trex_sched.specs.declared.slot.Slot.{Slot}
use Rattle.trex_sched.specs.Entries.{key_of}
use Rattle.trex_sched.specs.Heads.{AreHeads, compare_heads, head_of, heads_at, HaveOwnStreams, IsFirst, IsHeadIn, least_first, with_first}
use Rattle.trex_sched.proofs.Pairs.{all_more}
use Rattle.trex_sched.proofs.RunLemmas.{all_get}

-- ---- places of a list

-- the place of a write has what was written
pub get-set_same : {X : Type 0} (xs : List X) (p : ℕ) (x y : X) → slice_get xs p ≡ Some x → slice_get (set xs p y) p ≡ Some y
get-set_same [] p x y there = absurd cc
get-set_same (a ∷ xs) zero x y there = refl
get-set_same (a ∷ xs) (suc p) x y there = get-set_same xs p x y there

-- of two writes to a place the second stays
pub set-twice : {X : Type 0} (xs : List X) (p : ℕ) (x y : X) → set (set xs p x) p y ≡ set xs p y
set-twice [] p x y = refl
set-twice (a ∷ xs) zero x y = refl
set-twice {X = X} (a ∷ xs) (suc p) x y = ap (λ (l : List X). a ∷ l) (set-twice xs p x y)

-- what a list has at a place it has there in a longer one
pub get-append : {X : Type 0} (xs ys : List X) (p : ℕ) (x : X) → slice_get xs p ≡ Some x → slice_get (xs ++ ys) p ≡ Some x
get-append [] ys p x there = absurd cc
get-append (a ∷ xs) ys zero x there = there
get-append (a ∷ xs) ys (suc p) x there = get-append xs ys p x there

-- at a place of a list with one element more there is an element of the list, or the one more
pub get-push : {X : Type 0} (xs : List X) (y : X) (p : ℕ) (x : X) → slice_get (xs ++ y ∷ []) p ≡ Some x → (slice_get xs p ≡ Some x) ⊎ (x ≡ y)
get-push [] y zero x there = inr cc
get-push [] y (suc p) x there = absurd cc
get-push (a ∷ xs) y zero x there = inl there
get-push (a ∷ xs) y (suc p) x there = get-push xs y p x there

-- the one more stands at the end
pub get-last : {X : Type 0} (xs : List X) (y : X) → slice_get (xs ++ y ∷ []) (length xs) ≡ Some y
get-last [] y = refl
get-last (a ∷ xs) y = get-last xs y

pub set-last : {X : Type 0} (xs : List X) (x y : X) → set (xs ++ x ∷ []) (length xs) y ≡ xs ++ y ∷ []
set-last [] x y = refl
set-last {X = X} (a ∷ xs) x y = ap (λ (l : List X). a ∷ l) (set-last xs x y)

-- what holds at each place holds of each element
pub all_places : {X : Type 0} (P : X → Type 0) (xs : List X) → ((p : ℕ) (x : X) → slice_get xs p ≡ Some x → P x) → AllByRecursion P xs
all_places P [] each = tt
all_places P (a ∷ xs) each = (each zero a refl, all_places P xs (λ p x there. each (suc p) x there))

-- ---- lists whose packets have streams of their own

-- packets of one stream stand in one list
pub own_place : (lists : List (List Slot)) (p q : ℕ) (a b : Slot) (xs ys : List Slot) → HaveOwnStreams lists
    → slice_get lists p ≡ Some (a ∷ xs) → slice_get lists q ≡ Some (b ∷ ys) → a.stream ≡ b.stream → p ≡ q
own_place [] p q a b xs ys own at at' same = absurd cc
own_place (list ∷ lists) zero zero a b xs ys own at at' same = refl
own_place (list ∷ lists) zero (suc q) a b xs ys own at at' same =
    let is : list ≡ a ∷ xs = cc in
    let across = all_get (λ zs. AllByRecursion (λ x. AllByRecursion (λ y. ¬ (x.stream ≡ y.stream)) zs) list) lists q (b ∷ ys) own.0 at' in
    absurd ((subst (AllByRecursion (λ x. AllByRecursion (λ y. ¬ (x.stream ≡ y.stream)) (b ∷ ys))) is across).0.0 same)
own_place (list ∷ lists) (suc p) zero a b xs ys own at at' same =
    let is : list ≡ b ∷ ys = cc in
    let across = all_get (λ zs. AllByRecursion (λ x. AllByRecursion (λ y. ¬ (x.stream ≡ y.stream)) zs) list) lists p (a ∷ xs) own.0 at in
    absurd ((subst (AllByRecursion (λ x. AllByRecursion (λ y. ¬ (x.stream ≡ y.stream)) (a ∷ xs))) is across).0.0 (sym same))
own_place (list ∷ lists) (suc p) (suc q) a b xs ys own at at' same = ap suc (own_place lists p q a b xs ys own.1 at at' same)

-- what holds of each element and of what is written holds after a write
all_set : {X : Type 0} (P : X → Type 0) (xs : List X) (p : ℕ) (y : X) → AllByRecursion P xs → P y → AllByRecursion P (set xs p y)
all_set P [] p y all new = tt
all_set P (x ∷ xs) zero y all new = (new, all.1)
all_set P (x ∷ xs) (suc p) y all new = (all.0, all_set P xs p y all.1 new)

-- they still have them after one list's first packet goes
pub own_rest : (lists : List (List Slot)) (p : ℕ) (a : Slot) (rest : List Slot) → slice_get lists p ≡ Some (a ∷ rest) → HaveOwnStreams lists
    → HaveOwnStreams (set lists p rest)
own_rest [] p a rest at own = tt
own_rest (list ∷ lists) zero a rest at own =
    let is : list ≡ a ∷ rest = cc in (
      all_more (λ ys. AllByRecursion (λ x. AllByRecursion (λ y. ¬ (x.stream ≡ y.stream)) ys) list)
          (λ ys. AllByRecursion (λ x. AllByRecursion (λ y. ¬ (x.stream ≡ y.stream)) ys) rest) lists
          (λ ys all. (subst (AllByRecursion (λ x. AllByRecursion (λ y. ¬ (x.stream ≡ y.stream)) ys)) is all).1) own.0,
      own.1,
    )
own_rest (list ∷ lists) (suc p) a rest at own =
    let Across = λ (ys : List Slot). AllByRecursion (λ x. AllByRecursion (λ y. ¬ (x.stream ≡ y.stream)) ys) list in
    let whole = all_get Across lists p (a ∷ rest) own.0 at in (
      all_set Across lists p rest own.0
          (all_more (λ x. AllByRecursion (λ y. ¬ (x.stream ≡ y.stream)) (a ∷ rest)) (λ x. AllByRecursion (λ y. ¬ (x.stream ≡ y.stream)) rest) list (λ x all. all.1) whole),
      own_rest lists p a rest at own.1,
    )

-- ---- how many heads stand for a place

-- one where a head is that of the place
abbrev pub stands : ℕ → Reverse Head → ℕ
stands place head = cond (head.0.place == place) 1 0

pub heads_at-cons : (place : ℕ) (head : Reverse Head) (heads : List (Reverse Head)) → heads_at place (head ∷ heads) ≡ stands place head + heads_at place heads
heads_at-cons place head heads = sum_by-cons (stands place) head heads

pub stands_here : (place : ℕ) (head : Reverse Head) → head.0.place ≡ place → stands place head ≡ 1
stands_here place head here = grind (arith, nat_tests)

pub stands_elsewhere : (place : ℕ) (head : Reverse Head) → head.0.place ≢ place → stands place head ≡ 0
stands_elsewhere place head apart = grind (arith, nat_tests)

-- a head is that of the place, or of another
here_or_not : (a b : ℕ) → (a ≡ b) ⊎ (a ≢ b)
here_or_not a b = elim (a == b) as (λ t. (a == b) ≡ t → (a ≡ b) ⊎ (a ≢ b)) [
  | true ↦ λ same. inl (grind (arith, nat_tests))
  | false ↦ λ other. inr (λ e. grind (arith, nat_tests))
] refl

-- where a head stands for a place, one of the heads is that of the place
pub found : (P : Reverse Head → Type 0) (place : ℕ) (heads : List (Reverse Head)) → AllByRecursion P heads → 0 < heads_at place heads
    → (head : Reverse Head) × (head.0.place ≡ place) × P head
found P place [] all some = absurd (omega arith)
found P place (a ∷ heads) all some =
    elim (here_or_not a.0.place place) [
      | inl here ↦ (a, here, all.0)
      | inr other ↦
          let count = heads_at-cons place a heads in
          let none = stands_elsewhere place a other in
          found P place heads all.1 (omega arith)
    ]

-- ---- heads in another order

pub heads_shuffled : (lists : List (List Slot)) (xs ys : List (Reverse Head)) → IsPermutation xs ys → AreHeads lists xs → AreHeads lists ys
heads_shuffled lists xs ys moved known =
    let count = λ (place : ℕ). sum_by-IsPermutation (stands place) xs ys moved in
    record {
      each = every_shuffled (λ head. IsHeadIn lists head.0) xs ys moved known.each;
      once = λ place. let same = count place in let few = known.once place in omega arith;
      all = λ place slot rest there. let same = count place in let some = known.all place slot rest there in omega arith;
    }

-- ---- a head goes

-- a head of another place stays one where a list changes
head-set : (lists : List (List Slot)) (place : ℕ) (list : List Slot) (head : Reverse Head) → head.0.place ≢ place
    → IsHeadIn lists head.0 → IsHeadIn (set lists place list) head.0
head-set lists place list head apart mine =
    record { slot = mine.slot; rest = mine.rest; there = slice_get-set_other lists place head.0.place list apart ∙ mine.there; is = mine.is }

-- so do all, where none stands for the place
heads-set : (lists : List (List Slot)) (place : ℕ) (list : List Slot) (heads : List (Reverse Head)) → heads_at place heads ≡ 0
    → AllByRecursion (λ head. IsHeadIn lists head.0) heads → AllByRecursion (λ head. IsHeadIn (set lists place list) head.0) heads
heads-set lists place list [] none all = tt
heads-set lists place list (a ∷ heads) none all =
    let count = heads_at-cons place a heads in
    let apart : a.0.place ≢ place = λ here. let one = stands_here place a here in omega arith in
    (head-set lists place list a apart all.0, heads-set lists place list heads (omega arith) all.1)

pub head_goes : (lists : List (List Slot)) (head : Reverse Head) (heads : List (Reverse Head)) → AreHeads lists (head ∷ heads)
    → AreHeads (set lists head.0.place []) heads
head_goes lists head heads known =
    let place = head.0.place in
    let here = stands_here place head refl in
    let count = λ (q : ℕ). heads_at-cons q head heads in
    let none : heads_at place heads ≡ 0 = let c = count place in let few = known.once place in omega arith in
    record {
      each = heads-set lists place [] heads none known.each.1;
      once = λ q. let c = count q in let few = known.once q in omega arith;
      all = λ q slot rest there.
          elim (here_or_not q place) [
            | inl same ↦ absurd (empty_begins lists q slot rest (subst (λ p. slice_get (set lists p []) q ≡ Some (slot ∷ rest)) (sym same) there))
            | inr apart ↦
                let c = count q in
                let zero_here = stands_elsewhere q head (λ e. apart (sym e)) in
                let some = known.all q slot rest (sym (slice_get-set_other lists place q [] apart) ∙ there) in
                omega arith
          ];
    }
  where
    empty_begins : (lists : List (List Slot)) (q : ℕ) (slot : Slot) (rest : List Slot) → slice_get (set lists q []) q ≡ Some (slot ∷ rest) → ⊥
    empty_begins [] q slot rest there = cc
    empty_begins (a ∷ lists) zero slot rest there = cc
    empty_begins (a ∷ lists) (suc q) slot rest there = empty_begins lists q slot rest there

-- ---- a head comes

-- no head stands for a list without a packet
none_for_empty : (lists : List (List Slot)) (heads : List (Reverse Head)) (place : ℕ) → slice_get lists place ≡ Some [] → AreHeads lists heads
    → heads_at place heads ≡ 0
none_for_empty lists heads place empty known =
    elim (here_or_not (heads_at place heads) 0) [
      | inl none ↦ none
      | inr some ↦
          let one = found (λ head. IsHeadIn lists head.0) place heads known.each (omega arith) in
          let there = one.2.there in
          let same : slice_get lists one.0.0.place ≡ slice_get lists place = ap (slice_get lists) one.1 in
          absurd cc
    ]

pub head_comes : (lists : List (List Slot)) (heads : List (Reverse Head)) (place : ℕ) (slot : Slot) (rest : List Slot) → slice_get lists place ≡ Some []
    → AreHeads lists heads → AreHeads (set lists place (slot ∷ rest)) (record { 0 = head_of slot place } ∷ heads)
head_comes lists heads place slot rest empty known =
    let head : Reverse Head = record { 0 = head_of slot place } in
    let none = none_for_empty lists heads place empty known in
    let here = stands_here place head refl in
    let count = λ (q : ℕ). heads_at-cons q head heads in
    record {
      each = (
        record { slot = slot; rest = rest; there = get-set_same lists place [] (slot ∷ rest) empty; is = refl },
        heads-set lists place (slot ∷ rest) heads none known.each,
      );
      once = λ q.
          let c = count q in
          elim (here_or_not q place) [
            | inl same ↦ let n = subst (λ p. heads_at p heads ≡ 0) (sym same) none in let h = subst (λ p. stands p head ≡ 1) (sym same) here in omega arith
            | inr apart ↦ let zero_here = stands_elsewhere q head (λ e. apart (sym e)) in let few = known.once q in omega arith
          ];
      all = λ q other more there.
          let c = count q in
          elim (here_or_not q place) [
            | inl same ↦ let h = subst (λ p. stands p head ≡ 1) (sym same) here in omega arith
            | inr apart ↦ let some = known.all q other more (sym (slice_get-set_other lists place q (slot ∷ rest) apart) ∙ there) in omega arith
          ];
    }

-- ---- a list comes

pub list_comes : (lists : List (List Slot)) (heads : List (Reverse Head)) → AreHeads lists heads → AreHeads (lists ++ [] ∷ []) heads
list_comes lists heads known = record {
  each = longer heads known.each;
  once = known.once;
  all = λ q slot rest there. elim (get-push lists [] q (slot ∷ rest) there) [ inl mine ↦ known.all q slot rest mine | inr empty ↦ absurd cc ];
}
  where
    longer : (heads : List (Reverse Head)) → AllByRecursion (λ head. IsHeadIn lists head.0) heads → AllByRecursion (λ head. IsHeadIn (lists ++ [] ∷ []) head.0) heads
    longer [] all = tt
    longer (a ∷ heads) all = (record { slot = all.0.slot; rest = all.0.rest; there = get-append lists ([] ∷ []) a.0.place (all.0.slot ∷ all.0.rest) all.0.there; is = all.0.is }, longer heads all.1)

-- ---- no head, and the least one

pub all_empty : (lists : List (List Slot)) → AreHeads lists [] → AllByRecursion (λ list. list ≡ []) lists
all_empty lists known = all_places (λ list. list ≡ []) lists (λ p list there. is_empty p list there)
  where
    is_empty : (p : ℕ) (list : List Slot) → slice_get lists p ≡ Some list → list ≡ []
    is_empty p [] there = refl
    is_empty p (slot ∷ rest) there = let some = known.all p slot rest there in absurd (omega arith)

-- of two packets with different streams the one that comes before has the less head
before_is_less : (a b : Slot) (p q : ℕ) → ¬ (a.stream ≡ b.stream) → IsTrue (is_before (key_of a) (key_of b))
    → lt_by_cmp compare_heads (head_of a p) (head_of b q) ≡ true
before_is_less a b p q apart before = grind (arith, nat_tests)

pub least_head : (lists : List (List Slot)) (head : Reverse Head) (heads : List (Reverse Head)) (slot : Slot) (rest : List Slot) (place : ℕ)
    → head.0 ≡ head_of slot place → slice_get lists place ≡ Some (slot ∷ rest) → HaveOwnStreams lists
    → AreHeads lists heads → IsUpperBound least_first head heads → AllByRecursion (BeginsNotBefore key_of slot) lists
least_head lists head heads slot rest place is at own known above = all_places (BeginsNotBefore key_of slot) lists (λ p list there. not_before p list there)
  where
    its_own : (p : ℕ) (first : Slot) (others : List Slot) → p ≡ place → slice_get lists p ≡ Some (first ∷ others)
        → IsTrue (is_before (key_of first) (key_of slot)) → ⊥
    its_own p first others here there before =
        let same : slice_get lists p ≡ slice_get lists place = ap (slice_get lists) here in
        let first_is : first ≡ slot = cc in
        not_before_itself (key_of slot) (subst (λ s. IsTrue (is_before (key_of s) (key_of slot))) first_is before)

    both : (heads : List (Reverse Head)) → AllByRecursion (λ h. IsHeadIn lists h.0) heads → IsUpperBound least_first head heads
        → AllByRecursion (λ h. IsHeadIn lists h.0 × (lt_by_cmp least_first head h ≡ false)) heads
    both [] all above = tt
    both (a ∷ heads) all above = ((all.0, above.0), both heads all.1 above.1)

    not_before : (p : ℕ) (list : List Slot) → slice_get lists p ≡ Some list → BeginsNotBefore key_of slot list
    not_before p [] there = tt
    not_before p (first ∷ others) there = λ before. elim (here_or_not p place) [
      | inl here ↦ its_own p first others here there before
      | inr apart ↦
          let one = found (λ h. IsHeadIn lists h.0 × (lt_by_cmp least_first head h ≡ false)) p heads (both heads known.each above) (known.all p first others there) in
          let mine = one.2.0 in
          let same : slice_get lists one.0.0.place ≡ slice_get lists p = ap (slice_get lists) one.1 in
          let at_one = mine.there in
          let first_is : mine.slot ≡ first = cc in
          let differ : ¬ (first.stream ≡ slot.stream) = λ e. apart (own_place lists p place first slot others rest own there at e) in
          let less = before_is_less first slot p place differ before in
          let its : one.0.0 ≡ head_of first p = cc in
          let not_less = one.2.1 in
          absurd cc
    ]

-- ---- what the walks do

-- after a write a place within the list has what was written
get-set_within : {X : Type 0} (xs : List X) (p : ℕ) (y : X) → p < length xs → slice_get (set xs p y) p ≡ Some y
get-set_within [] p y within = absurd (omega arith)
get-set_within (a ∷ xs) zero y within = refl
get-set_within (a ∷ xs) (suc p) y within = get-set_within xs p y (omega arith)

-- the head of a list that changed is put back
pub put_back_known : (lists : List (List Slot)) (heads more : List (Reverse Head)) (place : ℕ) (list : List Slot) (next : Slot) → place < length lists
    → AreHeads (set lists place []) heads → slice_get list 0 ≡ Some next → IsPermutation (record { 0 = head_of next place } ∷ heads) more
    → AreHeads (set lists place list) more
put_back_known lists heads more place [] next within known begins moved = absurd cc
put_back_known lists heads more place (slot ∷ rest) next within known begins moved =
    let same : next ≡ slot = cc in
    let step = head_comes (set lists place []) heads place slot rest (get-set_within lists place [] within) known in
    let moved_slot = subst (λ s. IsPermutation (record { 0 = head_of s place } ∷ heads) more) same moved in
    heads_shuffled (set lists place (slot ∷ rest)) (record { 0 = head_of slot place } ∷ heads) more moved_slot
    (subst (λ l. AreHeads l (record { 0 = head_of slot place } ∷ heads)) (set-twice lists place [] (slot ∷ rest)) step)

-- a list without a packet needs no head
pub no_head_known : (lists : List (List Slot)) (heads : List (Reverse Head)) (place : ℕ) (list : List Slot) → AreHeads (set lists place []) heads
    → slice_get list 0 ≡ None → AreHeads (set lists place list) heads
no_head_known lists heads place [] known empty = known
no_head_known lists heads place (slot ∷ rest) known empty = absurd cc

-- one more list, with its head
pub list_added : (lists : List (List Slot)) (heads more : List (Reverse Head)) (list : List Slot) (slot : Slot) → AreHeads lists heads
    → slice_get list 0 ≡ Some slot → IsPermutation (record { 0 = head_of slot (length lists) } ∷ heads) more → AreHeads (lists ++ list ∷ []) more
list_added lists heads more [] slot known begins moved = absurd cc
list_added lists heads more (first ∷ rest) slot known begins moved =
    let same : slot ≡ first = cc in
    let place = length lists in
    let step = head_comes (lists ++ [] ∷ []) heads place first rest (get-last lists []) (list_comes lists heads known) in
    let moved_first = subst (λ s. IsPermutation (record { 0 = head_of s place } ∷ heads) more) same moved in
    heads_shuffled (lists ++ (first ∷ rest) ∷ []) (record { 0 = head_of first place } ∷ heads) more moved_first
    (subst (λ l. AreHeads l (record { 0 = head_of first place } ∷ heads)) (set-last lists [] (first ∷ rest)) step)

pub empty_added : (lists : List (List Slot)) (heads : List (Reverse Head)) (list : List Slot) → AreHeads lists heads → slice_get list 0 ≡ None
    → AreHeads (lists ++ list ∷ []) heads
empty_added lists heads [] known empty = list_comes lists heads known
empty_added lists heads (slot ∷ rest) known empty = absurd cc

-- ---- the least head, and what it stands for

-- Of lists whose heads are these, the first in order, and what comes after it.
pub record BeginsAt (lists : List (List Slot)) (place : ℕ) : Type 0 where
  pub slot : Slot
  pub rest : List Slot
  pub there : slice_get lists place ≡ Some (slot ∷ rest)
  pub least : AllByRecursion (BeginsNotBefore key_of slot) lists

-- a head isn't less than itself
not_less_itself : (head : Reverse Head) → lt_by_cmp least_first head head ≡ false
not_less_itself head = grind (arith, nat_tests)

pub begins_at : (lists : List (List Slot)) (head : Reverse Head) (others : List (Reverse Head)) → HaveOwnStreams lists
    → AreHeads lists (head ∷ others) → IsUpperBound least_first head others → BeginsAt lists head.0.place
begins_at lists head others own known above =
    let mine = known.each.0 in record {
      slot = mine.slot;
      rest = mine.rest;
      there = mine.there;
      least = least_head lists head (head ∷ others) mine.slot mine.rest head.0.place mine.is mine.there own known (not_less_itself head, above);
    }

-- ---- the first head and the others

-- where there is no first head, there is no packet
pub none_first : (lists : List (List Slot)) (first : Option Head) (others : List (Reverse Head)) → first ≡ None → AreHeads lists (with_first first others)
    → IsFirst first others → AllByRecursion (λ list. list ≡ []) lists
none_first lists None others is known least = all_empty lists (subst (AreHeads lists) least known)
none_first lists (Some head) others is known least = absurd cc

-- the first head stands for the first packet in order
pub some_first : (lists : List (List Slot)) (first : Option Head) (others : List (Reverse Head)) (head : Head) → first ≡ Some head
    → HaveOwnStreams lists → AreHeads lists (with_first first others) → IsFirst first others → BeginsAt lists head.place
some_first lists None others head is own known least = absurd cc
some_first lists (Some first) others head is own known least =
    let same : first ≡ head = cc in
    subst (λ (h : Head). BeginsAt lists h.place) same (begins_at lists (record { 0 = first }) others own known least)

-- the others stand for the other lists
pub first_goes : (lists : List (List Slot)) (first : Option Head) (others : List (Reverse Head)) (head : Head) → first ≡ Some head
    → AreHeads lists (with_first first others) → AreHeads (set lists head.place []) others
first_goes lists None others head is known = absurd cc
first_goes lists (Some first) others head is known =
    let same : first ≡ head = cc in
    subst (λ (h : Head). AreHeads (set lists h.place []) others) same (head_goes lists (record { 0 = first }) others known)

-- ---- a head in place of the least one

-- the order of two heads as the code compares them
some_then : (o p : Ordering) (rest : Option Ordering) → rest ≡ Some p → partial_ordering_then (Some o) rest ≡ Some (ordering_then o p)
some_then Less p rest is = refl
some_then Equal p rest is = is
some_then Greater p rest is = refl

pub less_is : (a b : Head)
    → is_some_and is_lt (partial_ordering_then (Some (nat_cmp a.time b.time)) (partial_ordering_then (Some (nat_cmp a.stream b.stream)) (Some (nat_cmp a.place b.place))))
    ≡ lt_by_cmp compare_heads a b
less_is a b = ap (is_some_and is_lt) (some_then (nat_cmp a.time b.time) _ _ (some_then (nat_cmp a.stream b.stream) _ _ refl))

-- of two heads the less one isn't after the other
less_first : (a b : Reverse Head) → lt_by_cmp compare_heads a.0 b.0 ≡ true → lt_by_cmp least_first a b ≡ false
less_first a b less = grind (arith, nat_tests)

-- what isn't before a head isn't before one that isn't after it
not_before_lesser : (a b y : Reverse Head) → lt_by_cmp compare_heads a.0 b.0 ≡ false → lt_by_cmp least_first a y ≡ false → lt_by_cmp least_first b y ≡ false
not_before_lesser a b y not_less above = grind (arith, nat_tests)

-- what stands before the least of some heads stands before all
pub before_least : (least head : Reverse Head) (heads : List (Reverse Head)) → lt_by_cmp compare_heads least.0 head.0 ≡ false
    → IsUpperBound least_first least heads → IsUpperBound least_first head heads
before_least least head [] not_less above = tt
before_least least head (y ∷ heads) not_less above = (not_before_lesser least head y not_less above.0, before_least least head heads not_less above.1)

-- the heads with one more, where it stands in the least one's place
pub replaced_heads : (heads more : List (Reverse Head)) (least head : Reverse Head) → 0 < length heads → least ≡ get_or heads 0 least
    → IsPermutation (head ∷ drop 1 heads) more → IsPermutation (head ∷ heads) (least ∷ more)
replaced_heads [] more least head some is moved = absurd (omega arith)
replaced_heads (x ∷ rest) more least head some is moved =
    subst (λ l. IsPermutation (head ∷ x ∷ rest) (l ∷ more)) (sym is)
    (IsPermutation-trans _ _ _ (IsPermutation-swap (head ∷ x ∷ rest) (x ∷ head ∷ rest) 0 1 (omega arith) (omega arith) refl) (IsPermutation-cons x _ _ moved))

above_rest : (least : Reverse Head) (heads : List (Reverse Head)) → IsUpperBound least_first least heads → IsUpperBound least_first least (drop 1 heads)
above_rest least [] above = tt
above_rest least (x ∷ rest) above = above.1

-- the least head is still least where a greater one stands in its place
pub replaced_least : (heads more : List (Reverse Head)) (least head : Reverse Head) → lt_by_cmp compare_heads least.0 head.0 ≡ true
    → IsUpperBound least_first least heads → IsPermutation (head ∷ drop 1 heads) more → IsUpperBound least_first least more
replaced_least heads more least head less above moved =
    every_shuffled (λ y. lt_by_cmp least_first least y ≡ false) (head ∷ drop 1 heads) more moved (less_first least head less, above_rest least heads above)

-- a list without a length has nothing
pub no_items : {X : Type 0} (xs : List X) → length xs ≡ 0 → xs ≡ []
no_items [] none = refl
no_items (x ∷ xs) none = absurd (omega arith)

-- what holds of each element of a list holds of the one at a place
pub all_at_place : {X : Type 0} (P : X → Type 0) (xs : List X) (place : ℕ) (x : X) → place < length xs → x ≡ get_or xs place x → AllByRecursion P xs → P x
all_at_place P [] place x within is all = absurd (omega arith)
all_at_place P (a ∷ rest) zero x within is all = subst P (sym is) all.0
all_at_place P (a ∷ rest) (suc place) x within is all = all_at_place P rest place x (omega arith) is all.1
