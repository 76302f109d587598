-- What gates were told.
use Rattle.std.proofs.Common.{◌≡◌, ℕ, ◌<◌, List, [], ◌∷◌, ◌++◌, length, map, get_or, set, arith, refl, sym, ap, subst, ◌∙◌, Option, None, Some, append_assoc, append-nil, IsPermutation}
use Rattle.std.specs.List.{AllByRecursion}
use Rattle.std.proofs.lemmas.List.{map-append}
use Rattle.std.proofs.lemmas.List.Sorted.{IsPermutation-refl, IsPermutation-trans, IsPermutation-append, IsPermutation-append_comm, IsPermutation-append_left, IsPermutation-append_right, IsPermutation-to_front}
use Rattle.trex_crew.specs.Gates.{HasEntered, LastIs, Tells}
use Rattle.trex_crew.specs.Told.{WasTold, WereTold, Entered}

-- ---- one gate

-- a gate that was entered, and tells, told before
told_before : (old new : Option (List (ℕ × ℕ))) (round core : ℕ) → HasEntered old new round core → Tells new → Tells old
told_before old None round core h t = absurd t
told_before None (Some new) round core h t = absurd h
told_before (Some old) (Some new) round core h t = tt

-- after it was entered, the entry is the last
pub last_is : (old new : Option (List (ℕ × ℕ))) (round core : ℕ) → HasEntered old new round core → LastIs new round core
last_is old None round core h = tt
last_is None (Some new) round core h = absurd h
last_is (Some old) (Some new) round core h = (old, h)

-- what was added in two steps
told_on : (old mid new : Option (List (ℕ × ℕ))) (one other : List (ℕ × ℕ)) → WasTold old mid one → WasTold mid new other → WasTold old new (one ++ other)
told_on None mid new one other was then = absurd was
told_on (Some old) None new one other was then = absurd was
told_on (Some old) (Some mid) None one other was then = absurd then
told_on (Some old) (Some mid) (Some new) one other was then = then ∙ ap (λ l. l ++ other) was ∙ append_assoc old one other

-- an entry was added
told_entry : (old new : Option (List (ℕ × ℕ))) (round core : ℕ) → HasEntered old new round core → Tells new → WasTold old new ((round, core) ∷ [])
told_entry old None round core h t = absurd t
told_entry None (Some new) round core h t = absurd h
told_entry (Some old) (Some new) round core h t = h

-- nothing was added
told_none : (entries : Option (List (ℕ × ℕ))) → Tells entries → WasTold entries entries []
told_none None t = absurd t
told_none (Some entries) t = sym (append-nil entries)

module _ {G : Type 0} (entries : G → Option (List (ℕ × ℕ))) where
  told_one : (a b : G) (told : List (ℕ × ℕ)) → WasTold (entries a) (entries b) told → WereTold entries (a ∷ []) (b ∷ []) told
  told_one a b told was = (told, [], was, refl, sym (append-nil told))

  one_told : (a b : G) (told : List (ℕ × ℕ)) → WereTold entries (a ∷ []) (b ∷ []) told → WasTold (entries a) (entries b) told
  one_told a b told (first, rest, was, none, is) =
      subst (WasTold (entries a) (entries b)) (sym (is ∙ ap (λ l. first ++ l) none ∙ append-nil first)) was

  -- ---- some gates

  -- none of them was entered
  pub told_nothing : (gates : List G) → AllByRecursion (λ gate. Tells (entries gate)) gates → WereTold entries gates gates []
  told_nothing [] tell = refl
  told_nothing (gate ∷ gates) (here, tell) = ([], [], told_none (entries gate) here, told_nothing gates tell, refl)

  -- those that were told something told before
  pub all_told : (old new : List G) (told : List (ℕ × ℕ)) → WereTold entries old new told → AllByRecursion (λ gate. Tells (entries gate)) old
  all_told [] [] told were = tt
  all_told [] (b ∷ new) told were = absurd were
  all_told (a ∷ old) [] told were = absurd were
  all_told (a ∷ old) (b ∷ new) told (first, rest, was, were, is) = (tells_of (entries a) (entries b) first was, all_told old new rest were)
    where
      tells_of : (old new : Option (List (ℕ × ℕ))) (told : List (ℕ × ℕ)) → WasTold old new told → Tells old
      tells_of None new told was = absurd was
      tells_of (Some old) new told was = tt

  -- two parts of them
  told_two : (left left' right right' : List G) (one other : List (ℕ × ℕ)) → WereTold entries left left' one → WereTold entries right right' other
      → WereTold entries (left ++ right) (left' ++ right') (one ++ other)
  told_two [] [] right right' one other none were = subst (WereTold entries right right') (ap (λ l. l ++ other) (sym none)) were
  told_two [] (b ∷ left') right right' one other none were = absurd none
  told_two (a ∷ left) [] right right' one other none were = absurd none
  told_two (a ∷ left) (b ∷ left') right right' one other (first, rest, was, all, is) were =
      (first, rest ++ other, was, told_two left left' right right' rest other all were, ap (λ l. l ++ other) is ∙ append_assoc first rest other)

  -- what two calls one after another added, in some order
  pub told_twice : (old mid new : List G) (one other : List (ℕ × ℕ)) → WereTold entries old mid one → WereTold entries mid new other
      → (told : List (ℕ × ℕ)) × WereTold entries old new told × IsPermutation told (one ++ other)
  told_twice [] [] [] one other were then = ([], refl, subst (IsPermutation []) (sym then ∙ ap (λ l. l ++ other) (sym were)) (IsPermutation-refl []))
  told_twice [] [] (c ∷ new) one other were then = absurd then
  told_twice [] (b ∷ mid) new one other were then = absurd were
  told_twice (a ∷ old) [] new one other were then = absurd were
  told_twice (a ∷ old) (b ∷ mid) [] one other were then = absurd then
  told_twice (a ∷ old) (b ∷ mid) (c ∷ new) one other (x, xs, was, were, is) (y, ys, then_was, then_were, then_is) =
      let rest = told_twice old mid new xs ys were then_were in (
        (x ++ y) ++ rest.0,
        (x ++ y, rest.0, told_on (entries a) (entries b) (entries c) x y was then_was, rest.1, refl),
        subst (IsPermutation ((x ++ y) ++ rest.0)) (ap (λ l. l ++ (y ++ ys)) (sym is) ∙ ap (λ l. one ++ l) (sym then_is))
            (IsPermutation-trans _ _ _ (IsPermutation-append_right (x ++ y) _ _ rest.2) (crossed x y xs ys)),
      )
    where
      crossed : (x y xs ys : List (ℕ × ℕ)) → IsPermutation ((x ++ y) ++ (xs ++ ys)) ((x ++ xs) ++ (y ++ ys))
      crossed x y xs ys =
          let inner : IsPermutation (y ++ (xs ++ ys)) (xs ++ (y ++ ys)) =
          subst (λ l. IsPermutation l (xs ++ (y ++ ys))) (append_assoc y xs ys)
          (subst (IsPermutation ((y ++ xs) ++ ys)) (append_assoc xs y ys) (IsPermutation-append_left ys (y ++ xs) (xs ++ y) (IsPermutation-append_comm y xs))) in
          subst (λ l. IsPermutation l ((x ++ xs) ++ (y ++ ys))) (sym (append_assoc x y (xs ++ ys)))
          (subst (IsPermutation (x ++ (y ++ (xs ++ ys)))) (sym (append_assoc x xs (y ++ ys))) (IsPermutation-append_right x _ _ inner))

  -- ---- gates that were entered for the cores of works

  module _ {T : Type 0} (core_of : T → ℕ) (round : ℕ) where
    -- one gate, entered for one work more
    pub entered_more : (works : List T) (work : T) (a b c : G) → Entered entries core_of works round (a ∷ []) (b ∷ []) → HasEntered (entries b) (entries c) round (core_of work)
        → Entered entries core_of (works ++ work ∷ []) round (a ∷ []) (c ∷ [])
    entered_more works work a b c before entered (t, u) =
        let earlier = before (told_before (entries b) (entries c) round (core_of work) entered t, tt) in
        let entry = told_entry (entries b) (entries c) round (core_of work) entered t in
        let told = told_on (entries a) (entries b) (entries c) earlier.0 _ (one_told a b earlier.0 earlier.1) entry in (
          earlier.0 ++ (round, core_of work) ∷ [],
          told_one a c _ told,
          subst (IsPermutation (earlier.0 ++ (round, core_of work) ∷ [])) (sym (map-append (λ (w : T). (round, core_of w)) works (work ∷ [])))
              (IsPermutation-append_left ((round, core_of work) ∷ []) _ _ earlier.2),
        )

    -- the same work under another name
    pub entered_of : (a b : G) (v w : T) → v ≡ w → HasEntered (entries a) (entries b) round (core_of w) → HasEntered (entries a) (entries b) round (core_of v)
    entered_of a b v w same h = rw same h

    -- two parts of the gates, entered for two parts of the works
    pub entered_two : (front back : List T) (left right left' right' : List G) → Entered entries core_of front round left left' → Entered entries core_of back round right right'
        → Entered entries core_of (front ++ back) round (left ++ right) (left' ++ right')
    entered_two front back left right left' right' one other tell =
        let both = all_of_two left' right' tell in
        let a = one both.0 in
        let b = other both.1 in (
          a.0 ++ b.0,
          told_two left left' right right' a.0 b.0 a.1 b.1,
          subst (IsPermutation (a.0 ++ b.0)) (sym (map-append (λ (w : T). (round, core_of w)) front back)) (IsPermutation-append _ _ _ _ a.2 b.2),
        )
      where
        all_of_two : (xs ys : List G) → AllByRecursion (λ gate. Tells (entries gate)) (xs ++ ys)
            → AllByRecursion (λ gate. Tells (entries gate)) xs × AllByRecursion (λ gate. Tells (entries gate)) ys
        all_of_two [] ys all = (tt, all)
        all_of_two (x ∷ xs) ys (here, all) = let rest = all_of_two xs ys all in ((here, rest.0), rest.1)

    -- for no work
    pub entered_none : (gates : List G) → Entered entries core_of [] round gates gates
    entered_none gates tell = ([], told_nothing gates tell, IsPermutation-refl [])

    -- beside gates that weren't entered
    pub entered_beside : (works : List T) (used used' others : List G) → Entered entries core_of works round used used' → Entered entries core_of works round (used ++ others) (used' ++ others)
    entered_beside works used used' others entered =
        subst (λ l. Entered entries core_of l round (used ++ others) (used' ++ others)) (append-nil works)
        (entered_two works [] used others used' others entered (entered_none others))

    -- the first of some gates, whatever the others
    pub entered_first : (works works' : List T) (gates : List G) (gate after : G) → works ≡ works' → 0 < length gates
        → Entered entries core_of works round (get_or gates 0 gate ∷ []) (after ∷ []) → Entered entries core_of works' round gates (set gates 0 after)
    entered_first works works' [] gate after same some entered = absurd (omega arith)
    entered_first works works' (first ∷ gates) gate after same some entered =
        subst (λ w. Entered entries core_of w round (first ∷ gates) (after ∷ gates)) same (entered_beside works (first ∷ []) (after ∷ []) gates entered)

  -- one gate, entered for one core more
  pub entered_next : (cores : List ℕ) (core round : ℕ) (a b c : G) → Entered entries (λ n. n) cores round (a ∷ []) (b ∷ []) → HasEntered (entries b) (entries c) round core
      → Entered entries (λ n. n) (core ∷ cores) round (a ∷ []) (c ∷ [])
  entered_next cores core round a b c before entered tell =
      let more = entered_more (λ n. n) round cores core a b c before entered tell in (
        more.0,
        more.1,
        IsPermutation-trans _ _ _ more.2
            (subst (λ l. IsPermutation l (map (λ n. (round, n)) (core ∷ cores))) (sym (map-append (λ n. (round, n)) cores (core ∷ [])))
            (IsPermutation-to_front (map (λ n. (round, n)) cores) (round, core))),
      )
