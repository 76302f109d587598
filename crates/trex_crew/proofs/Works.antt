-- A list of works of which one more took its turn.
use Rattle.std.proofs.Common.{◌≡◌, ℕ, ◌+◌, ◌<◌, List, [], ◌∷◌, ◌++◌, length, map, take, drop, get_or, sym, ap, subst, ◌∙◌, ◌-◌, ◌≤◌, arith}
use Rattle.std.proofs.lemmas.List.{get_or-append_right, get_or-drop, length-map, length-take-le, take_more_set}
use Rattle.std.specs.Prelude.{slice_set}
use Rattle.std.proofs.lemmas.List.Edits.{map_over_more}
use Rattle.trex_crew.specs.Turns.{TookTurn, TookTurns}

pub turned_more : {X : Type 0} (f : X → X) (xs ys : List X) (k : ℕ) (x new : X) → k < length xs → ys ≡ map f (take k xs) ++ drop k xs
    → x ≡ get_or ys k x → new ≡ f (get_or ys k x) → slice_set ys k new ≡ map f (take (k + 1) xs) ++ drop (k + 1) xs
turned_more f xs ys k x new below is item done =
    ap (slice_set ys k) (done ∙ ap f (sym item)) ∙ map_over_more f xs ys k x below is item

-- the next one hasn't taken its turn
pub not_turned : {X : Type 0} (f : X → X) (xs ys : List X) (k : ℕ) (d : X) → k ≤ length xs → ys ≡ map f (take k xs) ++ drop k xs
    → get_or ys k d ≡ get_or xs k d
not_turned f xs ys k d within is =
    let long : length (map f (take k xs)) ≡ k = simp length-map (length-take-le k xs within) in
    let zero_on : k - k ≡ 0 = omega arith in
    let none : k + 0 ≡ k = omega arith in
    ap (λ zs. get_or zs k d) is ∙ get_or-append_right (map f (take k xs)) (drop k xs) k k d long (omega arith)
    ∙ ap (λ n. get_or (drop k xs) n d) zero_on ∙ get_or-drop k xs 0 d ∙ ap (λ n. get_or xs n d) none

module _ {T : Type 0} (core_of turns : T → ℕ) (stem : T → List (List ℕ)) (settled : T → Type 0) where
  -- one more work that took its turn, behind those that did
  kept_more : (olds news : List T) (old new : T) → TookTurns core_of turns stem settled olds news → TookTurn core_of turns stem settled old new
      → TookTurns core_of turns stem settled (olds ++ old ∷ []) (news ++ new ∷ [])
  kept_more [] [] old new kept one = (one, tt)
  kept_more [] (y ∷ ys) old new kept one = absurd kept
  kept_more (x ∷ xs) [] old new kept one = absurd kept
  kept_more (x ∷ xs) (y ∷ ys) old new (here, kept) one = (here, kept_more xs ys old new kept one)

  -- the work at a place took its turn, and so did those before it
  pub kept_set : (olds news : List T) (k : ℕ) (old new : T) → k < length news → take (k + 1) olds ≡ take k olds ++ old ∷ []
      → TookTurns core_of turns stem settled (take k olds) (take k news) → TookTurn core_of turns stem settled old new
      → TookTurns core_of turns stem settled (take (k + 1) olds) (take (k + 1) (slice_set news k new))
  kept_set olds news k old new within one kept here =
      subst (λ l. TookTurns core_of turns stem settled l (take (k + 1) (slice_set news k new))) (sym one)
      (subst (λ l. TookTurns core_of turns stem settled (take k olds ++ old ∷ []) l) (sym (take_more_set news k new within))
      (kept_more (take k olds) (take k news) old new kept here))
