-- What a round makes of the works and the gates.
use Rattle.std.proofs.Common.{◌≡◌, ℕ, ◌+◌, ◌<◌, ◌≤◌, ◌^◌, List, [], ◌∷◌, length, map, get_or, refl, sym, ap, subst, ◌∙◌, arith, true, Option, IsPermutation}
use Rattle.std.proofs.Math.ListN.{get_or-eq_default}
use Rattle.std.proofs.lemmas.List.Sorted.{IsPermutation-map, IsPermutation-trans}
use Rattle.std.proofs.lemmas.Simd.{map-map}
use Rattle.std.specs.List.{AllByRecursion}
use mathlib.Core.Logic.{dite}
use native.Mathlib.Decide.{ℕ_discrete, dec_lt}
use Rattle.trex_claims.specs.declared.view.CoreState.{CoreState}
use Rattle.trex_claims.specs.declared.view.View.{View}
use Rattle.trex_claims.specs.Views.{times}
use Rattle.trex_claims.specs.Board.{IsPiece, below}
use Rattle.trex_claims.specs.Moves.{vacant, turned_by, state_at, round_closed, round_opened}
use Rattle.trex_claims.specs.Boards.{Me}
use Rattle.trex_claims.proofs.CallerLemmas.{state_closed}
use Rattle.trex_claims.proofs.TotalLemmas.{sure}
use Rattle.trex_crew.specs.Orders.{AreInOrder}
use Rattle.trex_crew.specs.Told.{Entered}
use Rattle.trex_crew.specs.Workers.{MayDraw}
use Rattle.trex_crew.specs.Rounds.{IsLent, AreLent, ArePieces}
use Rattle.trex_crew.specs.Turns.{TookTurn, TookTurns}
use Rattle.trex_crew.proofs.CoreLemmas.{cores_in_order, each_core}

-- the cores that were put back are those of the works
pub entered_works : {G T : Type 0} (entries : G → Option (List (ℕ × ℕ))) (core_of : T → ℕ) (cores : List ℕ) (works : List T) (round : ℕ) (old new : List G)
    → ((core : ℕ) → times core cores ≡ below core (length works)) → AreInOrder core_of 0 works → Entered entries (λ n. n) cores round old new → Entered entries core_of works round old new
entered_works {T = T} entries core_of cores works round old new once order entered tell =
    let e = entered tell in
    let same : IsPermutation cores (map core_of works) = subst (IsPermutation cores) (sym (cores_in_order core_of 0 works order)) (each_core (length works) cores once) in (
      e.0,
      e.1,
      IsPermutation-trans _ _ _ e.2 (subst (IsPermutation (map (λ n. (round, n)) cores)) (map-map (λ n. (round, n)) core_of works) (IsPermutation-map (λ n. (round, n)) cores (map core_of works) same)),
    )

module _ {T : Type 0} (core_of turns : T → ℕ) (stem : T → List (List ℕ)) (settled sound : T → Type 0) (turned : T → T)
    (law : (old new : T) → sound old → core_of new ≡ core_of old → turns new ≡ turns old + 1 → stem new ≡ stem old → settled new → new ≡ turned old) where
  kept_one : (core : ℕ) (t u : CoreState) (old new : T) → core_of old ≡ core → IsLent turns stem sound t old → u ≡ turned_by 1 t → IsPiece core_of turns stem settled core u 0 new
      → TookTurn core_of turns stem settled old new
  kept_one core t u old new is lent after piece =
      let p = subst (λ x. IsPiece core_of turns stem settled core x 0 new) after piece in
      let a = p.turns_are in
      let b = lent.turns_are in
      record { core_is = p.core_is ∙ sym is; turns_are = omega arith; stem_is = p.stem_is ∙ lent.stem_is; settles = p.settles (omega arith) }

  -- each work took one turn
  pub all_kept : (v u : View) (core : ℕ) (old new : List T) → AreInOrder core_of core old → AreLent turns stem sound v core old → ArePieces core_of turns stem settled u core new
      → length new ≡ length old → ((k : ℕ) → k < core + length old → state_at u k ≡ turned_by 1 (state_at v k)) → TookTurns core_of turns stem settled old new
  all_kept v u core [] [] order lent pieces long after = tt
  all_kept v u core [] (y ∷ ys) order lent pieces long after = absurd (omega arith)
  all_kept v u core (x ∷ xs) [] order lent pieces long after = absurd (omega arith)
  all_kept v u core (x ∷ xs) (y ∷ ys) (is, order) (lent, all_lent) (piece, pieces) long after = (
    kept_one core (state_at v core) (state_at u core) x y is lent (after core (omega arith)) piece,
    all_kept v u (core + 1) xs ys order all_lent pieces (omega arith) (λ k h. after k (omega arith)),
  )

  -- so each is what a turn makes of it
  pub all_turned : (v : View) (core : ℕ) (old new : List T) → AreLent turns stem sound v core old → TookTurns core_of turns stem settled old new → new ≡ map turned old
  all_turned v core [] [] lent kept = refl
  all_turned v core [] (y ∷ ys) lent kept = absurd kept
  all_turned v core (x ∷ xs) [] lent kept = absurd kept
  all_turned v core (x ∷ xs) (y ∷ ys) (lent, all_lent) (kept, all_kept) =
      let one = law x y lent.is_sound kept.core_is kept.turns_are kept.stem_is kept.settles in
      let rest = all_turned v (core + 1) xs ys all_lent all_kept in
      (λ i. one i ∷ rest i)

  few_turns : (v : View) (core : ℕ) (works : List T) (k : ℕ) → core ≤ k → k < core + length works → AreLent turns stem sound v core works
      → AllByRecursion (λ work. turns work < 2 ^ 63) works → (state_at v k).turns < 2 ^ 63
  few_turns v core [] k low high lent few = absurd (omega arith)
  few_turns v core (x ∷ xs) k low high (here, rest) (one, all) =
      dite (ℕ_discrete core k)
      (λ e. let t = here.turns_are in let s : (state_at v core).turns ≡ (state_at v k).turns = ap (λ n. (state_at v n).turns) e in omega arith)
      (λ n. few_turns v (core + 1) xs k (omega arith) (omega arith) rest all)

  -- each core may take its turn
  pub may_turn : (v : View) (works : List T) → length v.round.cores ≡ length works → AreLent turns stem sound v 0 works → AllByRecursion (λ work. turns work < 2 ^ 63) works
      → (k : ℕ) → (state_at v k).turns < 2 ^ 63
  may_turn v works long lent few k =
      dite (dec_lt k (length works))
      (λ h. few_turns v 0 works k (omega arith) (omega arith) lent few)
      (λ n.
      let past : length v.round.cores ≤ k = omega arith in
      let z : (state_at v k).turns ≡ 0 = ap (λ t. t.turns) (get_or-eq_default v.round.cores vacant past) in
      omega arith)

-- a round has begun
pub opened_ready : {T : Type 0} (v : View) (base : ℕ) (slots : List (ℕ × Option T)) (after : Me (Option T) View) → after ≡ (round_opened v base, slots) → slots ≡ [] → ((k : ℕ) → (state_at v k).turns < 2 ^ 63)
    → MayDraw base after
opened_ready {T = T} v base slots after is none turns =
    let seat : Me (Option T) View = (round_opened v base, slots) in
    let ready : MayDraw base seat = record { open_round = refl; base_is = refl; free = (refl, none); no_none_yet = refl; turns = turns } in
    subst (λ m. MayDraw base m) (sym is) ready

-- what is known of a core after the round, where it was put back once
pub state_turned : (before after : View) (k count : ℕ) → after.round.running ≡ true → after.round.cores ≡ before.round.cores → k < length before.round.cores → length before.round.cores ≡ count
    → times k after.done ≡ below k count → state_at (round_closed after) k ≡ turned_by 1 (state_at before k)
state_turned before after k count running same inside long once =
    let there : k < length after.round.cores = let n = ap length same in omega arith in
    state_closed after k running there ∙ ap (λ n. turned_by n (state_at after k)) (once ∙ sure k count (omega arith)) ∙ ap (λ l. turned_by 1 (get_or l k vacant)) same
