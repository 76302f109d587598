-- What gates were told in a call. Own.
use Rattle.std.specs.Prelude.{◌≡◌, ℕ, List, [], ◌∷◌, ◌++◌, Option, None, Some, map, IsPermutation}
use Rattle.trex_crew.specs.Gates.{AllTell}

-- A gate tells its entries before and after, and in between these were added at the end.
abbrev pub WasTold : Option (List (ℕ × ℕ)) → Option (List (ℕ × ℕ)) → List (ℕ × ℕ) → Type 0
WasTold None new told = ⊥
WasTold (Some old) None told = ⊥
WasTold (Some old) (Some new) told = new ≡ old ++ told

-- Some gates tell their entries before and after, and in between these were added to their lists, gate by gate.
abbrev pub WereTold : {G : Type 0} → (G → Option (List (ℕ × ℕ))) → List G → List G → List (ℕ × ℕ) → Type 0
WereTold entries [] [] told = told ≡ []
WereTold entries [] (new ∷ all_new) told = ⊥
WereTold entries (old ∷ all_old) [] told = ⊥
WereTold entries (old ∷ all_old) (new ∷ all_new) told =
    (first rest : List (ℕ × ℕ)) × WasTold (entries old) (entries new) first × WereTold entries all_old all_new rest × (told ≡ first ++ rest)

-- Where all gates tell in the end, they told before, and this holds of what was added to their lists, taken together.
abbrev pub IfTold : {G : Type 0} → (G → Option (List (ℕ × ℕ))) → List G → List G → (List (ℕ × ℕ) → Type 0) → Type 0
IfTold entries old new P = AllTell entries new → (told : List (ℕ × ℕ)) × WereTold entries old new told × P told

-- The gates were entered once for each work's core in a round, in some order, and no more.
abbrev pub Entered : {G T : Type 0} → (G → Option (List (ℕ × ℕ))) → (T → ℕ) → List T → ℕ → List G → List G → Type 0
Entered entries core_of works round old new = IfTold entries old new (λ told. IsPermutation told (map (λ work. (round, core_of work)) works))
