-- The least step from a number to one that leaves a given remainder.
use Rattle.std.proofs.Common.{◌≡◌, ℕ, ◌+◌, ◌-◌, ◌*◌, ◌/◌, ◌%◌, ◌<◌, ◌≤◌, ap, ◌∙◌, arith, inl, inr}
use Rattle.std.proofs.lemmas.Bool.{cases_lt}
use Rattle.std.proofs.lemmas.Nat.{div-add-mod'}
use Rattle.std.proofs.Math.Nat.{add-mul, mod-eq_of_lt, mod-lt, mul-add-mod_self_right}

-- whole turns and a rest below one turn leave the rest
pub rest_of : (n turns m rest : ℕ) → rest < m → n ≡ turns * m + rest → n % m ≡ rest
rest_of n turns m rest small is = ap (λ (x : ℕ). x % m) is ∙ mul-add-mod_self_right turns m rest ∙ mod-eq_of_lt small

pub reached_ahead : (n core cores : ℕ) → core < cores → n % cores ≤ core → (n + (core - n % cores)) % cores ≡ core
reached_ahead n core cores less ahead = rest_of _ (n / cores) cores core less (omega (arith, div-add-mod' n cores))

pub reached_behind : (n core cores : ℕ) → core < cores → core < n % cores → (n + (core + cores - n % cores)) % cores ≡ core
reached_behind n core cores less behind =
    let one_more : (n / cores + 1) * cores ≡ n / cores * cores + 1 * cores = add-mul (n / cores) 1 cores in
    let small : n % cores < cores = mod-lt n (omega arith) in
    rest_of _ (n / cores + 1) cores core less (omega (arith, div-add-mod' n cores))

pub not_before : (n core cores step : ℕ) → core < cores → core < n % cores → step < core + cores - n % cores → (n + step) % cores ≡ core → ⊥
not_before n core cores step less behind early same =
    elim (cases_lt (n % cores + step) cores) [
      | inl within ↦
          let e = rest_of (n + step) (n / cores) cores (n % cores + step) within (omega (arith, div-add-mod' n cores)) in
          omega arith
      | inr past ↦
          let small : n % cores < cores = mod-lt n (omega arith) in
          let one_more : (n / cores + 1) * cores ≡ n / cores * cores + 1 * cores = add-mul (n / cores) 1 cores in
          let e = rest_of (n + step) (n / cores + 1) cores (n % cores + step - cores) (omega arith) (omega (arith, div-add-mod' n cores)) in
          omega arith
    ]

-- After so many numbers as there are cores the rest is the same, and between them it isn't.
pub same_rest : (n core cores : ℕ) → core < cores → n % cores ≡ core → (n + cores) % cores ≡ core
same_rest n core cores less own =
    let one_more : (n / cores + 1) * cores ≡ n / cores * cores + 1 * cores = add-mul (n / cores) 1 cores in
    rest_of _ (n / cores + 1) cores core less (omega (arith, div-add-mod' n cores))

pub not_between : (n core cores step : ℕ) → core < cores → n % cores ≡ core → step + 1 < cores → (n + 1 + step) % cores ≡ core → ⊥
not_between n core cores step less own early same =
    elim (cases_lt (core + 1 + step) cores) [
      | inl within ↦
          let e = rest_of (n + 1 + step) (n / cores) cores (core + 1 + step) within (omega (arith, div-add-mod' n cores)) in
          omega arith
      | inr past ↦
          let one_more : (n / cores + 1) * cores ≡ n / cores * cores + 1 * cores = add-mul (n / cores) 1 cores in
          let e = rest_of (n + 1 + step) (n / cores + 1) cores (core + 1 + step - cores) (omega arith) (omega (arith, div-add-mod' n cores)) in
          omega arith
    ]
