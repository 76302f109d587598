-- Numbers modulo m.
use Rattle.std.proofs.Common.{◌≡◌, ℕ, ◌+◌, ◌-◌, ◌*◌, ◌%◌, ◌<◌, inl, inr, sym, ap, ◌∙◌, arith}
use Rattle.std.proofs.Math.Nat.{add-mod, mod-add-mod, add-mod-mod, mod_self, mod-lt, mod-eq_of_lt, add-mod_right}
use Rattle.std.proofs.lemmas.Nat.{mul-mod_second}
use Rattle.std.proofs.lemmas.Bool.{cases_lt}
use Rattle.trex_vars.specs.Value.{back}

-- two remainders whose sum has none
opposite : (m r s : ℕ) → r < m → s < m → (r + s) % m ≡ 0 → r ≡ (m - s) % m
opposite m r s hr hs e =
    elim (cases_lt (r + s) m) [
      | inl small ↦
          let sum : (r + s) % m ≡ r + s = mod-eq_of_lt small in
          let whole : m - s ≡ m = omega arith in
          let r_is : r ≡ 0 = omega arith in
          r_is ∙ sym (ap (λ (n : ℕ). n % m) whole ∙ mod_self m)
      | inr large ↦
          let less : r + s - m < m = omega arith in
          let parts : r + s ≡ (r + s - m) + m = omega arith in
          let sum : (r + s) % m ≡ r + s - m = ap (λ (n : ℕ). n % m) parts ∙ add-mod_right (r + s - m) m ∙ mod-eq_of_lt less in
          let r_is : m - s ≡ r = omega arith in
          rw r_is (sym (mod-eq_of_lt hr))
    ]

-- a step up in place of a step down
pub back-undoes : (m s : ℕ) → 0 < m → (back m 0 s + s) % m ≡ 0
back-undoes m s pos =
    let r : s % m < m = mod-lt s pos in
    let whole : 0 + (m - s % m) + s % m ≡ m = omega arith in
    mod-add-mod (0 + (m - s % m)) m s ∙ sym (add-mod-mod (0 + (m - s % m)) s m) ∙ ap (λ (n : ℕ). n % m) whole ∙ mod_self m

-- so many steps up in place of so many down
pub back-steps : (m a n s : ℕ) → 0 < m → (a + n * back m 0 s) % m ≡ back m a (n * s)
back-steps m a n s pos =
    let t = back m 0 s in
    let spread : n * t + n * s ≡ n * (t + s) = omega arith in
    let zeros : n * 0 ≡ 0 = omega arith in
    let none : (n * t + n * s) % m ≡ 0 =
    ap (λ (x : ℕ). x % m) spread ∙ sym (mul-mod_second n (t + s) m) ∙ ap (λ (x : ℕ). n * x % m) (back-undoes m s pos) ∙ ap (λ (x : ℕ). x % m) zeros ∙ mod-eq_of_lt pos in
    let halves : (n * t % m + n * s % m) % m ≡ 0 = sym (add-mod (n * t) (n * s) m) ∙ none in
    let same : n * t % m ≡ (m - n * s % m) % m = opposite m (n * t % m) (n * s % m) (mod-lt (n * t) pos) (mod-lt (n * s) pos) halves in
    sym (add-mod-mod a (n * t) m) ∙ ap (λ (x : ℕ). (a + x) % m) same ∙ add-mod-mod a (m - n * s % m) m
