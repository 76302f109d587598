-- Words of a generator that goes on.
use Rattle.std.proofs.Common.{◌≡◌, ℕ, zero, suc, ◌+◌, refl, ap, ◌∙◌, zero-add, suc-add}
use Rattle.rand_pcg.specs.Lcg.{Lcg, advance, next_state, state_after, started, increment_of}
use Rattle.rand_pcg.specs.Pcg.{pcg64, multiplier_128}
use Rattle.trex_vars.specs.Value.{stands_at, word_at}

-- so many steps and then so many more
state_after-plus : (w m p a b s : ℕ) → state_after w m p b (state_after w m p a s) ≡ state_after w m p (a + b) s
unfolding state_after
state_after-plus w m p zero b s = rw zero-add refl
state_after-plus w m p (suc a) b s = rw suc-add (state_after-plus w m p a b (next_state w m p s))

-- one step after some
pub one-more : (g : Lcg) (n : ℕ) → (pcg64 (advance 128 multiplier_128 n g)).1 ≡ advance 128 multiplier_128 (n + 1) g
unfolding state_after
one-more g n =
    ap (λ s. let h : Lcg = record { state = s; increment = g.increment } in h) (state_after-plus 128 multiplier_128 g.increment n 1 g.state)

-- a new generator stands at word 0
pub stands-new : (seed position : ℕ) → started 128 multiplier_128 seed (increment_of 128 position) ≡ stands_at seed position 0
unfolding stands_at state_after
stands-new seed position = refl

-- a generator that skips words stands so much further on
stands-skip : (seed position n k : ℕ) → advance 128 multiplier_128 k (stands_at seed position n) ≡ stands_at seed position (n + k)
unfolding stands_at
stands-skip seed position n k =
    let w : Lcg = started 128 multiplier_128 seed (increment_of 128 position) in
    ap (λ s. let g : Lcg = record { state = s; increment = increment_of 128 position } in g) (state_after-plus 128 multiplier_128 (increment_of 128 position) n k w.state)

-- the word after some that are skipped, and where the generator stands after it
pub drawn-word : (g : Lcg) (seed position n k : ℕ) → g ≡ stands_at seed position n
    → (pcg64 (advance 128 multiplier_128 k g)).0 ≡ word_at seed position (n + k)
unfolding word_at
drawn-word g seed position n k e =
    ap (λ h. (pcg64 h).0) (ap (advance 128 multiplier_128 k) e ∙ stands-skip seed position n k)

pub drawn-stands : (g : Lcg) (seed position n k : ℕ) → g ≡ stands_at seed position n
    → (pcg64 (advance 128 multiplier_128 k g)).1 ≡ stands_at seed position (n + k + 1)
unfolding state_after
drawn-stands g seed position n k e =
    ap (λ h. (pcg64 h).1) (ap (advance 128 multiplier_128 k) e ∙ stands-skip seed position n k) ∙ stands-skip seed position (n + k) 1
