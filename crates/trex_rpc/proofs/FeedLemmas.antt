-- The place of the first line feed, and what stands before and behind it.
use Rattle.std.proofs.Common.{◌≡◌, ℕ, zero, suc, ◌+◌, ◌-◌, ◌<◌, ◌≤◌, true, false, List, ◌∷◌, ◌++◌, Some, None, position, length, take, drop, get_or, cond, not, nat_lt, refl, arith, add-one}
use Rattle.std.proofs.Math.Seq.{split_at}
use Rattle.std.proofs.lemmas.Bool.Decides.{nat_tests}
use Rattle.std.proofs.lemmas.List.{drop-drop, drop-take, take_all}
use Rattle.std.proofs.lemmas.List.Folds.{list_any_more}
use Rattle.std.proofs.lemmas.List.Quantifiers.{position-Some}
use Rattle.std.proofs.lemmas.List.Sums.{fails_before_first, prefix_len-le-length}
use Rattle.std.specs.List.{position_or_len}
use Rattle.trex_rpc.specs.Lines.{is_feed, NoFeed}

-- so many bytes of which none is a line feed
no_feed_before : (bytes : List ℕ) (n : ℕ) → n ≤ length bytes → ((k : ℕ) → k < n → is_feed (get_or bytes k 0) ≡ false) → NoFeed (take n bytes)
no_feed_before bytes zero within others = refl
no_feed_before bytes (suc n) within others =
    let less : n < length bytes = omega arith in
    let here = others n (omega arith) in
    let before = no_feed_before bytes n (omega arith) (λ k earlier. others k (omega arith)) in
    rw (← add-one n, list_any_more is_feed bytes n 0 less, before, here)

-- a byte that passes the test is the line feed
feed_byte : (b : ℕ) → is_feed b ≡ true → b ≡ 10
feed_byte b test = grind (arith, nat_tests)

-- what stands before the first line feed, and behind it
pub feed_at : (bytes : List ℕ) (at : ℕ) → position is_feed bytes ≡ Some at → (at < length bytes) × (bytes ≡ take at bytes ++ 10 ∷ drop (at + 1) bytes) × NoFeed (take at bytes)
feed_at bytes at found =
    let (within, passes, others) = position-Some is_feed bytes at 0 found in
    (within, rw (add-one, ← feed_byte (get_or bytes at 0) passes) (split_at bytes at 0 within), no_feed_before bytes at (omega arith) others)

-- where none is found there is none
pub feed_nowhere : (bytes : List ℕ) → position is_feed bytes ≡ None → NoFeed bytes
feed_nowhere bytes none =
    let n = position_or_len is_feed bytes in
    let most : n ≤ length bytes = prefix_len-le-length (λ b. not (is_feed b)) bytes in
    let all = no_feed_before bytes n most (λ k less. fails_before_first is_feed bytes k 0 less) in
    rw (take_all n bytes (past_end n (length bytes) none)) at all
  where
    past_end : (n m : ℕ) → cond (nat_lt n m) (Some n) None ≡ None → m ≤ n
    past_end n m none = grind (arith, nat_tests)

-- what is kept of a piece after so many bytes
pub after_front : (piece : List ℕ) (at end n : ℕ) → at + n ≤ end → take (end - (at + n)) (drop (at + n) piece) ≡ drop n (take (end - at) (drop at piece))
after_front piece at end n within =
    let split : n + (end - (at + n)) ≡ end - at = omega arith in
    rw (← split, drop-take n (end - (at + n)) (drop at piece), drop-drop n at piece)
