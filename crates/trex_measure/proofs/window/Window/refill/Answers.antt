-- The bytes moved, and what was read stands behind them.
use Rattle.std.proofs.Common.{◌≡◌, ℕ, ◌+◌, ◌-◌, ◌≤◌, ◌∙◌, ◌++◌, List, length, take, drop, vec_len, ap, arith}
use Rattle.std.proofs.lemmas.List.{take-append-le, take_all}
use Rattle.trex_measure.proofs.window.Window.refill.Goals as goal

-- a buffer whose bytes were all lent has those that are given back
given_back : (bytes old : List ℕ) (n : ℕ) → length bytes ≡ n → take n (bytes ++ drop (length bytes) old) ≡ bytes
given_back bytes old n long =
    let within : n ≤ length bytes = omega arith in
    let whole : length bytes ≤ n = omega arith in
    take-append-le n bytes (drop (length bytes) old) within ∙ take_all n bytes whole

-- what lies before a place, from the front on
from_front : (xs : List ℕ) (n : ℕ) → take (n - 0) (drop 0 xs) ≡ take n xs
from_front xs n =
    let size : n - 0 ≡ n = omega arith in
    ap (λ k. take k xs) size

pub returns-clause-more : goal.returns-clause-more
returns-clause-more g c =
    let from = c.self.inside.from in
    let left = c.self.inside.to - c.self.inside.from in
    let moved = c.move_front.new.buffer in
    let read = c.read_behind.new.buffer in
    let more = c.in_ok-count.ensures.more in
    let long : length moved ≡ vec_len c.self.inside.buffer = c.move_front.auto.buffer ∙ c.deref_mut.ensures.len in
    let second : c.deref_mut-2.result.now ≡ moved = c.deref_mut-2.ensures.value ∙ given_back moved c.self.inside.buffer.items (vec_len c.self.inside.buffer) long in
    let long_read : length read ≡ vec_len c.self.inside.buffer = c.read_behind.auto.buffer ∙ c.deref_mut-2.ensures.len in
    let before : take left moved ≡ c.args.self.now = c.move_front.ensures ∙ ap (λ l. take left (drop from l)) c.deref_mut.ensures.value ∙ c.self.view_is in
    record {
      given = more.given;
      behind = from_front _ (left + c.in_ok-count.count) ∙ ap (take (left + c.in_ok-count.count)) (given_back read _ (vec_len c.self.inside.buffer) long_read) ∙ more.behind ∙ ap (λ l. l ++ more.given) (ap (take left) second ∙ before);
      count = more.count;
      taken = more.taken;
      end = more.end;
    }
