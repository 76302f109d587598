-- A wire is sent a record more.
use Rattle.std.proofs.Common.{◌≡◌, ℕ, ◌+◌, ◌*◌, ◌≤◌, ◌==◌, cond, true, false, nat_lt, List, [], ◌∷◌, ◌++◌, append-nil, append_assoc, length, sym, ap, ◌∙◌, arith, add-zero, zero-add, length-append}
use Rattle.trex_io.specs.Seen.{Seen}
use Rattle.trex_stats.specs.declared.glimpse.Glimpse.{Glimpse}
use Rattle.trex_stats.specs.declared.glimpse.Glimpse.TheVariants.{Plain, Stamped}
use Rattle.trex_vars.specs.Value.{stands_at, word_at}
use Rattle.trex_wire.specs.declared.lanes.Due.{Due}
use Rattle.trex_wire.specs.declared.spec.WireSpec.{WireSpec}
use Rattle.trex_wire.specs.declared.words.Words.{Words}
use Rattle.trex_wire.specs.Lanes.{came_by, due_of, glimpse_at, lane, one_with, plain_by, plain_of}
use Rattle.trex_wire.specs.Sent.{Carries, Sent}
use Rattle.trex_wire.specs.Wired.{bytes_by, bytes_of, comes_by, copies_by, with_copies}
use Rattle.trex_wire.proofs.LaneLemmas.{came_at, few_come}

-- what a number gets of record i
abbrev one_at : ℕ → WireSpec → ℕ → ℕ
one_at n ask i = one_with n ask (word_at ask.seed 0 (3 * i))

-- what the copies in no lane get of record i
abbrev plain_at : WireSpec → ℕ → Glimpse → ℕ
plain_at ask i glimpse = plain_by 0 ask (word_at ask.seed 0 (3 * i)) glimpse + plain_by 1 ask (word_at ask.seed 0 (3 * i)) glimpse

-- what the bytes get of record i
abbrev bytes_at : WireSpec → ℕ → ℕ → ℕ
bytes_at ask i captured = bytes_by 0 ask (word_at ask.seed 0 (3 * i)) captured + bytes_by 1 ask (word_at ask.seed 0 (3 * i)) captured

-- a lane of one more record has its copy more
lane_more : (ask : WireSpec) (j i : ℕ) (rs : List Seen) (r : Seen) → lane ask j i (rs ++ r ∷ []) ≡ lane ask j i rs ++ came_at ask j (i + length rs) r
lane_more ask j i [] r = append-nil (came_at ask j i r) ∙ ap (λ (n : ℕ). came_at ask j n r) (sym (add-zero i))
lane_more ask j i (s ∷ rs) r =
    let front = came_at ask j i s in
    let rest = lane ask j (i + 1) rs in
    let place : i + 1 + length rs ≡ i + length (s ∷ rs) = omega arith in
    ap (λ (l : List Due). front ++ l) (lane_more ask j (i + 1) rs r)
    ∙ ap (λ (n : ℕ). front ++ (rest ++ came_at ask j n r)) place
    ∙ sym (append_assoc front rest (came_at ask j (i + length (s ∷ rs)) r))

-- a number of one more record counts it
count_more : (n : ℕ) (ask : WireSpec) (i : ℕ) (rs : List Seen) (r : Seen) → with_copies n ask i (rs ++ r ∷ []) ≡ with_copies n ask i rs + one_at n ask (i + length rs)
count_more n ask i [] r = omega (arith, ap (one_at n ask) (add-zero i))
count_more n ask i (s ∷ rs) r =
    let place : i + 1 + length rs ≡ i + length (s ∷ rs) = omega arith in
    omega (arith, count_more n ask (i + 1) rs r, ap (one_at n ask) place)

-- the copies in no lane of one more record have its own
plain_more : (ask : WireSpec) (i : ℕ) (rs : List Seen) (r : Seen) → plain_of ask i (rs ++ r ∷ []) ≡ plain_of ask i rs + plain_at ask (i + length rs) (glimpse_at r)
plain_more ask i [] r = omega (arith, ap (λ (n : ℕ). plain_at ask n (glimpse_at r)) (add-zero i))
plain_more ask i (s ∷ rs) r =
    let place : i + 1 + length rs ≡ i + length (s ∷ rs) = omega arith in
    omega (arith, plain_more ask (i + 1) rs r, ap (λ (n : ℕ). plain_at ask n (glimpse_at r)) place)

-- the bytes of one more record have those of its copies
bytes_more : (ask : WireSpec) (i : ℕ) (rs : List Seen) (r : Seen) → bytes_of ask i (rs ++ r ∷ []) ≡ bytes_of ask i rs + bytes_at ask (i + length rs) (length r.bytes)
bytes_more ask i [] r = omega (arith, ap (λ (n : ℕ). bytes_at ask n (length r.bytes)) (add-zero i))
bytes_more ask i (s ∷ rs) r =
    let place : i + 1 + length rs ≡ i + length (s ∷ rs) = omega arith in
    omega (arith, bytes_more ask (i + 1) rs r, ap (λ (n : ℕ). bytes_at ask n (length r.bytes)) place)

-- a copy adds no more bytes than the longest, and none where it doesn't come
bytes_came : (ask : WireSpec) (j i time w v captured : ℕ) (glimpse : Glimpse) → captured ≤ 262144
    → bytes_by j ask w captured ≤ (length (came_by ask j i time glimpse w v) + plain_by j ask w glimpse) * 262144
bytes_came ask j i time w v captured Plain short =
    elim (nat_lt j (copies_by ask w)) as (λ t. cond t captured 0 ≤ (length (cond t (due_of (comes_by ask time v) i Plain) []) + cond t 1 0) * 262144) [
      | true ↦ omega (arith, short)
      | false ↦ omega arith
    ]
bytes_came ask j i time w v captured (Stamped flow sequence sent) short =
    elim (nat_lt j (copies_by ask w)) as (λ t. cond t captured 0 ≤ (length (cond t (due_of (comes_by ask time v) i (Stamped flow sequence sent)) []) + cond t 0 0) * 262144) [
      | true ↦ omega (arith, short)
      | false ↦ omega arith
    ]

-- so the bytes of all copies stay as few
pub few_bytes : (ask : WireSpec) (first second : List Due) (i time captured : ℕ) (glimpse : Glimpse) (words : Words) (old new plain more : ℕ) → captured ≤ 262144
    → old ≤ (length first + length second + plain) * 262144
    → new ≡ old + bytes_by 0 ask words.copies captured + bytes_by 1 ask words.copies captured
    → more ≡ plain + plain_by 0 ask words.copies glimpse + plain_by 1 ask words.copies glimpse
    → new ≤ (length (first ++ came_by ask 0 i time glimpse words.copies words.first) + length (second ++ came_by ask 1 i time glimpse words.copies words.second) + more) * 262144
few_bytes ask first second i time captured glimpse words old new plain more short few is plain_is =
    let one = came_by ask 0 i time glimpse words.copies words.first in
    let two = came_by ask 1 i time glimpse words.copies words.second in
    omega (
      arith,
      is,
      few,
      plain_is,
      length-append first one,
      length-append second two,
      bytes_came ask 0 i time words.copies words.first captured glimpse short,
      bytes_came ask 1 i time words.copies words.second captured glimpse short,
    )

-- and by one at most
one_at_most : (n : ℕ) (ask : WireSpec) (w : ℕ) → one_with n ask w ≤ 1
one_at_most n ask w = elim (copies_by ask w == n) as (λ t. cond t 1 0 ≤ 1) [ true ↦ omega arith | false ↦ omega arith ]

few_counted : (n : ℕ) (ask : WireSpec) (i : ℕ) (rs : List Seen) → with_copies n ask i rs ≤ length rs
few_counted n ask i [] = omega arith
few_counted n ask i (r ∷ rs) = omega (arith, few_counted n ask (i + 1) rs, one_at_most n ask (word_at ask.seed 0 (3 * i)))

-- What a wire holds has the copies of a record more, which has this place and these words.
pub record IsMore (old new : Sent) (r : Seen) (place : ℕ) (words : Words) : Type 0 where
  pub ask : new.ask ≡ old.ask
  pub sent : new.sent ≡ old.sent + 1
  pub first : new.first ≡ old.first ++ came_by old.ask 0 place r.time (glimpse_at r) words.copies words.first
  pub second : new.second ≡ old.second ++ came_by old.ask 1 place r.time (glimpse_at r) words.copies words.second
  pub plain : new.plain ≡ old.plain + plain_by 0 old.ask words.copies (glimpse_at r) + plain_by 1 old.ask words.copies (glimpse_at r)
  pub lost : new.lost ≡ old.lost + one_with 0 old.ask words.copies
  pub copied : new.copied ≡ old.copied + one_with 2 old.ask words.copies
  pub bytes : new.bytes ≡ old.bytes + bytes_by 0 old.ask words.copies (length r.bytes) + bytes_by 1 old.ask words.copies (length r.bytes)

module _ (s : Sent) (rs : List Seen) (carried : Carries s rs) where
  pub few_lost : s.lost ≤ s.sent
  few_lost = omega (arith, carried.sent, carried.lost, few_counted 0 s.ask 0 rs)

  pub few_copied : s.copied ≤ s.sent
  few_copied = omega (arith, carried.sent, carried.copied, few_counted 2 s.ask 0 rs)

  -- two copies of each record come at most
  pub few_copies : length s.first + length s.second + s.plain ≤ s.sent + s.sent
  few_copies = omega (arith, carried.sent, ap length carried.first, ap length carried.second, carried.plain, few_come s.ask 0 rs)

  -- one record more, of the next three words
  pub carries_more : (new : Sent) (r : Seen) (place : ℕ) (words : Words) → place ≡ s.sent → IsMore s new r place words
      → words.copies ≡ word_at s.ask.seed 0 (3 * length rs) → words.first ≡ word_at s.ask.seed 0 (3 * length rs + 1)
      → words.second ≡ word_at s.ask.seed 0 (3 * length rs + 1 + 1) → new.generator ≡ stands_at s.ask.seed 0 (3 * length rs + 1 + 1 + 1)
      → Carries new (rs ++ r ∷ [])
  carries_more new r place words at more copies first second stands =
      let n = length rs in
      let at_end : place ≡ n = omega (arith, at, carried.sent) in
      let long : length (rs ++ r ∷ []) ≡ n + 1 = length-append rs (r ∷ []) in
      let three : 3 * n + 1 + 1 + 1 ≡ 3 * length (rs ++ r ∷ []) = omega (arith, long) in
      let first_word = first ∙ ap (word_at s.ask.seed 0) (sym (add-zero (3 * n + 1))) in
      record {
        generator = stands ∙ ap (stands_at s.ask.seed 0) three ∙ ap (λ (a : WireSpec). stands_at a.seed 0 (3 * length (rs ++ r ∷ []))) (sym more.ask);
        sent = omega (arith, more.sent, carried.sent, long);
        first = rw (more.first, more.ask, carried.first, at_end, copies, first_word) (ap (λ (m : ℕ). lane s.ask 0 0 rs ++ came_at s.ask 0 m r) (sym (zero-add n)) ∙ sym (lane_more s.ask 0 0 rs r));
        second = rw (more.second, more.ask, carried.second, at_end, copies, second) (ap (λ (m : ℕ). lane s.ask 1 0 rs ++ came_at s.ask 1 m r) (sym (zero-add n)) ∙ sym (lane_more s.ask 1 0 rs r));
        plain = rw (more.plain, more.ask, carried.plain, copies) (omega (arith, plain_more s.ask 0 rs r, ap (λ (m : ℕ). plain_at s.ask m (glimpse_at r)) (zero-add n)));
        lost = rw (more.lost, more.ask, carried.lost, copies) (ap (λ (m : ℕ). with_copies 0 s.ask 0 rs + one_at 0 s.ask m) (sym (zero-add n)) ∙ sym (count_more 0 s.ask 0 rs r));
        copied = rw (more.copied, more.ask, carried.copied, copies) (ap (λ (m : ℕ). with_copies 2 s.ask 0 rs + one_at 2 s.ask m) (sym (zero-add n)) ∙ sym (count_more 2 s.ask 0 rs r));
        bytes = rw (more.bytes, more.ask, carried.bytes, copies) (omega (arith, bytes_more s.ask 0 rs r, ap (λ (m : ℕ). bytes_at s.ask m (length r.bytes)) (zero-add n)));
      }
