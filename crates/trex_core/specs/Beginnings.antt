-- The longest beginning that fits.
use Rattle.std.proofs.Common.{◌≡◌, ℕ, zero, suc, ◌+◌, ◌-◌, ◌<◌, ◌≤◌, ◌⊎◌, ◌&&◌, true, false, cond, leb, nat_lt, nat_le, List, [], ◌∷◌, ◌++◌, length, refl, sym, ap, ◌∙◌, inl, inr, arith, length-append}
use Rattle.std.proofs.lemmas.Bool.{cases_Bool, leb-true, leb-false, le-leb, lt-leb, ltb-false, and_cases}
use Rattle.std.proofs.lemmas.List.{append-nil}
use Rattle.std.proofs.lemmas.List.Sums.{sum_by-cons}
use Rattle.trex_merge.specs.Frames.{Frame}
use Rattle.trex_merge.specs.Machine.{IsPrefixOf}
use Rattle.trex_core.specs.declared.batch.TheConstants.{BATCH_PACKETS, BATCH_BYTES}
use Rattle.trex_core.specs.Batches.{IsWithin, batch_of, beginning, bytes_of, has_room_for}

-- the bytes of the first and of the others
bytes_of-cons : (f : Frame) (w : List Frame) → bytes_of (f ∷ w) ≡ length f.bytes + bytes_of w
bytes_of-cons f w = sum_by-cons (λ (x : Frame). length x.bytes) f w

-- what has room is the beginning of what follows it
pub beginning_front : (packets room : ℕ) (w rest : List Frame) → length w ≤ packets → bytes_of w ≤ room
    → beginning packets room (w ++ rest) ≡ w ++ beginning (packets - length w) (room - bytes_of w) rest
beginning_front packets room [] rest few small =
    let p : packets - 0 ≡ packets = omega arith in
    let r : room - 0 ≡ room = omega arith in
    rw (p, r) refl
beginning_front zero room (f ∷ w) rest few small = absurd (omega arith)
beginning_front (suc packets) room (f ∷ w) rest few small =
    let all = bytes_of-cons f w in
    let first : leb (length f.bytes) room ≡ true = le-leb (length f.bytes) room (omega arith) in
    let later : beginning packets (room - length f.bytes) (w ++ rest) ≡ w ++ beginning (packets - length w) (room - length f.bytes - bytes_of w) rest =
    beginning_front packets (room - length f.bytes) w rest (omega arith) (omega arith) in
    let left : room - length f.bytes - bytes_of w ≡ room - bytes_of (f ∷ w) = omega arith in
    let less : packets - length w ≡ suc packets - length (f ∷ w) = omega arith in
    rw first (ap (λ (xs : List Frame). f ∷ xs) (later ∙ ap (λ n. w ++ beginning (packets - length w) n rest) left
    ∙ ap (λ n. w ++ beginning n (room - bytes_of (f ∷ w)) rest) less))

-- where the first doesn't fit, nothing does
none_fits : (packets room : ℕ) (f : Frame) (rest : List Frame) → (packets ≡ 0) ⊎ (room < length f.bytes) → beginning packets room (f ∷ rest) ≡ []
none_fits zero room f rest h = refl
none_fits (suc packets) room f rest (inl h) = absurd (omega arith)
none_fits (suc packets) room f rest (inr h) = let e : leb (length f.bytes) room ≡ false = lt-leb (length f.bytes) room h in rw e refl

-- one of two tests of numbers fails
one_fails : (a b c d : ℕ) → (nat_lt a b && nat_le c d) ≡ false → (b ≤ a) ⊎ (d < c)
one_fails a b c d h =
    elim (and_cases (nat_lt a b) (nat_le c d) h) [ inl few ↦ inl (ltb-false a b few) | inr small ↦ inr (leb-false c d small) ]

-- where the next packet doesn't fit, what waits is the batch
pub batch_full : (w : List Frame) (f : Frame) (rest : List Frame) → IsWithin w → has_room_for w (length f.bytes) ≡ false → batch_of (w ++ f ∷ rest) ≡ w
unfolding batch_of
batch_full w f rest within full =
    let short = within.packets in
    let small = within.bytes in
    let none : beginning (BATCH_PACKETS - length w) (BATCH_BYTES - bytes_of w) (f ∷ rest) ≡ [] =
    none_fits (BATCH_PACKETS - length w) (BATCH_BYTES - bytes_of w) f rest
    (elim (one_fails (length w) BATCH_PACKETS (bytes_of w + length f.bytes) BATCH_BYTES full) [ inl a ↦ inl (omega arith) | inr b ↦ inr (omega arith) ]) in
    beginning_front BATCH_PACKETS BATCH_BYTES w (f ∷ rest) short small ∙ ap (λ (xs : List Frame). w ++ xs) none ∙ append-nil w

-- where nothing is to come, all that waits is the batch
pub batch_last : (w : List Frame) → IsWithin w → batch_of (w ++ []) ≡ w
unfolding batch_of
batch_last w within = beginning_front BATCH_PACKETS BATCH_BYTES w [] within.packets within.bytes ∙ append-nil w

-- a beginning is one
beginning_prefix : (packets room : ℕ) (xs : List Frame) → IsPrefixOf (beginning packets room xs) xs
beginning_prefix packets room [] = ([], refl)
beginning_prefix zero room (f ∷ xs) = (f ∷ xs, refl)
beginning_prefix (suc packets) room (f ∷ xs) =
    let rest = beginning_prefix packets (room - length f.bytes) xs in
    elim (leb (length f.bytes) room) as (λ b. IsPrefixOf (cond b (f ∷ beginning packets (room - length f.bytes) xs) []) (f ∷ xs))
    [ true ↦ (rest.0, ap (λ (ys : List Frame). f ∷ ys) rest.1) | false ↦ (f ∷ xs, refl) ]

-- it has no more packets and no more bytes than it may
beginning_small : (packets room : ℕ) (xs : List Frame) → (length (beginning packets room xs) ≤ packets) × (bytes_of (beginning packets room xs) ≤ room)
beginning_small packets room [] = (omega arith, omega arith)
beginning_small zero room (f ∷ xs) = (omega arith, omega arith)
beginning_small (suc packets) room (f ∷ xs) =
    let rest = beginning_small packets (room - length f.bytes) xs in
    elim (cases_Bool (leb (length f.bytes) room)) [
      | inl e ↦ rw e (let all = bytes_of-cons f (beginning packets (room - length f.bytes) xs) in
          let fit = leb-true (length f.bytes) room e in
          (omega (arith, rest.0), omega (arith, rest.1)))
      | inr e ↦ rw e (omega arith, omega arith)
    ]

pub batch_prefix : (xs : List Frame) → IsPrefixOf (batch_of xs) xs
unfolding batch_of
batch_prefix xs = beginning_prefix BATCH_PACKETS BATCH_BYTES xs

pub batch_within : (xs : List Frame) → IsWithin (batch_of xs)
unfolding batch_of
batch_within xs = let e = beginning_small BATCH_PACKETS BATCH_BYTES xs in record { packets = e.0; bytes = e.1 }

-- no longer beginning is within the limits
pub batch_longest : (front xs : List Frame) → IsWithin front → IsPrefixOf front xs → length front ≤ length (batch_of xs)
unfolding batch_of
batch_longest front xs within prefix =
    let rest = prefix.0 in
    let is = prefix.1 in
    let e = beginning_front BATCH_PACKETS BATCH_BYTES front rest within.packets within.bytes in
    let after = beginning (BATCH_PACKETS - length front) (BATCH_BYTES - bytes_of front) rest in
    let long : length (beginning BATCH_PACKETS BATCH_BYTES xs) ≡ length (front ++ after) = ap (λ (ys : List Frame). length (beginning BATCH_PACKETS BATCH_BYTES ys)) (sym is) ∙ ap length e in
    omega (arith, long, length-append front after)
