-- What a write leaves: its length, the bytes in front of it and behind it, a later write at the same place, and the parts of the whole.
use Rattle.std.proofs.Common.{◌≡◌, ℕ, ◌+◌, ◌-◌, ◌<◌, ◌≤◌, List, ◌++◌, length, get_or, take, drop, refl, sym, ap, ◌∙◌, arith}
use Rattle.std.proofs.lemmas.List.{append_assoc, length-append, length-take, length-take-le, length-drop, drop-append-le, drop-take, get_or_append_left, get_or-append_right, get_or-take, get_or-drop, get_or_default, take_at, drop_at, same_lists}
use Rattle.std.proofs.Math.Seq.{take-append-add}
use Rattle.std.specs.List.{slice_range}
use Rattle.trex_fields.specs.Bytes.{put}

-- a write within the bytes keeps their number
pub length-put : (at : ℕ) (new b : List ℕ) → at + length new ≤ length b → length (put at new b) ≡ length b
unfolding put
length-put at new b room = simp (length-append, length-take, length-drop) (omega arith)

-- a byte in front of the write is as it was
pub get_or-put_before : (at : ℕ) (new b : List ℕ) (k d : ℕ) → at + length new ≤ length b → k < at → get_or (put at new b) k d ≡ get_or b k d
unfolding put
get_or-put_before at new b k d room below =
    let front : length (take at b) ≡ at = length-take-le at b (omega arith) in
    get_or_append_left (take at b) (new ++ drop (at + length new) b) d k (omega arith) ∙ get_or-take at b k d below

-- a byte behind the write is as it was
pub get_or-put_after : (at : ℕ) (new b : List ℕ) (k d : ℕ) → at + length new ≤ length b → at + length new ≤ k
    → get_or (put at new b) k d ≡ get_or b k d
unfolding put
get_or-put_after at new b k d room above =
    let rest = drop (at + length new) b in
    let place : at + length new + (k - at - length new) ≡ k = omega arith in
    get_or-append_right (take at b) (new ++ rest) at k d (length-take-le at b (omega arith)) (omega arith)
    ∙ get_or-append_right new rest (length new) (k - at) d refl (omega arith)
    ∙ get_or-drop (at + length new) b (k - at - length new) d
    ∙ ap (λ (i : ℕ). get_or b i d) place

-- a later write of the same length at the same place wins
pub put-put : (at : ℕ) (new old b : List ℕ) → at + length old ≤ length b → length new ≡ length old → put at new (put at old b) ≡ put at new b
unfolding put
put-put at new old b room same =
    let rest = drop (at + length old) b in
    let front : length (take at b) ≡ at = length-take-le at b (omega arith) in
    let whole : take at b ++ (old ++ rest) ≡ (take at b ++ old) ++ rest = sym (append_assoc (take at b) old rest) in
    let behind : drop (at + length new) (take at b ++ (old ++ rest)) ≡ rest =
    ap (drop (at + length new)) whole ∙ drop_at (take at b ++ old) rest (at + length new) (length-append (take at b) old ∙ omega arith) in
    rw (take_at (take at b) (old ++ rest) at front, behind, same) refl

-- a part that holds the write is the bytes in front of it, the write and the bytes behind it
pub slice_range-put : (u e at : ℕ) (new b : List ℕ) → u ≤ at → at + length new ≤ e → e ≤ length b
    → slice_range (put at new b) u e ≡ slice_range b u at ++ (new ++ slice_range b (at + length new) e)
unfolding put
slice_range-put u e at new b low high room =
    let behind = drop (at + length new) b in
    let front : length (take at b) ≡ at = length-take-le at b (omega arith) in
    let reach : u + (at - u) ≡ at = omega arith in
    let cut : drop u (take at b) ≡ take (at - u) (drop u b) = ap (λ (n : ℕ). drop u (take n b)) (sym reach) ∙ drop-take u (at - u) b in
    let long : length (take (at - u) (drop u b)) ≡ at - u = length-take-le (at - u) (drop u b) (omega (arith, length-drop u b)) in
    let span : e - u ≡ length (take (at - u) (drop u b)) + (length new + (e - (at + length new))) = omega arith in
    rw (drop-append-le u (take at b) (new ++ behind) (omega arith), cut, span, take-append-add (take (at - u) (drop u b)) (new ++ behind) (length new + (e - (at + length new))), take-append-add new behind (e - (at + length new))) refl

-- a byte of a part is one of the whole
pub slice_cell : (u e : ℕ) (b : List ℕ) (k d : ℕ) → k < e - u → get_or (slice_range b u e) k d ≡ get_or b (u + k) d
slice_cell u e b k d within = get_or-take (e - u) (drop u b) k d within ∙ get_or-drop u b k d

-- lists of one length that agree from u to e have one part there
pub slice_range-same : (u e : ℕ) (b c : List ℕ) → length b ≡ length c → ((k : ℕ) → u ≤ k → k < e → get_or b k 0 ≡ get_or c k 0)
    → slice_range b u e ≡ slice_range c u e
slice_range-same u e b c same agree =
    let long : length (slice_range b u e) ≡ length (slice_range c u e) = simp (length-take, length-drop, same) in
    same_lists _ _ long (λ k d within. same_cell k d (omega (arith, length-take (e - u) (drop u b))) (omega (arith, length-take (e - u) (drop u b), length-drop u b)))
  where
    same_cell : (k d : ℕ) → k < e - u → u + k < length b → get_or (slice_range b u e) k d ≡ get_or (slice_range c u e) k d
    same_cell k d within there =
        slice_cell u e b k d within
        ∙ get_or_default b (u + k) d 0 there
        ∙ agree (u + k) (omega arith) (omega arith)
        ∙ get_or_default c (u + k) 0 d (omega arith)
        ∙ sym (slice_cell u e c k d within)
