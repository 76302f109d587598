-- One packet more in a batch.
use Rattle.std.proofs.Common.{◌≡◌, false, Some, None, List, [], ◌∷◌, ◌++◌, drop, length, map, slice_get, refl, sym, ap, ◌∙◌, append_assoc}
use Rattle.trex_merge.specs.Frames.{Frame}
use Rattle.trex_sched.specs.declared.slot.Slot.{Slot}
use Rattle.trex_core.specs.Batches.{IsWithin, batch_of, has_room_for}
use Rattle.trex_core.specs.Beginnings.{batch_full, batch_last}

-- the next value is the first
pub first_is : {X : Type 0} (xs : List X) (x : X) → Some x ≡ slice_get xs 0 → xs ≡ x ∷ drop 1 xs
first_is [] x next = cc
first_is (y ∷ xs) x next = let same : x ≡ y = cc in ap (λ z. z ∷ xs) (sym same)

-- where there is no next value there is none
pub none_is : {X : Type 0} (xs : List X) → None ≡ slice_get xs 0 → xs ≡ []
none_is [] next = refl
none_is (y ∷ xs) next = cc

-- where there is no room for it, what waits is the batch
pub full_is : (frame : Slot → Frame) (w : List Frame) (slots : List Slot) (slot : Slot) → IsWithin w → Some slot ≡ slice_get slots 0
    → has_room_for w (length (frame slot).bytes) ≡ false → batch_of (w ++ map frame slots) ≡ w
full_is frame w slots slot within next full =
    ap (λ xs. batch_of (w ++ map frame xs)) (first_is slots slot next) ∙ batch_full w (frame slot) (map frame (drop 1 slots)) within full

-- where none is to come, too
pub last_is : (frame : Slot → Frame) (w : List Frame) (slots : List Slot) → IsWithin w → None ≡ slice_get slots 0
    → batch_of (w ++ map frame slots) ≡ w
last_is frame w slots within none =
    ap (λ xs. batch_of (w ++ map frame xs)) (none_is slots none) ∙ batch_last w within
