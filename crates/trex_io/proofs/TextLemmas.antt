-- Laws of what was written, over any kind of state.
use Rattle.std.proofs.Common.{◌≡◌, ℕ, ◌+◌, ◌<◌, ◌≤◌, List, ◌∷◌, ◌++◌, Option, Result, Ok, Err, length, take, drop, get_or, sym, ap, ◌∙◌, subst, arith, length-append, append_assoc, take-append-drop, drop-cons, suc}
use Rattle.std.proofs.Math.Seq.{take-append-add}
use Rattle.std.proofs.lemmas.List.{take-append-le}
use Rattle.std.proofs.lemmas.Grind.{flat_map-append}
use Rattle.std.specs.List.{flat_map}
use Rattle.std.proofs.KnownBytes.{Appends-trans}
use Rattle.trex_io.specs.Texts.{Wrote, WrotePart, Writes}
use Rattle.trex_io.proofs.FaultLemmas.{HasCause-after}

module _ {K : Type 0} (held : K → Option (List ℕ)) (a b c : K) (front rest : List ℕ) where
  -- a text, and then the next
  pub Wrote-after : Wrote held a b front → Wrote held b c rest → Wrote held a c (front ++ rest)
  Wrote-after first next = Appends-trans (held a) (held b) (held c) front rest first next

  -- a text, and then a part of the next
  pub WrotePart-after : Wrote held a b front → WrotePart held b c rest → WrotePart held a c (front ++ rest)
  WrotePart-after first (n, short, next) = (
    length front + n,
    omega (arith, length-append front rest),
    subst (Wrote held a c) (sym (take-append-add front rest n)) (Appends-trans (held a) (held b) (held c) front (take n rest) first next),
  )

-- a part of the front is a part of the whole
pub WrotePart-longer : {K : Type 0} (held : K → Option (List ℕ)) (a b : K) (front rest : List ℕ) → WrotePart held a b front → WrotePart held a b (front ++ rest)
WrotePart-longer held a b front rest (n, short, part) =
    let within : n ≤ length front = omega arith in
    (n, omega (arith, length-append front rest), subst (Wrote held a b) (sym (take-append-le n front rest within)) part)

-- a list of pieces is the pieces before place i, the piece there and those after it
pub flat_map-split : {X : Type 0} (f : X → List ℕ) (xs : List X) (i : ℕ) (d : X) → i < length xs
    → flat_map f xs ≡ (flat_map f (take i xs) ++ f (get_or xs i d)) ++ flat_map f (drop (suc i) xs)
flat_map-split f xs i d within =
    ap (flat_map f) (sym (take-append-drop i xs) ∙ ap (λ l. take i xs ++ l) (drop-cons xs i d within))
    ∙ flat_map-append f (take i xs) (get_or xs i d ∷ drop (suc i) xs)
    ∙ sym (append_assoc (flat_map f (take i xs)) (f (get_or xs i d)) (flat_map f (drop (suc i) xs)))

-- a list of pieces that stopped half-way through one
pub WrotePart-pieces : {K X : Type 0} (held : K → Option (List ℕ)) (f : X → List ℕ) (xs : List X) (i : ℕ) (d : X) (a b c : K) → i < length xs
    → Wrote held a b (flat_map f (take i xs)) → WrotePart held b c (f (get_or xs i d)) → WrotePart held a c (flat_map f xs)
WrotePart-pieces held f xs i d a b c within first part =
    subst (WrotePart held a c) (sym (flat_map-split f xs i d within))
    (WrotePart-longer held a c (flat_map f (take i xs) ++ f (get_or xs i d)) (flat_map f (drop (suc i) xs)) (WrotePart-after held a b c (flat_map f (take i xs)) (f (get_or xs i d)) first part))

-- a text that was written, and then a call that writes the next one
pub Writes-after : {K T E : Type 0} (held : K → Option (List ℕ)) (faults : K → ℕ) (a b c : K) (result : Result T E) (front rest : List ℕ)
    → Wrote held a b front → faults a ≤ faults b → Writes held faults b c result rest → Writes held faults a c result (front ++ rest)
Writes-after held faults a b c (Ok x) front rest first later next =
    record { whole = Wrote-after held a b c front rest first next.whole; part = tt; cause = HasCause-after faults a b c (Ok x) later next.cause }
Writes-after held faults a b c (Err e) front rest first later next =
    record { whole = tt; part = WrotePart-after held a b c front rest first next.part; cause = HasCause-after faults a b c (Err e) later next.cause }
