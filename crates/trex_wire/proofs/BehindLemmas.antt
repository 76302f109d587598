-- A wire that kept the records of a capture.
use Rattle.std.proofs.Common.{◌≡◌, ℕ, List, [], ◌∷◌, refl, subst, Option, Some, None}
use Rattle.trex_io.specs.Seen.{Seen}
use Rattle.trex_measure.specs.Measured.{OnCapture}
use Rattle.trex_stats.specs.Counts.{Counts, StandsFor}
use Rattle.trex_wire.specs.Behind.{IsBehind}
use Rattle.trex_wire.specs.declared.spec.WireCounts.{WireCounts}
use Rattle.trex_wire.specs.declared.spec.WireSpec.{WireSpec}
use Rattle.trex_wire.specs.Sent.{Carries, Sent}
use Rattle.trex_wire.specs.Wired.{wire_counts, wired}

-- two asks with the same numbers are one
pub ask_is : (a b : WireSpec) → ◌≡◌ {A = List ℕ} (a.seed ∷ a.loss ∷ a.copy ∷ a.delay ∷ []) (b.seed ∷ b.loss ∷ b.copy ∷ b.delay ∷ []) → a ≡ b
ask_is a b same =
    let seed : a.seed ≡ b.seed = cc in
    let loss : a.loss ≡ b.loss = cc in
    let copy : a.copy ≡ b.copy = cc in
    let delay : a.delay ≡ b.delay = cc in
    rw (seed, loss, copy, delay) refl

-- what is measured behind a wire that has the records is that of the capture
pub on_behind : (text : Option (List ℕ)) (w : Sent) (ask : WireSpec) (c : Counts) (n : WireCounts) → OnCapture text (Carries w) → w.ask ≡ ask
    → ((rs : List Seen) → Carries w rs → StandsFor c (wired rs w.ask)) → ((rs : List Seen) → Carries w rs → n ≡ wire_counts rs w.ask)
    → OnCapture text (IsBehind ask (c, n))
on_behind None w ask c n on same stands counts = tt
on_behind (Some text) w ask c n (rs, is, carried) same stands counts = (
  rs,
  is,
  (subst (λ (a : WireSpec). StandsFor c (wired rs a)) same (stands rs carried), subst (λ (a : WireSpec). n ≡ wire_counts rs a) same (counts rs carried)),
)
