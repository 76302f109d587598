-- What the reading of a profile, or of one stream, answers (own).
use Rattle.std.specs.Prelude.{◌≡◌, ℕ, Result, Ok, Err}
use Rattle.trex_profile.specs.declared.fault.Fault.{Fault}
use Rattle.trex_profile.specs.declared.fault.Fault.TheVariants.{Refused, Memory}
use Rattle.trex_profile.specs.declared.refusal.Breach.{Breach}
use Rattle.trex_profile.specs.declared.refusal.Refusal.{Refusal}
use Rattle.trex_profile.specs.Refusal.{in_stream}

-- an error is the rule that is defined to be broken, unless memory ran out
abbrev pub Fails : {A R : Type 0} → Fault R → Result A R → Type 0
Fails (Refused r) defined = defined ≡ Err r
Fails Memory defined = Unit {0}

-- an answer, seen by view, is what is defined, unless memory ran out
abbrev pub Gives : {X Y R : Type 0} → (X → Y) → Result X (Fault R) → Result Y R → Type 0
Gives view (Ok x) defined = defined ≡ Ok (view x)
Gives view (Err e) defined = Fails e defined

-- the fault of the profile that has a stream at a position
abbrev pub fault_at : ℕ → Fault Breach → Fault Refusal
fault_at position (Refused b) = Refused (in_stream position b)
fault_at position Memory = Memory
