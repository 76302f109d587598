-- The verdict on an input of which more was read than a profile may have.
use Rattle.std.proofs.Common.{◌≡◌, ℕ, ◌<◌, List, length, Option, Some, None, Err, nat_lt, true, refl, ap, arith, length-append}
use Rattle.std.proofs.lemmas.Bool.{lt-ltb}
use Rattle.std.specs.Io.KnownBytes.{Consumes}
use Rattle.trex_profile.specs.declared.rule.Rule.TheVariants.{TooLong}
use Rattle.trex_profile.specs.Refusal.{of_document}
use Rattle.trex_json.specs.Verdict.{verdict, text_refusal}
use Rattle.trex_top.specs.Rows.{HasVerdict}

-- a text that is too long
verdict-too_long : (text : List ℕ) → 33554432 < length text → verdict text ≡ Err (of_document TooLong)
unfolding text_refusal
verdict-too_long text long = let test : nat_lt 33554432 (length text) ≡ true = lt-ltb 33554432 (length text) long in rw test refl

-- an input whose first bytes are too many
pub HasVerdict-too_long : (old new : Option (List ℕ)) (taken : List ℕ) → Consumes old new taken → 33554432 < length taken → HasVerdict old (Err (of_document TooLong))
HasVerdict-too_long None new taken consumes long = tt
HasVerdict-too_long (Some text) None taken consumes long = absurd consumes
HasVerdict-too_long (Some text) (Some rest) taken consumes long = verdict-too_long text (omega (arith, length-append taken rest, ap length consumes))
