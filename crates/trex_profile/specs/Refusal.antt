-- Where a rule is broken (own).
use Rattle.std.specs.Prelude.{ℕ, Bool, Option, None, Some}
use Rattle.trex_profile.specs.declared.rule.Rule.{Rule}
use Rattle.trex_profile.specs.declared.refusal.Refusal.{Refusal}
use Rattle.trex_profile.specs.declared.refusal.Breach.{Breach}
use Rattle.trex_profile.specs.Order.{broken}

-- a rule about the document
abbrev pub of_document : Rule → Refusal
of_document rule = record { rule = rule; stream = None; at = None }

-- a rule about a stream as a whole
abbrev pub whole_stream : Rule → Breach
whole_stream rule = record { rule = rule; at = None }

-- a rule at an instruction or a layer of a stream
abbrev pub at_place : ℕ → Rule → Breach
at_place at rule = record { rule = rule; at = Some at }

-- the breach of a stream at its position in the profile
abbrev pub in_stream : ℕ → Breach → Refusal
in_stream stream breach = record { rule = breach.rule; stream = Some stream; at = breach.at }

-- a rule about the document is broken where its test holds
abbrev pub document : Rule → Bool → Option Refusal
document r test = broken (of_document r) test

-- a rule about a stream is broken where its test holds
abbrev pub rule : Rule → Bool → Option Breach
rule r test = broken (whole_stream r) test

-- a rule about the instruction at a place is broken where its test holds
abbrev pub rule_there : Rule → ℕ → Bool → Option Breach
rule_there r place test = broken (at_place place r) test
