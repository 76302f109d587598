-- Which profiles are admitted (own).
use Rattle.std.specs.Prelude.{◌≤◌, List, [], ◌∷◌, length, Option, Result, All}
use Rattle.trex_profile.specs.declared.raw.RawProfile.{RawProfile}
use Rattle.trex_profile.specs.declared.refusal.Refusal.{Refusal}
use Rattle.trex_profile.specs.Order.{first, first_each, unless}
use Rattle.trex_profile.specs.Stream.{Stream, IsRawStream}
use Rattle.trex_profile.specs.Rules.{value_refusal}
use Rattle.trex_profile.specs.Cross.{cross_rules}

-- the ranges that the reading of a profile keeps
pub record IsRawProfile (profile : RawProfile) : Type 0 where
  pub few : length profile.streams.items ≤ 4096
  pub streams : All IsRawStream profile.streams.items

-- the first broken rule: those on values stream by stream, then those over several streams
abbrev pub refusal_of : List Stream → Option Refusal
refusal_of streams = first (first_each value_refusal 0 streams ∷ cross_rules streams ∷ [])

-- the streams, unless a rule is broken
abbrev pub admitted : List Stream → Result (List Stream) Refusal
admitted streams = unless (refusal_of streams) streams
