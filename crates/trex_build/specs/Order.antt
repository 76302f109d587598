-- The order in which layers may stand over IPv4. Own.
use Rattle.std.specs.Prelude.{ℕ, List, Option}
use Rattle.trex_headers.specs.declared.layer.Version.TheVariants.{V4}
use Rattle.trex_headers.specs.Layer.{Layer}
use Rattle.trex_headers.specs.Order as headers

-- the place of the first layer that can't stand where it does, or 0 where there is no layer
abbrev pub misplaced : List Layer → Option ℕ
misplaced layers = headers.misplaced V4 layers
