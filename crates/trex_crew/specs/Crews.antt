-- The works of a crew. Own.
use Rattle.std.specs.Prelude.{List}
use Rattle.trex_crew.specs.declared.crew.Crew.{Crew}
pub use Rattle.trex_crew.specs.Orders.{AreInOrder}

-- the works, in order of core
abbrev pub works_of : {T : Type 0} → Crew T → List T
works_of crew = crew.works.items
