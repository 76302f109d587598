use Rattle.trex_wire.proofs.CountLemmas.{each_arrives, nothing_lost}
use Rattle.trex_wire.proofs.laws.nothing_vanishes.Goals as goal

pub returns-clause-each : goal.returns-clause-each
returns-clause-each c ask n rs within = each_arrives ask n rs within

pub returns-clause-all : goal.returns-clause-all
returns-clause-all c ask rs = nothing_lost ask rs
