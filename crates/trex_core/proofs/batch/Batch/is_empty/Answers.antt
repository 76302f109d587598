use Rattle.std.proofs.Common.{◌≡◌, ◌-◌, drop, eqb, length, length-drop, arith}
use Rattle.std.proofs.lemmas.Bool.Decides.{nat_tests}
use Rattle.trex_core.proofs.Records.{none_left}
use Rattle.trex_core.proofs.batch.Batch.is_empty.Goals as goal

pub returns : goal.returns
returns c =
    let i = c.self.inside in
    let e = none_left (drop i.taken i.packets.items) (drop i.from i.text.items) in
    let left : length (drop i.taken i.packets.items) ≡ c.len.result - i.taken = omega (arith, length-drop i.taken i.packets.items) in
    let tests : eqb c.len.result i.taken ≡ eqb (c.len.result - i.taken) 0 = grind (arith, nat_tests) in
    cc
