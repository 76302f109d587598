use Rattle.std.proofs.Common.{◌≡◌, ◌++◌, drop, length, map, take, sym, ap, ◌∙◌, subst, arith}
use Rattle.std.proofs.lemmas.List.{take_at}
use Rattle.std.specs.List.{AllByRecursion}
use Rattle.trex_core.specs.Registers.{IsAt, Standing, moved, restarts_of, shown, variables_of}
use Rattle.trex_core.proofs.Registering.{moved_at, restarts-moved, variables-moved}
use Rattle.trex_core.proofs.registers.Registers.go_to.Goals as goal

-- the registers after the move
registers_are : (c : goal.After-self-4-1)
    → take c.self.inside.registers.len (c.go_all.new.registers ++ drop (length c.go_all.new.registers) c.self.inside.registers.items)
    ≡ map (moved c.between-by_number.result c.between-by_place.result) c.self.inside.registers.items
registers_are c =
    let i = c.self.inside in
    take_at c.go_all.new.registers (drop (length c.go_all.new.registers) i.registers.items) i.registers.len (omega arith)
    ∙ c.go_all.ensures.registers ∙ ap (map (moved c.between-by_number.result c.between-by_place.result)) c.deref_mut.ensures.value

pub invariant_of-self : goal.invariant_of-self
invariant_of-self c =
    let i = c.self.inside in
    let by_number = c.between-by_number.result in
    let by_place = c.between-by_place.result in
    let same = registers_are c in
    record {
      number_small = c.requires.number;
      place_small = c.requires.place;
      stand = subst (AllByRecursion (IsAt i.cores c.args.number c.args.place)) (sym same)
          (moved_at i.cores i.number i.place c.args.number c.args.place by_number by_place i.registers.items c.self.invariant.stand
          c.between-by_number.ensures c.between-by_place.ensures);
      read = take_at c.go_all.new.values (drop (length c.go_all.new.values) i.values.items) i.values.len (omega arith)
          ∙ c.go_all.ensures.values ∙ ap (map shown) (c.go_all.ensures.registers ∙ ap (map (moved by_number by_place)) c.deref_mut.ensures.value ∙ sym same);
    }

pub returns : goal.returns
returns c =
    let i = c.self.inside in
    let by_number = c.between-by_number.result in
    let by_place = c.between-by_place.result in
    let vs = ap variables_of (registers_are c) ∙ variables-moved by_number by_place i.registers.items in
    let bs = ap restarts_of (registers_are c) ∙ restarts-moved by_number by_place i.registers.items in
    (λ k. let s : Standing = record { variables = vs k; restarts = bs k; cores = i.cores; number = c.args.number; place = c.args.place } in s)
    ∙ ap (λ (s : Standing). let t : Standing = record s { number = c.args.number; place = c.args.place } in t) c.self.view_is
