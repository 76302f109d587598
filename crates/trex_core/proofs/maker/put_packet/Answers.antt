use Rattle.std.proofs.Common.{◌≡◌, ◌<◌, ◌∙◌, Option, [], length, slice_get, sym, ap, subst, arith}
use Rattle.std.proofs.lemmas.Bool.Decides.{nat_tests}
use Rattle.std.proofs.Math.Seq.{map-set_same}
use Rattle.std.proofs.lemmas.List.{get_or-set_same, nil_from_length}
use Rattle.std.specs.Option.{IsSomeAnd}
use Rattle.trex_core.specs.Registers.{Standing, values_by}
use Rattle.trex_core.proofs.Making.{no_values, row_is, rows_long, some_is}
use Rattle.trex_profile.specs.Packets.{values_of}
use Rattle.trex_profile.specs.Spec.{IsSpecOf}
use Rattle.trex_profile.specs.Stream.{Stream}
use Rattle.trex_core.proofs.maker.put_packet.Goals as goal

pub put_values-requires-clause-values : goal.put_values-requires-clause-values
put_values-requires-clause-values c =
    let p = c.args.plan.now.profile in
    let slot = c.args.slot.now in
    let spec = c.stream.result.now in
    let s = some_is (slice_get p slot.stream) (λ s. IsSpecOf s spec) c.stream.ensures in
    let empty : length spec.vars.items ≡ 0 = grind (arith, nat_tests) in
    let none = no_values s.0 spec slot.number slot.in_run s.2 (nil_from_length spec.vars.items empty) in
    subst (λ (o : Option Stream). IsSomeAnd o (λ stream. [] ≡ values_of stream slot.number slot.in_run)) (sym s.1) none

pub put_values-requires-2-clause-values : goal.put_values-requires-2-clause-values
put_values-requires-2-clause-values c =
    let p = c.args.plan.now.profile in
    let slot = c.args.slot.now in
    let rows = c.args.registers.now in
    let own = c.index-registers-position.result in
    let long = rows_long values_by values_of rows p c.requires.registers in
    let below : slot.stream < length rows = omega arith in
    let row = row_is values_by values_of rows p slot.stream own c.requires.registers c.requires.slot.stream c.index-registers-position.is in
    let s = some_is (slice_get p slot.stream) (λ s. values_by own ≡ values_of s) row in
    let read : c.values.result.now ≡ values_of s.0 slot.number slot.in_run =
    c.values.ensures
    ∙ ap (λ (r : Standing). values_by r r.number r.place)
    (get_or-set_same rows slot.stream c.go_to.new.self c.index-registers-position-2.result below ∙ c.go_to.ensures)
    ∙ ap (λ (r : Standing). values_by r slot.number slot.in_run) (sym c.index-registers-position.is)
    ∙ ap (λ values. values slot.number slot.in_run) s.2 in
    subst (λ (o : Option Stream). IsSomeAnd o (λ stream. c.values.result.now ≡ values_of stream slot.number slot.in_run)) (sym s.1) read

pub returns-clause-registers : goal.returns-clause-registers
returns-clause-registers c =
    map-set_same values_by c.args.registers.now c.args.slot.now.stream c.go_to.new.self c.index-registers-position.result (ap values_by c.go_to.ensures)
