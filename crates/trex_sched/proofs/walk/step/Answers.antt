use Rattle.std.proofs.Common.{◌≡◌, ◌+◌, sym, ap, arith}
use Rattle.trex_sched.specs.declared.slot.Slot.{Slot}
use Rattle.trex_sched.specs.Chain.{chain_of}
use Rattle.trex_sched.proofs.Later.{later_mine, later_rest, mine_small}
use Rattle.trex_sched.proofs.Reached.{has_packets}
use Rattle.trex_sched.proofs.walk.step.Goals as goal

pub next_by_stride-requires-clause-number : goal.next_by_stride-requires-clause-number
next_by_stride-requires-clause-number c =
    let stands = c.requires.stands in
    let small = mine_small (chain_of c.args.chain.now) c.args.core c.args.cores c.args.duration c.args.cursor.now.run c.args.slot.now c.requires.chain stands.0 stands.1.1.0 in
    omega (arith, stands.1.1.0.early)

pub overflow_add-slot : goal.overflow_add-slot
overflow_add-slot c =
    let stands = c.requires.stands in
    let small = mine_small (chain_of c.args.chain.now) c.args.core c.args.cores c.args.duration c.args.cursor.now.run c.args.slot.now c.requires.chain stands.0 stands.1.1.0 in
    omega (arith, stands.1.1.0.early)

pub seek-requires-clause-from : goal.seek-requires-clause-from
seek-requires-clause-from c =
    let stands = c.requires.stands in
    let small = mine_small (chain_of c.args.chain.now) c.args.core c.args.cores c.args.duration c.args.cursor.now.run c.args.slot.now c.requires.chain stands.0 stands.1.1.0 in
    omega (arith, stands.1.1.0.early)

pub returns-in-Some-clause-rest : goal.returns-in-Some-clause-rest
returns-in-Some-clause-rest c =
    let chain = chain_of c.args.chain.now in
    let run = c.args.cursor.now.run in
    let stands = c.requires.stands in
    let mine = later_mine c.args.core c.args.cores c.args.duration run c.args.slot.now c.in-Some.later c.requires.core stands.1.1.0 c.in-Some.ensures.is c.in-Some.ensures.early c.in-Some.ensures.within in
    sym (later_rest chain c.args.core c.args.cores c.args.duration run c.args.slot.now c.in-Some.later c.requires.core (has_packets chain run c.requires.chain stands.0)
    stands.1.1.0 mine (ap (λ (s : Slot). s.in_run) c.in-Some.ensures.is))

pub returns-in-Some-clause-stands : goal.returns-in-Some-clause-stands
returns-in-Some-clause-stands c =
    let run = c.args.cursor.now.run in
    let stands = c.requires.stands in
    let further : c.in-Some.later.in_run ≡ c.args.slot.now.in_run + c.args.cores = ap (λ (s : Slot). s.in_run) c.in-Some.ensures.is in (
      stands.0,
      (
        stands.1.0,
        (
          later_mine c.args.core c.args.cores c.args.duration run c.args.slot.now c.in-Some.later c.requires.core stands.1.1.0 c.in-Some.ensures.is c.in-Some.ensures.early c.in-Some.ensures.within,
          rw further c.in-Some.ensures.stride,
        ),
      ),
    )
