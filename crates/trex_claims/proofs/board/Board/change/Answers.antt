use Rattle.std.proofs.Common.{◌+◌, ◌<◌, ◌⊎◌, sym, subst, ◌∙◌, arith}
use Rattle.trex_claims.specs.Views.{IsFull, IsEmpty}
use Rattle.trex_claims.specs.Moves.{state_at, round_closed}
use Rattle.trex_claims.proofs.SlotLemmas.{closed_slot}
use Rattle.trex_claims.proofs.CallLemmas.{first_step, gives_back, took_at, returned_is, returned_off, found_is}
use Rattle.trex_claims.proofs.board.Board.change.Goals as goal

pub load-requires : goal.load-requires
load-requires g c =
    let piece = g.T.Piece in
    let table = c.args.self.now.table.shared.table_id in
    let v = c.args.seat.now.me.0 in
    let core = c.args.core in
    let word : core + 1 < table.words = omega (arith, c.args.self.now.sized.0, c.requires.core) in
    let at_home : IsFull (state_at (round_closed v) core).slot ⊎ IsEmpty (state_at (round_closed v) core).slot =
    subst (λ slot. IsFull slot ⊎ IsEmpty slot) (sym (closed_slot v.round.running v core)) c.requires.at_home in (
      c.requires.board,
      word,
      first_step piece.core_of piece.turns_of piece.stem_of piece.is_settled table.slots c.args.seat.now.id c.args.seat.now.me core c.requires.first c.requires.free.0 c.requires.alone c.requires.core at_home,
    )

pub load-requires-2 : goal.load-requires-2
load-requires-2 g c =
    let piece = g.T.Piece in
    let table = c.args.self.now.table.shared.table_id in
    let me = c.args.seat.now.me in
    let core = c.args.core in
    let word : core + 1 < table.words = omega (arith, c.args.self.now.sized.0, c.requires.core) in
    let r = took_at piece.core_of piece.turns_of piece.stem_of piece.is_settled table.slots core me c.load.new.seat.me c.load.ensures.2 in
    let seat = c.exchange-found.new.seat in (
      c.exchange-found.ensures.0 ∙ c.load.ensures.0 ∙ c.requires.board,
      word,
      gives_back piece.core_of piece.turns_of piece.stem_of piece.is_settled table.slots core me c.load.new.seat.me c.requires.free.1 c.requires.core r c.args.new seat.me c.exchange-found.ensures.3
          seat.id c.requires.first c.requires.new,
    )

pub returns-clause-found : goal.returns-clause-found
returns-clause-found g c =
    let piece = g.T.Piece in
    let table = c.args.self.now.table.shared.table_id in
    let me = c.args.seat.now.me in
    let r = took_at piece.core_of piece.turns_of piece.stem_of piece.is_settled table.slots c.args.core me c.load.new.seat.me c.load.ensures.2 in
    found_is piece.core_of piece.turns_of piece.stem_of piece.is_settled table.slots c.args.core me c.load.new.seat.me c.requires.free.1 c.requires.core r c.exchange-found.result c.exchange-found.ensures.2

pub returns-clause-each_once : goal.returns-clause-each_once
returns-clause-each_once g c = c.load.ensures.2.each_once

pub returns-clause-seat : goal.returns-clause-seat
returns-clause-seat g c =
    let piece = g.T.Piece in
    let table = c.args.self.now.table.shared.table_id in
    let me = c.args.seat.now.me in
    let r = took_at piece.core_of piece.turns_of piece.stem_of piece.is_settled table.slots c.args.core me c.load.new.seat.me c.load.ensures.2 in
    returned_is piece.core_of piece.turns_of piece.stem_of piece.is_settled table.slots c.args.core me c.load.new.seat.me c.requires.free.1 c.requires.core r c.args.new c.exchange-found.new.seat.me c.exchange-found.ensures.3 c.load-2.new.seat.me c.load-2.ensures.2

pub returns-clause-closed : goal.returns-clause-closed
returns-clause-closed g c =
    let piece = g.T.Piece in
    let table = c.args.self.now.table.shared.table_id in
    let me = c.args.seat.now.me in
    let r = took_at piece.core_of piece.turns_of piece.stem_of piece.is_settled table.slots c.args.core me c.load.new.seat.me c.load.ensures.2 in
    returned_off piece.core_of piece.turns_of piece.stem_of piece.is_settled table.slots c.args.core me c.load.new.seat.me c.requires.free.1 c.requires.core r c.args.new c.exchange-found.new.seat.me c.exchange-found.ensures.3 c.load-2.new.seat.me c.load-2.ensures.2
