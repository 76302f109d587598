use Rattle.std.proofs.Common.{◌≡◌, refl, sym, subst}
use Rattle.std.specs.Prelude.{IsSome}
use Rattle.trex_claims.specs.Board.{IsPiece}
use Rattle.trex_claims.specs.Moves.{state_at, round_closed}
use Rattle.trex_claims.proofs.CallLemmas.{full_fits}
use Rattle.trex_claims.proofs.SlotLemmas.{still_full}
use Rattle.trex_claims.proofs.board.Board.fetch.Goals as goal

pub unwrap-requires : goal.unwrap-requires
unwrap-requires g c =
    let piece = g.T.Piece in
    let v = c.args.seat.now.me.0 in
    let core = c.args.core in
    let state = state_at (round_closed v) core in
    let found = full_fits piece.core_of piece.turns_of piece.stem_of piece.is_settled state.slot core state c.change.result (still_full v core c.requires.full) c.change.ensures.found in
    subst IsSome (sym found.1) refl

pub returns-clause-piece : goal.returns-clause-piece
returns-clause-piece g c =
    let piece = g.T.Piece in
    let v = c.args.seat.now.me.0 in
    let core = c.args.core in
    let state = state_at (round_closed v) core in
    let found = full_fits piece.core_of piece.turns_of piece.stem_of piece.is_settled state.slot core state c.change.result (still_full v core c.requires.full) c.change.ensures.found in
    let same : found.0 ≡ c.unwrap.result = cc in
    subst (λ p. IsPiece piece.core_of piece.turns_of piece.stem_of piece.is_settled core state 0 p) same found.2
