use Rattle.trex_claims.proofs.Apart.{claimed_once, pieces_back}
use Rattle.trex_claims.proofs.laws.rules_keep_pieces.Goals as goal

pub returns-clause-claims : goal.returns-clause-claims
returns-clause-claims g c = claimed_once g.T.Piece.core_of g.T.Piece.turns_of g.T.Piece.stem_of g.T.Piece.is_settled

pub returns-clause-pieces : goal.returns-clause-pieces
returns-clause-pieces g c = pieces_back g.T.Piece.core_of g.T.Piece.turns_of g.T.Piece.stem_of g.T.Piece.is_settled
