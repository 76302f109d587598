use Rattle.std.proofs.Common.{◌≡◌, ◌+◌, ◌≤◌, ℕ, zero, suc, get_or, take, length, refl, replicate, arith}
use Rattle.std.proofs.lemmas.List.{length-take-le}
use Rattle.trex_claims.proofs.Rounds.{opens}
use Rattle.trex_claims.proofs.board.Board.new.Goals as goal

abbrev nought : ℕ
nought = 0

zeros : (n m i : ℕ) → get_or (take n (replicate m nought)) i 0 ≡ 0
zeros zero m i = refl
zeros (suc n) zero i = refl
zeros (suc n) (suc m) zero = refl
zeros (suc n) (suc m) (suc i) = zeros n m i

pub vacant-requires : goal.vacant-requires
vacant-requires g c =
    let piece = g.T.Piece in
    let few : c.args.cores + 1 ≤ length (replicate 65 nought) = omega (arith, c.requires.few) in
    opens piece.core_of piece.turns_of piece.stem_of piece.is_settled c.args.cores _ c.requires.few (length-take-le (c.args.cores + 1) (replicate 65 nought) few) (zeros (c.args.cores + 1) 65)
