-- A turn writes the first piece of the rest.
use Rattle.std.proofs.Common.{◌≡◌, ℕ, List, Bool, true, false, ◌==◌, ◌<◌, ◌++◌, ◌∷◌, length, take, drop, sym, ap, ◌∙◌, arith, append_assoc, append-nil}
use Rattle.std.specs.List.{flat_map}
use Rattle.trex_decimal.specs.Quoted.{kept, pieces_of, quoted}
use Rattle.trex_decimal.proofs.Pieces.{pieces_of-next, pieces_of-none}
use Rattle.trex_decimal.proofs.quote.quote_numbers.Goals as goal

nonempty : (rest : List ℕ) (b : Bool) → b ≡ (length rest == 0) → b ≡ false → 0 < length rest
nonempty rest b is other = grind arith

empty : (rest : List ℕ) (b : Bool) → b ≡ (length rest == 0) → b ≡ true → length rest ≡ 0
empty rest b is same = grind arith

pub loop-rest-preserved : goal.loop-rest-preserved
loop-rest-preserved c =
    let rest = c.loop-rest.rest.now in
    let out = c.loop-rest.out.items in
    let n = c.piece_len.result in
    let after = drop n rest in
    let some : 0 < length rest = nonempty rest _ c.is_empty.ensures c.loop-rest-test.true in
    let pieces : pieces_of (length rest) rest ≡ take n rest ∷ pieces_of (length after) after = pieces_of-next rest n some c.piece_len.ensures.value in
    let written : c.push_piece.new.out.items ≡ out ++ kept (take n rest) =
    c.in_ok-push_piece.ensures ∙ ap (λ l. out ++ kept l) c.split_at.ensures.front in
    ap (λ l. c.push_piece.new.out.items ++ flat_map kept (pieces_of (length l) l)) c.split_at.ensures.back
    ∙ ap (λ l. l ++ flat_map kept (pieces_of (length after) after)) written
    ∙ append_assoc out (kept (take n rest)) (flat_map kept (pieces_of (length after) after))
    ∙ ap (λ ps. out ++ flat_map kept ps) (sym pieces)
    ∙ c.loop-rest.invariant

pub returns : goal.returns
unfolding quoted
returns c =
    let rest = c.loop-rest.rest.now in
    let out = c.loop-rest.out.items in
    sym (append-nil out) ∙ ap (λ ps. out ++ flat_map kept ps) (sym (pieces_of-none rest (empty rest _ c.is_empty.ensures c.loop-rest-test.false))) ∙ c.loop-rest.invariant
