-- One byte more was passed.
use Rattle.std.proofs.Common.{◌≡◌, ◌+◌, not, ◌&&◌, ◌==◌, ◌∷◌, length, ◌<◌, drop, get_or, sym, ap, ◌∙◌, arith, add-one, drop-cons}
use Rattle.trex_decimal.specs.Quoted.{text_len}
use Rattle.trex_decimal.proofs.Pieces.{text_len-next}
use Rattle.trex_decimal.proofs.quote.text_len.Goals as goal

pub loop-at-preserved : goal.loop-at-preserved
loop-at-preserved c =
    let bytes = c.args.bytes.now in
    let at = c.loop-at.at in
    let protected = c.loop-at.protected in
    let b = get_or bytes at 0 in
    let rest = drop (at + 1) bytes in
    let within : at < length bytes = c.loop-at-test.true in
    let here : drop at bytes ≡ b ∷ rest = rw (add-one, drop-cons bytes at 0) in
    let passed : text_len protected (drop at bytes) ≡ 1 + text_len (not protected && (b == 92)) rest =
    ap (text_len protected) here ∙ text_len-next protected b rest (sym c.is_bare.ensures ∙ c.if-is_bare.false) in
    let next : text_len c.is_bare-protected.result rest ≡ text_len (not protected && (b == 92)) rest = ap (λ p. text_len p rest) c.is_bare-protected.ensures in
    omega (arith, passed, next, c.loop-at.invariant)
