use Rattle.std.proofs.Common.{◌+◌, ◌-◌, ◌++◌, ℕ, [], length, ap, ◌∙◌, option_map, refl, arith}
use Rattle.byteorder.specs.Endian.{big_bytes}
use Rattle.trex_sum.specs.Checksum.{ones_for_zero}
use Rattle.trex_headers.specs.Header.{pseudo_header}
use Rattle.trex_headers.specs.Layer.{layer_of}
use Rattle.trex_headers.proofs.Sums.{sealed-by}
use Rattle.trex_headers.proofs.header.write_udp.Goals as goal

pub returns : goal.returns
returns c =
    let pseudo = pseudo_header (option_map (λ one. layer_of one.now) c.args.before) 17 (8 + length c.args.payload.now) in
    let front = c.args.front.now in
    c.write_sealed.ensures ∙ ap (λ (n : ℕ). front ++ (big_bytes 2 n ++ [])) (c.ones_for_zero.ensures.value ∙ ap (λ (folded : ℕ). ones_for_zero (65535 - folded)) c.fold.ensures)
    ∙ sealed-by ones_for_zero pseudo front [] c.args.payload.now (c.pseudo_sum.result + c.sum_words.result + c.sum_words-2.result)
    c.pseudo_sum.ensures.words (omega arith) refl (omega (arith, c.pseudo_sum.ensures.value))
