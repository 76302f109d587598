use Rattle.std.proofs.Common.{◌+◌, ◌-◌, ◌++◌, ℕ, length, ap, ◌∙◌, option_map, refl, arith}
use Rattle.byteorder.specs.Endian.{big_bytes}
use Rattle.trex_headers.specs.Header.{pseudo_header, tcp_back}
use Rattle.trex_headers.specs.Layer.{layer_of}
use Rattle.trex_headers.proofs.Sums.{sealed-by}
use Rattle.trex_headers.proofs.header.write_tcp.Goals as goal

pub returns : goal.returns
returns c =
    let pseudo = pseudo_header (option_map (λ one. layer_of one.now) c.args.before) 6 (20 + length c.args.payload.now) in
    let front = c.args.front.now in
    c.write_sealed.ensures ∙ ap (λ (folded : ℕ). front ++ (big_bytes 2 (65535 - folded) ++ tcp_back)) c.fold.ensures
    ∙ sealed-by (λ n. n) pseudo front tcp_back c.args.payload.now (c.pseudo_sum.result + c.sum_words.result + c.sum_words-2.result)
    c.pseudo_sum.ensures.words (omega arith) refl (omega (arith, c.pseudo_sum.ensures.value))
