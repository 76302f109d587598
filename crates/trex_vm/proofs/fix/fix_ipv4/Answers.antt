use Rattle.std.proofs.Common.{◌≡◌, ◌+◌, sym, ap, ◌∙◌, ℕ, [], ◌∷◌, arith, zero-add}
use Rattle.std.specs.List.{slice_range}
use Rattle.trex_sum.specs.Checksum.{fold_of, sum_of}
use Rattle.trex_vm.specs.Fix.{header_length, header_at}
use Rattle.trex_vm.proofs.Fixed.{header_length-put, with_checksum_by_steps}
use Rattle.trex_vm.proofs.fix.fix_ipv4.Goals as goal

pub returns : goal.returns
unfolding header_at
returns c =
    let at = c.args.at in
    let whole = c.args.packet.now in
    let same : header_length c.write_be.new.bytes at ≡ header_length whole at = rw c.write_be.ensures (header_length-put at (at + 10) (0 ∷ 0 ∷ []) whole (omega arith) (omega arith)) in
    let end = ap (λ (n : ℕ). fold_of (sum_of (slice_range c.write_be.new.bytes at (at + n)))) (c.words_to_bytes.ensures ∙ sym same) in
    with_checksum_by_steps (λ n. n) (header_at at) (at + 10) whole c.write_be.new.bytes c.write_be-2.new.bytes c.fold_sum-folded.result c.from.result c.write_be.ensures (c.fold_sum-folded.ensures ∙ ap fold_of (zero-add _) ∙ end) c.from.ensures c.write_be-2.ensures
