use Rattle.std.proofs.Common.{◌≡◌, ◌+◌, ℕ, [], ◌∷◌, ◌++◌, sym, ap, ◌∙◌, arith}
use Rattle.std.specs.List.{slice_range}
use Rattle.trex_sum.specs.Checksum.{fold_of, sum_of}
use Rattle.trex_fields.specs.Bytes.{put}
use Rattle.byteorder.specs.Endian.{big_bytes}
use Rattle.trex_vm.specs.Fix.{sum_place, written_sum, segment_length, segment_at, pseudo_header}
use Rattle.trex_vm.proofs.Fixed.{segment_fits-tells, segment_length-put, sum_place-within, with_checksum_by_steps}
use Rattle.trex_vm.proofs.fix.write_segment_sum.Goals as goal

pub returns : goal.returns
unfolding segment_at
returns c =
    let version = c.args.version in
    let kind = c.args.kind in
    let ip = c.args.ip in
    let header = c.args.header in
    let at = ip + header in
    let whole = c.args.packet.now in
    let zeroed = c.write_be.new.bytes in
    let known = segment_fits-tells version kind ip header whole c.requires.fits in
    let least = sum_place-within kind in
    let place = c.sum_place.ensures.value in
    let zeroes = c.write_be.ensures ∙ ap (λ (n : ℕ). put (at + n) (0 ∷ 0 ∷ []) whole) place in
    let writes = c.write_be-2.ensures ∙ ap (λ (n : ℕ). put (at + n) (big_bytes 2 c.from.result) zeroed) place in
    let kept : segment_length version kind ip header zeroed ≡ segment_length version kind ip header whole =
    ap (segment_length version kind ip header) zeroes ∙ segment_length-put version kind ip header (0 ∷ 0 ∷ []) whole c.requires.long (omega arith) in
    let len = ap (λ (n : ℕ). fold_of (sum_of (pseudo_header version ip n zeroed ++ slice_range zeroed at (at + n)))) (c.requires.len ∙ sym kept) in
    let completes = c.from.ensures ∙ c.written_sum.ensures in
    with_checksum_by_steps (written_sum kind) (segment_at version kind ip header) (at + sum_place kind) whole zeroed c.write_be-2.new.bytes c.folded_segment-folded.result c.from.result zeroes (c.folded_segment-folded.ensures ∙ len) completes writes
