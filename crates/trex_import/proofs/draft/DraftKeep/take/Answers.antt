use Rattle.std.proofs.Common.{◌+◌, Some, refl, arith}
use Rattle.trex_io.specs.Seen.{Seen}
use Rattle.trex_import.proofs.DraftLemmas.{stands-more}
use Rattle.trex_import.proofs.draft.DraftKeep.take.Goals as goal

pub returns-clause-stands : goal.returns-clause-stands
returns-clause-stands c = λ rs stands.
    let kept = c.keep.new.self in
    let new = record kept { first = Some c.unwrap_or.result; last = Some c.args.time; records = kept.records + 1 } in
    let r : Seen = record { time = c.args.time; bytes = c.args.bytes.now; original = c.args.original } in
    stands-more c.args.self.now new rs r c.unwrap_or.result c.unwrap_or-2.result stands (record {
      start_is = c.unwrap_or.ensures;
      before_is = c.unwrap_or-2.ensures;
      records = omega (arith, c.in_ok-keep.ensures.same);
      first = refl;
      last = refl;
      unfit = c.in_ok-keep.ensures.unfit;
      entries = c.in_ok-keep.ensures.entries;
      bytes = λ i. omega (arith, c.type_inv.bytes i);
    })
