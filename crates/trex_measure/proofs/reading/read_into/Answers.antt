-- Each step by what stood at the front of the bytes.
use Rattle.std.proofs.Common.{◌≡◌, ℕ, ◌+◌, ◌<◌, ◌≤◌, length, take, drop, Some, Ok, ap, ◌∙◌, [], arith}
use Rattle.std.proofs.lemmas.Bool.Decides.{nat_tests}
use Rattle.std.specs.Io.KnownBytes.{prepend_known}
use Rattle.trex_pcap.specs.declared.fault.CaptureFault.TheVariants.{Torn}
use Rattle.trex_pcap.specs.Place.{Place}
use Rattle.trex_measure.proofs.ProgressLemmas.{Progress-record, Progress-end, Progress-fault, all_there, front_ends, front_torn, Follows-faulty, Follows-last, Follows-none, Follows-whole, exact_kept, exact_bad, exact_fault, sound_fault}
use Rattle.trex_measure.proofs.reading.read_into.Goals as goal

-- the fault at the front is the capture's
pub returns-in-Faulty-clause-sound : goal.returns-in-Faulty-clause-sound
returns-in-Faulty-clause-sound g c =
    let left = g.S.Source.left in
    let stops_there = (rw c.bytes.ensures at c.in-Faulty.ensures).1 in
    let follows = Follows-faulty c.format-format.result c.records.records c.records.window [] (left c.records.input) (Some []) c.in-Faulty.fault stops_there in
    let has = Progress-fault (left c.args.input.now) (prepend_known c.records.window (left c.records.input)) (Some []) _ (g.K.Keep.stands c.records.keep) c.in-Faulty.fault [] c.records.invariant.progress follows in
    rw c.measure_fault-in-Faulty.ensures (sound_fault (left c.args.input.now) c.in-Faulty.fault has)

pub returns-in-Faulty-clause-exact : goal.returns-in-Faulty-clause-exact
returns-in-Faulty-clause-exact g c =
    let left = g.S.Source.left in
    let stops_there = (rw c.bytes.ensures at c.in-Faulty.ensures).1 in
    let follows = Follows-faulty c.format-format.result c.records.records c.records.window [] (left c.records.input) (Some []) c.in-Faulty.fault stops_there in
    let has = Progress-fault (left c.args.input.now) (prepend_known c.records.window (left c.records.input)) (Some []) _ (g.K.Keep.stands c.records.keep) c.in-Faulty.fault [] c.records.invariant.progress follows in
    rw c.measure_fault-in-Faulty.ensures (exact_fault g.K.Keep.stands (left c.args.input.now) c.in-Faulty.fault has)

-- nothing is left, and nothing stood there
pub returns-then-is_empty-clause-counts : goal.returns-then-is_empty-clause-counts
returns-then-is_empty-clause-counts g c =
    let left = g.S.Source.left in
    let short = (rw c.bytes.ensures at c.in-Short.ensures).1 in
    let all = all_there (left c.records.input) (left c.refill.new.source) c.records.window c.refill.new.self c.in-Ok-refill.count c.in-Ok-refill.ensures.more (omega arith) in
    let none : length c.refill.new.self ≡ 0 = grind (arith, nat_tests) in
    let follows = Follows-none c.format-format.result c.records.records c.records.window [] (left c.records.input) all.0
    (front_ends c.format-format.result c.records.records c.records.window short (omega (arith, all.1, none))) in
    Progress-end (left c.args.input.now) (prepend_known c.records.window (left c.records.input)) (Some []) _ (g.K.Keep.stands c.records.keep) [] c.records.invariant.progress follows

pub returns-then-is_empty-clause-exact : goal.returns-then-is_empty-clause-exact
returns-then-is_empty-clause-exact g c =
    let left = g.S.Source.left in
    let short = (rw c.bytes.ensures at c.in-Short.ensures).1 in
    let all = all_there (left c.records.input) (left c.refill.new.source) c.records.window c.refill.new.self c.in-Ok-refill.count c.in-Ok-refill.ensures.more (omega arith) in
    let none : length c.refill.new.self ≡ 0 = grind (arith, nat_tests) in
    let follows = Follows-none c.format-format.result c.records.records c.records.window [] (left c.records.input) all.0
    (front_ends c.format-format.result c.records.records c.records.window short (omega (arith, all.1, none))) in
    exact_kept g.K.Keep.stands (left c.args.input.now) c.records.keep
    (Progress-end (left c.args.input.now) (prepend_known c.records.window (left c.records.input)) (Some []) _ (g.K.Keep.stands c.records.keep) [] c.records.invariant.progress follows)

-- nothing is left behind a part of a record
pub returns-then-count-eq0-clause-sound : goal.returns-then-count-eq0-clause-sound
returns-then-count-eq0-clause-sound g c =
    let left = g.S.Source.left in
    let short = (rw c.bytes.ensures at c.in-Short.ensures).1 in
    let all = all_there (left c.records.input) (left c.refill.new.source) c.records.window c.refill.new.self c.in-Ok-refill.count c.in-Ok-refill.ensures.more (omega arith) in
    let some : 0 < length c.refill.new.self = grind (arith, nat_tests) in
    let follows = Follows-last c.format-format.result c.records.records c.records.window [] (left c.records.input) (Torn (c.records.records + 1)) all.0
    (front_torn c.format-format.result c.records.records c.records.window short (omega (arith, all.1, some))) in (
      tt,
      Progress-fault (left c.args.input.now) (prepend_known c.records.window (left c.records.input)) (Some []) _ (g.K.Keep.stands c.records.keep) (Torn (c.records.records + 1)) []
          c.records.invariant.progress follows tt,
    )

pub returns-then-count-eq0-clause-exact : goal.returns-then-count-eq0-clause-exact
returns-then-count-eq0-clause-exact g c =
    let left = g.S.Source.left in
    let short = (rw c.bytes.ensures at c.in-Short.ensures).1 in
    let all = all_there (left c.records.input) (left c.refill.new.source) c.records.window c.refill.new.self c.in-Ok-refill.count c.in-Ok-refill.ensures.more (omega arith) in
    let some : 0 < length c.refill.new.self = grind (arith, nat_tests) in
    let follows = Follows-last c.format-format.result c.records.records c.records.window [] (left c.records.input) (Torn (c.records.records + 1)) all.0
    (front_torn c.format-format.result c.records.records c.records.window short (omega (arith, all.1, some))) in
    exact_bad g.K.Keep.stands (left c.args.input.now) (Torn (c.records.records + 1))
    (Progress-fault (left c.args.input.now) (prepend_known c.records.window (left c.records.input)) (Some []) _ (g.K.Keep.stands c.records.keep) (Torn (c.records.records + 1)) []
    c.records.invariant.progress follows tt)
