-- Each answer by what was taken of the source.
use Rattle.std.proofs.Common.{◌<◌, length, take, drop, arith, length-take}
use Rattle.std.proofs.lemmas.List.{length-take-le, take_at}
use Rattle.std.proofs.lemmas.Result.{err_from_is_err_and}
use Rattle.trex_pcap.proofs.Answered.{whole, Follows-end, Follows-many, Follows-torn, Follows-fault, Follows-cut, Follows-record}
use Rattle.trex_pcap.specs.Reading.{captured_in}
use Rattle.trex_pcap.proofs.reader.read_record.Goals as goal

pub returns-then-given-eq0-clause-follows : goal.returns-then-given-eq0-clause-follows
returns-then-given-eq0-clause-follows g c =
    let head = take c.in-Ok.given c.fill.new.into in
    let given = length-take-le c.in-Ok.given c.fill.new.into (omega (arith, c.in-Ok.ensures.bound)) in
    Follows-end c.args.format c.args.before c.args.into.now _ _ head c.in-Ok.ensures.bytes (omega arith) (c.in-Ok.ensures.end (omega arith))

pub returns-then-before-eq-MOST_RECORDS-clause-follows :
    goal.returns-then-before-eq-MOST_RECORDS-clause-follows
returns-then-before-eq-MOST_RECORDS-clause-follows g c =
    let head = take c.in-Ok.given c.fill.new.into in
    let given = length-take-le c.in-Ok.given c.fill.new.into (omega (arith, c.in-Ok.ensures.bound)) in
    Follows-many c.args.format c.args.before c.args.into.now _ _ head c.in-Ok.ensures.bytes (omega arith) (omega arith)

pub returns-then-given-lt-RECORD_HEADER-clause-follows :
    goal.returns-then-given-lt-RECORD_HEADER-clause-follows
returns-then-given-lt-RECORD_HEADER-clause-follows g c =
    let head = take c.in-Ok.given c.fill.new.into in
    let given = length-take-le c.in-Ok.given c.fill.new.into (omega (arith, c.in-Ok.ensures.bound)) in
    Follows-torn c.args.format c.args.before c.args.into.now _ _ head c.in-Ok.ensures.bytes (c.in-Ok.ensures.end (omega arith)) (omega arith) (omega arith) (omega arith)

pub returns-in_err-record-clause-follows : goal.returns-in_err-record-clause-follows
returns-in_err-record-clause-follows g c =
    let head = c.fill.new.into in
    let taken = whole _ _ head c.in-Ok.given (omega arith) c.in-Ok.ensures.bytes in
    let p = err_from_is_err_and c.from_residual.result c.from_residual.ensures.1 in
    rw (p.1, p.2)
    (Follows-fault c.args.format c.args.before c.args.into.now (omega arith) head (omega arith) _ _ _ taken c.in_err-record.ensures.value)

pub returns-then-count-captured-clause-follows : goal.returns-then-count-captured-clause-follows
returns-then-count-captured-clause-follows g c =
    let head = c.fill.new.into in
    let taken = whole _ _ head c.in-Ok.given (omega arith) c.in-Ok.ensures.bytes in
    let read = c.in_ok-record.record in
    let is = c.in_ok-record.ensures.value in
    let small = c.in_ok-record.ensures.small in
    let part = length-take-le read.captured c.args.into.now (omega arith) in
    let bytes = take c.in-Ok-fill.count c.fill-2.new.into in
    let short : length bytes < captured_in c.args.format head = omega (arith, length-take c.in-Ok-fill.count c.fill-2.new.into, is.captured) in
    Follows-cut c.args.format c.args.before _ (omega arith) head (omega arith) _ _ _ bytes
    taken c.in-Ok-fill.ensures.bytes (c.in-Ok-fill.ensures.end (omega arith)) is.faultless short

pub returns-clause-follows : goal.returns-clause-follows
returns-clause-follows g c =
    let head = c.fill.new.into in
    let taken = whole _ _ head c.in-Ok.given (omega arith) c.in-Ok.ensures.bytes in
    let read = c.in_ok-record.record in
    let small = c.in_ok-record.ensures.small in
    let part = length-take-le read.captured c.args.into.now (omega arith) in
    let bytes = c.fill-2.new.into in
    let next = whole _ _ bytes c.in-Ok-fill.count (omega arith) c.in-Ok-fill.ensures.bytes in
    Follows-record c.args.format c.args.before _ (omega arith) head (omega arith) _ _ _ read bytes taken next c.in_ok-record.ensures.value (omega arith)
    (take_at bytes (drop read.captured c.args.into.now) read.captured (omega arith))
