-- Each answer by what the bytes hold.
use Rattle.std.proofs.Common.{◌≡◌, ◌<◌, ◌≤◌, length, arith}
use Rattle.std.proofs.lemmas.Bool.Decides.{nat_tests}
use Rattle.trex_pcap.proofs.Aheads.{ahead_none, ahead_many, ahead_torn, ahead_fault, ahead_cut, ahead_whole}
use Rattle.trex_pcap.proofs.ahead.look_ahead.Goals as goal

pub returns-then-is_empty : goal.returns-then-is_empty
returns-then-is_empty c =
    let none : length c.args.bytes.now ≡ 0 = grind (arith, nat_tests) in
    ahead_none c.args.format c.args.before c.args.bytes.now none

pub returns-then-before-eq-MOST_RECORDS : goal.returns-then-before-eq-MOST_RECORDS
returns-then-before-eq-MOST_RECORDS c =
    let some : 0 < length c.args.bytes.now = grind (arith, nat_tests) in
    ahead_many c.args.format c.args.before c.args.bytes.now some (omega arith)

pub returns-then-bytes-lt-RECORD_HEADER : goal.returns-then-bytes-lt-RECORD_HEADER
returns-then-bytes-lt-RECORD_HEADER c =
    let some : 0 < length c.args.bytes.now = grind (arith, nat_tests) in
    ahead_torn c.args.format c.args.before c.args.bytes.now some (omega arith) (omega arith)

pub returns-then-bytes-record : goal.returns-then-bytes-record
returns-then-bytes-record c =
    ahead_cut c.args.format c.args.before (omega arith) c.args.bytes.now (omega arith) c.in-Ok.record c.in-Ok.ensures.value c.in-Ok.ensures.small.0 (omega arith)

pub returns-else-bytes-record : goal.returns-else-bytes-record
returns-else-bytes-record c =
    ahead_whole c.args.format c.args.before (omega arith) c.args.bytes.now (omega arith) c.in-Ok.record c.in-Ok.ensures.value c.in-Ok.ensures.small.0 c.in-Ok.ensures.small.1 (omega arith)

pub returns-in-Err : goal.returns-in-Err
returns-in-Err c =
    ahead_fault c.args.format c.args.before (omega arith) c.args.bytes.now (omega arith) c.in-Err.fault c.in-Err.ensures.value c.in-Err.ensures.own
