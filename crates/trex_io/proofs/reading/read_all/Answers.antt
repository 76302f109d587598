-- What was taken is what was read before and what the last call gave.
use Rattle.std.proofs.Common.{refl, ◌≡◌, ◌≤◌, ◌++◌, length, take, arith, length-append, vec_len}
use Rattle.std.proofs.KnownBytes.{Consumes-trans}
use Rattle.trex_io.proofs.reading.read_all.Goals as goal

pub returns-then-count-limit-clause-err : goal.returns-then-count-limit-clause-err
returns-then-count-limit-clause-err g c =
    let all = c.loop-count.all.items in
    let last = take c.in-Ok.count c.read.new.into in
    let given : c.in-Ok.count ≡ length last = c.in-Ok.ensures.bound.1 in
    let before : vec_len c.loop-count.all ≡ length all = c.loop-count.all.ok.0 in
    (all ++ last, Consumes-trans _ _ _ all last c.loop-count.invariant.taken c.in-Ok.ensures.bytes.0, (refl, omega (arith, length-append all last)))

pub returns-then-is_err-clause-err : goal.returns-then-is_err-clause-err
returns-then-is_err-clause-err g c =
    let all = c.loop-count.all.items in
    let last = take c.in-Ok.count c.read.new.into in
    let given : c.in-Ok.count ≡ length last = c.in-Ok.ensures.bound.1 in
    let before : vec_len c.loop-count.all ≡ length all = c.loop-count.all.ok.0 in
    let fits : vec_len c.loop-count.all ≤ c.args.limit = c.loop-count.invariant.fits in
    (all ++ last, Consumes-trans _ _ _ all last c.loop-count.invariant.taken c.in-Ok.ensures.bytes.0, omega (arith, length-append all last))
