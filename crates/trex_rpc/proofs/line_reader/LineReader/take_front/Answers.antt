-- What is moved is what stands before the first line feed.
use Rattle.std.proofs.Common.{◌≡◌, ◌+◌, ◌-◌, ◌≤◌, ◌∷◌, ◌++◌, take, drop, length-take, sym, ◌∙◌, arith, rules}
use Rattle.trex_rpc.proofs.FeedLemmas.{feed_at, feed_nowhere, after_front}
use Rattle.trex_rpc.proofs.line_reader.LineReader.take_front.Goals as goal

pub returns-in_ok-extend_from_slice-in-Some : goal.returns-in_ok-extend_from_slice-in-Some
returns-in_ok-extend_from_slice-in-Some c =
    let r = c.self.inside in
    let n = c.in-Some.count in
    let kept = take (r.end - r.at) (drop r.at r.piece) in
    let (within, split, free) = feed_at kept n (sym c.in-Some.ensures) in
    let fits : r.at + (n + 1) ≤ r.end = omega (arith, length-take (r.end - r.at) (drop r.at r.piece)) in
    let whole : kept ≡ take n kept ++ 10 ∷ take (r.end - (r.at + (n + 1))) (drop (r.at + (n + 1)) r.piece) = rw (after_front r.piece r.at r.end (n + 1) fits) split in
    (take n kept, sym c.self.view_is ∙ whole, c.in_ok-extend_from_slice-in-Some.ensures.items, free)

pub returns-in_ok-extend_from_slice-in-None : goal.returns-in_ok-extend_from_slice-in-None
returns-in_ok-extend_from_slice-in-None c =
    let r = c.self.inside in
    let kept = take (r.end - r.at) (drop r.at r.piece) in
    let free = feed_nowhere kept (sym c.in-None.ensures) in
    (search rules, rw (← c.self.view_is) c.in_ok-extend_from_slice-in-None.ensures.items, rw (← c.self.view_is) free)
