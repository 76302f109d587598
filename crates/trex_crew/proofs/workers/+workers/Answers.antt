use Rattle.std.proofs.Common.{◌≡◌, ◌++◌, [], ℕ, List, sym, ap, subst, rules}
use Rattle.trex_crew.specs.Workers.{Worked}
use Rattle.trex_crew.proofs.SeatDraws.{worked_two}
use Rattle.trex_crew.proofs.workers.+workers.Goals as goal

pub work_by_gates-returns-else-gates-lt2-clause-gates : goal.work_by_gates-returns-else-gates-lt2-clause-gates
work_by_gates-returns-else-gates-lt2-clause-gates g t c =
    let left = c.split_at_mut-left.result.0.now in
    let right = c.split_at_mut-left.result.1.now in
    let seat = c.split.new.seat.me.0 in
    let threads = c.work_in_threads.new in
    let whole : left ++ right ≡ c.args.gates.now = search rules in
    let none : c.unwrap-other.result.me.0.done ≡ [] = search rules in
    let before : seat.done ≡ c.args.seat.now.me.0.done = ap (λ m. m.0.done) c.split.ensures.seat in
    let joined : threads.other.me.0.done ++ threads.seat.me.0.done ≡ c.join.new.seat.me.0.done = sym (ap (λ m. m.0.done) c.join.ensures.seat) in
    subst (λ (q : List g.row.G.Denot × List ℕ × List ℕ). Worked g.G.Gate.entries c.args.site.now.round q.0 (threads.left ++ threads.right) q.1 q.2)
    (λ i. (whole i, before i, joined i))
    (worked_two g.G.Gate.entries c.args.site.now.round left right threads.left threads.right c.unwrap-other.result.me.0.done threads.other.me.0.done seat.done threads.seat.me.0.done none
    c.work_in_threads.ensures.left c.work_in_threads.ensures.right)
