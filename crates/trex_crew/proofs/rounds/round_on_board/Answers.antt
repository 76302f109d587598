use Rattle.std.proofs.Common.{◌≡◌, ◌++◌, List, length, take, drop, get_or, ap, sym, subst, ◌∙◌, true, arith, rules}
use Rattle.std.proofs.lemmas.List.{take-append-drop}
use mathlib.Core.List.{append-nil}
use Rattle.trex_claims.specs.declared.view.CoreState.{CoreState}
use Rattle.trex_claims.specs.Board.{below}
use Rattle.trex_claims.specs.Moves.{vacant, state_at, round_closed}
use Rattle.trex_claims.specs.Views.{IsFull, times}
use Rattle.trex_crew.proofs.EntryLemmas.{entered_beside}
use Rattle.trex_crew.proofs.Lent.{lent_full}
use Rattle.trex_crew.proofs.Turned.{all_kept, all_turned, opened_ready, entered_works, may_turn, state_turned}
use Rattle.trex_crew.proofs.rounds.round_on_board.Goals as goal

pub begin-base-requires-clause-full : goal.begin-base-requires-clause-full
begin-base-requires-clause-full g c κs within core h =
    let p = g.T.Piece in
    let cores = c.requires.cores in
    lent_full p.turns_of p.stem_of p.is_sound c.lend_all.new.seat.me.0 0 c.args.works.now.items core (omega arith) (omega arith) c.lend_all.ensures.lent

pub work_by_gates-requires-clause-ready : goal.work_by_gates-requires-clause-ready
work_by_gates-requires-clause-ready g c κs within =
    let p = g.T.Piece in
    let me = c.lend_all.new.seat.me in
    let calm = c.lend_all.ensures.calm in
    let long : length me.0.round.cores ≡ length c.args.works.now.items = calm.cores_are ∙ sym c.requires.cores in
    opened_ready me.0 c.begin-base.result me.1 c.begin-base.new.seat.me c.begin-base.ensures.seat calm.free.1
    (may_turn p.core_of p.turns_of p.stem_of p.is_settled p.is_sound p.turned (g.met.T.Piece g.world.𝓛 g.world.𝓜 g.world.𝓡 ((λ s x. x), (λ x. x), (λ x. x), λ x. x)).is_turned me.0 c.args.works.now.items long c.lend_all.ensures.lent c.requires.turns)

pub fetch_all-requires-clause-full : goal.fetch_all-requires-clause-full
fetch_all-requires-clause-full g c κs within core h =
    let p = g.T.Piece in
    let me = c.lend_all.new.seat.me in
    let after = c.work_by_gates.new.seat.me in
    let same : after.0.round.cores ≡ me.0.round.cores = ap (λ r. r.cores) c.work_by_gates.ensures.drawn.round ∙ ap (λ m. m.0.round.cores) c.begin-base.ensures.seat in
    let stand : state_at after.0 core ≡ state_at me.0 core = ap (λ (l : List CoreState). get_or l core vacant) same in
    let count = c.len-count.ensures in
    let cores = c.requires.cores in
    subst (λ t. IsFull t.slot) (sym stand)
    (lent_full p.turns_of p.stem_of p.is_sound me.0 0 c.args.works.now.items core (omega arith) (omega arith) c.lend_all.ensures.lent)

pub returns-clause-kept : goal.returns-clause-kept
returns-clause-kept g c =
    let p = g.T.Piece in
    let me = c.lend_all.new.seat.me in
    let after = c.work_by_gates.new.seat.me in
    let same : after.0.round.cores ≡ me.0.round.cores = ap (λ r. r.cores) c.work_by_gates.ensures.drawn.round ∙ ap (λ m. m.0.round.cores) c.begin-base.ensures.seat in
    let running : after.0.round.running ≡ true = ap (λ r. r.running) c.work_by_gates.ensures.drawn.round ∙ ap (λ m. m.0.round.running) c.begin-base.ensures.seat in
    let count : c.len-count.result ≡ length c.args.works.now.items = search rules in
    let cores = c.requires.cores in
    let long : length me.0.round.cores ≡ length c.args.works.now.items = c.lend_all.ensures.calm.cores_are ∙ sym cores in
    all_kept p.core_of p.turns_of p.stem_of p.is_settled p.is_sound p.turned (g.met.T.Piece g.world.𝓛 g.world.𝓜 g.world.𝓡 ((λ s x. x), (λ x. x), (λ x. x), λ x. x)).is_turned me.0 (round_closed after.0) 0 c.args.works.now.items c.fetch_all.new.works.items
    c.requires.order c.lend_all.ensures.lent c.fetch_all.ensures.works (c.fetch_all.ensures.length ∙ count)
    (λ k h. state_turned me.0 after.0 k c.len-count.result running same (omega arith) (omega arith) (c.fetch_all.ensures.each_once k))

pub returns-clause-works : goal.returns-clause-works
returns-clause-works g c =
    let p = g.T.Piece in
    all_turned p.core_of p.turns_of p.stem_of p.is_settled p.is_sound p.turned (g.met.T.Piece g.world.𝓛 g.world.𝓜 g.world.𝓡 ((λ s x. x), (λ x. x), (λ x. x), λ x. x)).is_turned c.lend_all.new.seat.me.0 0 c.args.works.now.items c.fetch_all.new.works.items
    c.lend_all.ensures.lent (returns-clause-kept g c)

pub returns-clause-gates : goal.returns-clause-gates
returns-clause-gates g c =
    let p = g.T.Piece in
    let after = c.work_by_gates.new.seat.me in
    let worked = c.work_by_gates.ensures.gates in
    let done : after.0.done ≡ worked.0 = worked.1 ∙ ap (λ l. worked.0 ++ l) (ap (λ m. m.0.done) c.begin-base.ensures.seat) ∙ append-nil worked.0 in
    let count : c.len-count.result ≡ length c.args.works.now.items = search rules in
    let n = c.min-workers.result in
    let gates = c.args.gates.now in
    let entered = entered_works g.G.Gate.entries p.core_of worked.0 c.args.works.now.items c.args.round (take n gates) c.work_by_gates.new.gates
    (λ k. ap (times k) (sym done) ∙ c.fetch_all.ensures.each_once k ∙ ap (below k) count) c.requires.order worked.2 in
    let beside = entered_beside g.G.Gate.entries p.core_of c.args.round c.args.works.now.items (take n gates) c.work_by_gates.new.gates (drop n gates) entered in
    rw take-append-drop at beside
