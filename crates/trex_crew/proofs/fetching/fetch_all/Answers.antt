use Rattle.std.proofs.Common.{◌≡◌, inr, ⊎_elim, ℕ, ◌+◌, ◌∷◌, [], length, ap, sym, subst, ◌∙◌, true, arith, length-append}
use mathlib.Core.Logic.{dite}
use native.Mathlib.Decide.{ℕ_discrete}
use Rattle.trex_claims.specs.Board.{IsPiece, below}
use Rattle.trex_claims.specs.Boards.{cores_of}
use Rattle.trex_claims.specs.Moves.{round_closed, state_at}
use Rattle.trex_claims.specs.Views.{IsEmpty, IsFull, times}
use Rattle.trex_claims.proofs.SlotLemmas.{closed_slot}
use Rattle.trex_crew.specs.Rounds.{IsCalm, ArePieces}
use Rattle.trex_crew.proofs.Fetched.{pieces_snoc, still_ahead}
use Rattle.trex_crew.proofs.fetching.fetch_all.Goals as goal

pub fetch_one-requires-clause-full : goal.fetch_one-requires-clause-full
fetch_one-requires-clause-full g c κs within =
    let core = c.loop-core.core in
    let v = c.loop-core.seat.me.0 in
    let first = c.args.seat.now.me.0 in
    let same : (state_at v core).slot ≡ (state_at first core).slot =
    sym (closed_slot v.round.running v core) ∙ ap (λ t. t.slot) (c.loop-core.invariant.ahead core (omega arith)) ∙ closed_slot first.round.running first core in
    subst IsFull (sym same) (c.requires.full core c.loop-core-test.true)

pub loop-core-preserved : goal.loop-core-preserved
loop-core-preserved g c =
    let p = g.T.Piece in
    let i = c.loop-core.invariant in
    let core = c.loop-core.core in
    let me = c.loop-core.seat.me in
    let first = c.args.seat.now.me in
    let new = c.fetch_one.new.seat.me in
    let e = c.fetch_one.ensures in
    let work = e.works.0 in
    let known = i.ahead core (omega arith) in
    let place : core ≡ 0 + length c.loop-core.works.items = let n = i.count in omega arith in
    let piece = subst (λ t. IsPiece p.core_of p.turns_of p.stem_of p.is_settled core t 0 work) known e.works.2 in
    let pieces = pieces_snoc p.core_of p.turns_of p.stem_of p.is_settled (round_closed first.0) 0 c.loop-core.works.items work core place i.works piece in
    let once : (other : ℕ) → times other first.0.done ≡ below other (cores_of c.args.board.now) =
    ⊎_elim
    (λ t.
    let running : me.0.round.running ≡ true = ap (λ m. m.0.round.running) t.1 ∙ c.requires.open in
    let told : me.0.saw_none ≡ true = ap (λ m. m.0.saw_none) t.1 ∙ c.requires.saw_none in
    λ other. ap (λ m. times other m.0.done) (sym t.1) ∙ e.each_once running told other)
    (λ t. t.1)
    i.phase in
    let rounds : me.0.round.rounds ≡ first.0.round.rounds = ⊎_elim (λ t. ap (λ m. m.0.round.rounds) t.1) (λ t. t.0.rounds_are) i.phase in
    let calm = subst (λ n. IsCalm (cores_of c.args.board.now) n new) rounds e.calm in
    record {
      board = e.board ∙ i.board;
      first = calm.first;
      alone = e.alone;
      free = calm.free;
      works = subst (λ l. ArePieces p.core_of p.turns_of p.stem_of p.is_settled (round_closed first.0) 0 l) (sym e.works.1) pieces;
      count = let n = i.count in ap length e.works.1 ∙ length-append c.loop-core.works.items (work ∷ []) ∙ ap (λ k. k + 1) n;
      room = e.room ∙ i.room;
      ahead = still_ahead (round_closed first.0) me.0 new.0 core calm.closed e.others i.ahead;
      behind = λ other h.
          dite (ℕ_discrete other core)
          (λ q. subst (λ k. IsEmpty (state_at new.0 k).slot) (sym q) e.empty)
          (λ q.
          let what : (state_at new.0 other).slot ≡ (state_at me.0 other).slot = ap (λ t. t.slot) (e.others other q) ∙ closed_slot me.0.round.running me.0 other in
          subst IsEmpty (sym what) (i.behind other (omega arith)));
      phase = inr (calm, once);
    }
