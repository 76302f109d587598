use Rattle.std.proofs.Common.{◌∙◌, ap}
use Rattle.trex_claims.specs.Moves.{state_at, round_closed, emptied}
use Rattle.trex_claims.proofs.CallerLemmas.{state_elsewhere}
use Rattle.trex_claims.proofs.SlotLemmas.{closed_slot}
use Rattle.trex_turns.proofs.claims.fetch_one.Goals as goal

pub returns-clause-others : goal.returns-clause-others
returns-clause-others c other apart =
    let v = c.args.seat.now.me.0 in
    let u = round_closed v in
    let core = c.args.core in
    ap (λ m. (state_at m.0 other).slot) c.fetch.ensures.seat ∙ ap (λ t. t.slot) (state_elsewhere u core other (emptied (state_at u core)) apart)
    ∙ closed_slot v.round.running v other
