use Rattle.trex_claims.specs.Moves.{round_closed, state_at, emptied}
use Rattle.trex_crew.proofs.Fetched.{fetched_calm}
use Rattle.trex_crew.proofs.fetching.fetch_one.Goals as goal

pub returns-clause-calm : goal.returns-clause-calm
returns-clause-calm g c =
    let me = c.args.seat.now.me in
    fetched_calm _ c.args.core (emptied (state_at (round_closed me.0) c.args.core)) me c.fetch.new.seat.me c.requires.first c.requires.free.0 c.fetch.ensures.cores c.fetch.ensures.closed c.fetch.ensures.seat
