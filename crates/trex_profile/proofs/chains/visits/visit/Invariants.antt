use Rattle.std.proofs.Common.{◌≡◌, ◌+◌, ◌-◌, ◌≤◌, ◌<◌, All, length}
use Rattle.trex_profile.specs.Visits.{visits, round_of}
use Rattle.trex_profile.proofs.chains.visits.visit.Given as goal

abbrev pub invariant-loop-step : goal.invariant-loop-step
invariant-loop-step l = record {
  here : l.at < length l.links;
  same : l.seen.keys ≡ l.order.items;
  few : length l.order.items ≤ l._step;
  within : All (λ at. at < length l.links) l.order.items;
  left : visits (length l.links + 1 - l._step) l.links l.order.items l.at ≡ round_of l.links l.start;
}
