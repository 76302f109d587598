use Rattle.std.proofs.Common.{◌≡◌, ◌+◌, ◌-◌, ◌<◌, length}
use Rattle.trex_profile.proofs.Noting.{IsNoting}
use Rattle.trex_profile.proofs.chains.reach.note.Given as goal

abbrev pub invariant-loop-step : goal.invariant-loop-step
invariant-loop-step l = record {
  same : length l.reach ≡ length l.links;
  here : l.at < length l.links;
  noting : IsNoting (length l.links + 1 - l._step) l.links l.initial.reach l.reach l.start l.at;
}
