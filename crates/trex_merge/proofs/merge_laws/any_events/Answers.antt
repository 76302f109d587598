use Rattle.std.proofs.Common.{◌≡◌, ℕ, ◌<◌, List, sym, ap, ◌∙◌, subst}
use Rattle.trex_merge.specs.Frames.{Frame, sequence}
use Rattle.trex_merge.specs.Machine.{Event, IsEnded, IsPrefixOf, run, start}
use Rattle.trex_merge.specs.Order.{AreDistinct}
use Rattle.trex_merge.specs.Frames.{key_of}
use Rattle.trex_merge.proofs.EventLemmas.{run_keeps, run_limit, sent_prefix, sent_whole, start_is}
use Rattle.trex_merge.proofs.merge_laws.any_events.Goals as goal

pub returns-clause-prefix : goal.returns-clause-prefix
returns-clause-prefix c = λ frames cores limit events distinct some.
    let state = run events (start cores limit frames) in
    subst (λ (n : ℕ). IsPrefixOf state.sent (sequence n frames)) (run_limit events (start cores limit frames))
    (sent_prefix frames state (run_keeps frames (start cores limit frames) events (start_is frames cores limit distinct some)))

whole : (frames : List Frame) (cores limit : ℕ) (events : List Event) → AreDistinct key_of frames → 0 < cores → IsEnded (run events (start cores limit frames))
    → (run events (start cores limit frames)).sent ≡ sequence limit frames
whole frames cores limit events distinct some ended =
    let state = run events (start cores limit frames) in
    sent_whole frames state (run_keeps frames (start cores limit frames) events (start_is frames cores limit distinct some)) ended
    ∙ ap (λ (n : ℕ). sequence n frames) (run_limit events (start cores limit frames))

pub returns-clause-whole : goal.returns-clause-whole
returns-clause-whole c = whole

pub returns-clause-same : goal.returns-clause-same
returns-clause-same c = λ frames cores others limit events later distinct some more ended ended'.
    whole frames cores limit events distinct some ended ∙ sym (whole frames others limit later distinct more ended')
