use Rattle.std.proofs.Common.{◌≡◌, ◌<◌, length, Some, ap, sym, ◌∙◌, arith}
use Rattle.trex_profile.specs.declared.chains.reach.Reach.TheVariants.{Shared}
use Rattle.trex_profile.specs.Refusal.{in_stream}
use Rattle.trex_profile.specs.Visits.{reach_at}
use Rattle.trex_profile.proofs.Members.{shared-here, shared-next}
use Rattle.trex_profile.proofs.Visiting.{noted-get}
use Rattle.trex_profile.proofs.chains.reach.first_shared.Goals as goal

pub returns-in-Shared : goal.returns-in-Shared
returns-in-Shared c =
    let inside : c.loop-at.at < length c.args.reach.now = omega (arith, c.requires.reached.same, c.requires.same) in
    let small : c.loop-at.at < length c.args.links.now = omega (arith, c.requires.same) in
    let shared : reach_at c.args.links.now c.args.starts.now c.loop-at.at ≡ Shared =
    sym (c.requires.reached.each c.loop-at.at small) ∙ noted-get c.args.reach.now c.loop-at.at _ inside ∙ c.in-Shared.is in
    ap Some (c.in_stream.ensures ∙ ap (in_stream c.loop-at.at) c.of_stream.ensures)
    ∙ sym (shared-here c.args.links.now c.args.starts.now c.args.members.now c.loop-at.at (omega arith) shared) ∙ c.loop-at.invariant

pub loop-at-preserved : goal.loop-at-preserved
loop-at-preserved c =
    let inside : c.loop-at.at < length c.args.reach.now = omega (arith, c.requires.reached.same, c.requires.same) in
    let small : c.loop-at.at < length c.args.links.now = omega (arith, c.requires.same) in
    shared-next c.args.links.now c.args.starts.now c.args.members.now c.loop-at.at (omega arith)
    (λ shared. c.in_default.not-Shared (sym (noted-get c.args.reach.now c.loop-at.at _ inside) ∙ c.requires.reached.each c.loop-at.at small ∙ shared))
    ∙ c.loop-at.invariant
