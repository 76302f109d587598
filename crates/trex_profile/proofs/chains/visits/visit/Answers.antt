use Rattle.std.proofs.Common.{◌≡◌, ◌+◌, ◌-◌, ◌<◌, All, length, Some, false, sym, ◌∙◌, ap, subst, arith}
use Rattle.std.proofs.lemmas.List.{length_push}
use Rattle.std.proofs.lemmas.List.Elements.{All-push}
use Rattle.trex_profile.specs.Visits.{has, link_at}
use Rattle.trex_profile.proofs.Visiting.{link_at-get, visited-push, visit-again, visit-last, visit-next, visit-out}
use Rattle.trex_profile.proofs.chains.visits.visit.Goals as goal

pub returns-in-Some-clause-value : goal.returns-in-Some-clause-value
returns-in-Some-clause-value c =
    visit-again _ (length c.args.links.now + 1 - (c.loop-step._step + 1)) c.args.links.now c.loop-step.order.items c.loop-step.seen.keys c.loop-step.at c.args.start c.in-Some.place
    (omega arith) c.loop-step.invariant.left c.loop-step.invariant.same c.in-Some.ensures.index c.in-Some.ensures.found

pub returns-in-None-clause-value : goal.returns-in-None-clause-value
returns-in-None-clause-value c =
    let new : has c.loop-step.order.items c.loop-step.at ≡ false = ap (λ keys. has keys c.loop-step.at) (sym c.loop-step.invariant.same) ∙ sym c.in_default.ensures.found in
    visit-last _ (length c.args.links.now + 1 - (c.loop-step._step + 1)) c.args.links.now c.loop-step.order.items c.push.new.self.items c.loop-step.at c.args.start
    (omega arith) c.loop-step.invariant.left new (link_at-get c.args.links.now c.loop-step.at _ c.loop-step.invariant.here ∙ c.in-None.is) c.in_ok-push.ensures.items

pub loop-step-preserved : goal.loop-step-preserved
loop-step-preserved c =
    let new : has c.loop-step.order.items c.loop-step.at ≡ false = ap (λ keys. has keys c.loop-step.at) (sym c.loop-step.invariant.same) ∙ sym c.in_default.ensures.found in
    let follows : link_at c.args.links.now c.loop-step.at ≡ Some c.in-Some-links.next = link_at-get c.args.links.now c.loop-step.at _ c.loop-step.invariant.here ∙ c.in-Some-links.is in
    record {
      here = c.requires.within c.loop-step.at c.in-Some-links.next follows;
      same = visited-push c.loop-step.seen.keys c.loop-step.order.items c.insert.new.self.keys c.push.new.self.items c.loop-step.at c.loop-step.invariant.same new c.in_ok-insert.ensures.keys c.in_ok-push.ensures.items;
      few = omega (arith, ap length c.in_ok-push.ensures.items, length_push c.loop-step.order.items c.loop-step.at, c.loop-step.invariant.few);
      within = subst (All (λ at. at < length c.args.links.now)) (sym c.in_ok-push.ensures.items)
          (All-push (λ at. at < length c.args.links.now) c.loop-step.order.items c.loop-step.at c.loop-step.invariant.within c.loop-step.invariant.here);
      left = visit-next _ (length c.args.links.now + 1 - (c.loop-step._step + 1)) c.args.links.now c.loop-step.order.items c.push.new.self.items c.loop-step.at c.args.start c.in-Some-links.next
          (omega arith) c.loop-step.invariant.left new follows c.in_ok-push.ensures.items;
    }

pub returns-clause-value : goal.returns-clause-value
returns-clause-value c = visit-out _ c.args.links.now c.loop-step.order.items c.loop-step.at c.args.start (omega arith) c.loop-step.invariant.left

pub returns-in-Some-clause-within : goal.returns-in-Some-clause-within
returns-in-Some-clause-within c = c.loop-step.invariant.within

pub returns-clause-within : goal.returns-clause-within
returns-clause-within c = c.loop-step.invariant.within

pub returns-in-None-clause-within : goal.returns-in-None-clause-within
returns-in-None-clause-within c =
    subst (All (λ at. at < length c.args.links.now)) (sym c.in_ok-push.ensures.items)
    (All-push (λ at. at < length c.args.links.now) c.loop-step.order.items c.loop-step.at c.loop-step.invariant.within c.loop-step.invariant.here)
