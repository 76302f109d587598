use Rattle.std.proofs.Common.{◌≡◌, true, false, Some, map, sym, ap, ◌∙◌, arith}
use Rattle.std.proofs.lemmas.Grind.{common_steps}
use Rattle.trex_profile.specs.declared.rule.Rule.TheVariants.{DuplicateId}
use Rattle.trex_profile.specs.Cross.{duplicate_refusal, rule_at}
use Rattle.trex_profile.specs.Links.{ids}
use Rattle.trex_profile.specs.Member.{member_stream}
use Rattle.trex_profile.specs.Order.{first_each}
use Rattle.trex_profile.specs.Refusal.{in_stream, whole_stream}
use Rattle.trex_profile.specs.Visits.{has}
use Rattle.trex_profile.proofs.Members.{ids-more, duplicate-next}
use Rattle.trex_profile.proofs.OrderLemmas.{first_each-here}
use Rattle.trex_profile.proofs.chains.links.index_ids.Goals as goal

pub loop-at-preserved : goal.loop-at-preserved
loop-at-preserved c =
    let absent : has c.loop-at.found.keys c.index-members-at.result.spec.id ≡ false = grind (arith, common_steps, c.in_ok-is_new.ensures.added) in
    record {
      keys = ids-more c.args.members.now c.loop-at.at c.index-members-at.result c.loop-at.found.keys c.insert_full.new.self.keys (omega arith) c.index-members-at.is
          c.loop-at.invariant.keys absent c.in_ok-is_new.ensures.keys;
      left = duplicate-next c.args.members.now c.loop-at.at c.index-members-at.result c.loop-at.found.keys (omega arith) c.index-members-at.is c.loop-at.invariant.keys absent
          ∙ c.loop-at.invariant.left;
    }

pub returns-then-not-is_new-clause-refused : goal.returns-then-not-is_new-clause-refused
returns-then-not-is_new-clause-refused c =
    let members = c.args.members.now in
    let at = c.loop-at.at in
    let member = c.index-members-at.result in
    let all = ids (map member_stream members) in
    let again : has c.loop-at.found.keys member.spec.id ≡ true = grind (arith, common_steps, c.in_ok-is_new.ensures.added) in
    let here : first_each (duplicate_refusal all) 0 (map member_stream members) ≡ Some (in_stream at (whole_stream DuplicateId)) =
    sym c.loop-at.invariant.left ∙ first_each-here (duplicate_refusal all) member_stream members at member (in_stream at (whole_stream DuplicateId)) (omega arith)
    (ap (λ m. duplicate_refusal all at (member_stream m)) (sym c.index-members-at.is)
    ∙ ap (rule_at DuplicateId at) (ap (λ keys. has keys member.spec.id) (sym c.loop-at.invariant.keys) ∙ again)) in
    λ refusal same. here ∙ cc (same, c.in_stream.ensures, c.of_stream.ensures)
