use Rattle.std.proofs.Common.{◌≡◌, ℕ, ◌∷◌, ◌++◌, [], length, sym, ap, ◌∙◌, subst}
use Rattle.std.specs.BinaryHeap.{heap_items}
use Rattle.std.specs.List.Sorted.{IsPermutation}
use Rattle.trex_sched.specs.Heads.{AreHeads, head_of}
use Rattle.trex_sched.proofs.Heads.{empty_added, list_added}
use Rattle.trex_sched.proofs.walks.add.Goals.{in-Some+in_ok-push, in_default}
use Rattle.trex_sched.proofs.walks.add.Goals as goal

pub returns-clause-known : goal.returns-clause-known
returns-clause-known c =
    let lists = c.args.walks.now.items in
    let heads = heap_items c.args.heads.now in
    let longer = lists ++ c.args.walk ∷ [] in
    subst (λ l. AreHeads l (heap_items c.match-peek.heads)) (sym c.in_ok-push-2.ensures.items)
    (elim c.match-peek.branch [
      | in-Some+in_ok-push w ↦
          let more = heap_items w.push.new.self in
          let place : w.len.result ≡ length lists = w.len.ensures ∙ c.args.walks.now.ok.0 in
          let head_is : w.new.result ≡ head_of w.in-Some.slot (length lists) = w.new.ensures ∙ ap (λ (p : ℕ). head_of w.in-Some.slot p) place in
          subst (λ h. AreHeads longer (heap_items h)) (sym w.heads-is)
          (list_added lists heads more c.args.walk w.in-Some.slot c.requires.known (sym c.peek.ensures ∙ w.in-Some.is)
          (subst (λ h. IsPermutation (record { 0 = h } ∷ heads) more) head_is w.in_ok-push.ensures.permutation))
      | in_default w ↦
          subst (λ h. AreHeads longer (heap_items h)) (sym w.heads-is)
          (empty_added lists heads c.args.walk c.requires.known (sym c.peek.ensures ∙ w.in_default.is))
    ])
