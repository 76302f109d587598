use Rattle.std.proofs.Common.{◌≡◌, List, ◌∷◌, sym, ap, ◌∙◌, arith}
use Rattle.std.proofs.lemmas.Option.{slice_get_within, get_or_from_slice_get}
use Rattle.std.specs.BinaryHeap.{heap_items}
use Rattle.std.specs.List.{slice_get}
use Rattle.trex_merge.specs.Order.{ordered}
use Rattle.trex_sched.specs.declared.slot.Slot.{Slot}
use Rattle.trex_sched.specs.Entries.{key_of}
use Rattle.trex_sched.proofs.Heads.{none_first, some_first}
use Rattle.trex_sched.proofs.walks.Walks.peek.Goals as goal

pub returns-in_err-head : goal.returns-in_err-head
returns-in_err-head c =
    let s = c.self.inside in
    let at = c.self.invariant in
    let empty = none_first s.walks.items s.first (heap_items s.others) c.in_err-head.was at.known at.least in
    let none = c.least_goes_first.ensures.none s.walks.items empty in
    c.from_residual.ensures ∙ sym (ap (λ (l : List Slot). slice_get l 0) (sym c.self.view_is ∙ ap (ordered key_of) none))

pub index-walk-requires : goal.index-walk-requires
index-walk-requires c =
    let s = c.self.inside in
    let begin = some_first s.walks.items s.first (heap_items s.others) c.in_ok-head.head c.in_ok-head.was c.self.invariant.apart c.self.invariant.known c.self.invariant.least in
    let within = slice_get_within s.walks.items c.in_ok-head.head.place _ begin.there in
    let whole = s.walks.ok in
    omega arith

pub returns : goal.returns
returns c =
    let s = c.self.inside in
    let lists = s.walks.items in
    let place = c.in_ok-head.head.place in
    let begin = some_first lists s.first (heap_items s.others) c.in_ok-head.head c.in_ok-head.was c.self.invariant.apart c.self.invariant.known c.self.invariant.least in
    let list_is : c.index-walk.result.now ≡ begin.slot ∷ begin.rest =
    c.index-walk.ensures ∙ get_or_from_slice_get lists place (begin.slot ∷ begin.rest) c.index-walk.result.now begin.there in
    let first = c.least_goes_first.ensures.first lists place begin.slot begin.rest begin.there c.self.invariant.rising c.self.invariant.distinct begin.least in
    c.peek.ensures ∙ ap (λ (l : List Slot). slice_get l 0) list_is ∙ sym (ap (λ (l : List Slot). slice_get l 0) (sym c.self.view_is ∙ first))
