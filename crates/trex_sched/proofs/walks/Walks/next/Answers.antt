use Rattle.std.proofs.Common.{◌≡◌, List, [], ◌∷◌, drop, set, get_or, sym, ap, ◌∙◌, subst, arith}
use Rattle.std.proofs.lemmas.Option.{slice_get_within, get_or_from_slice_get}
use Rattle.std.specs.BinaryHeap.{heap_items}
use Rattle.std.specs.List.{AllByRecursion, slice_get}
use Rattle.trex_merge.specs.Order.{AreDistinct, IsRising, joined, ordered}
use Rattle.trex_sched.specs.declared.slot.Slot.{Slot}
use Rattle.trex_sched.specs.Entries.{key_of}
use Rattle.trex_sched.specs.Heads.{HaveOwnStreams}
use Rattle.trex_sched.proofs.Heads.{BeginsAt, first_goes, none_first, own_rest, some_first}
use Rattle.trex_sched.proofs.walks.Walks.next.Goals as goal

-- without a head nothing is left
nothing_left : (c : goal.After-from_residual) → ordered key_of (joined c.self.inside.walks.items) ≡ []
nothing_left c =
    let s = c.self.inside in
    let at = c.self.invariant in
    ap (ordered key_of) (c.least_goes_first.ensures.none s.walks.items (none_first s.walks.items s.first (heap_items s.others) c.in_err-head.was at.known at.least))

pub returns-in_err-head-clause-slot : goal.returns-in_err-head-clause-slot
returns-in_err-head-clause-slot c =
    c.from_residual.ensures ∙ sym (ap (λ (l : List Slot). slice_get l 0) (sym c.self.view_is ∙ nothing_left c))

pub returns-in_err-head-clause-rest : goal.returns-in_err-head-clause-rest
returns-in_err-head-clause-rest c = sym c.self.view_is ∙ nothing_left c ∙ sym (ap (drop 1) (sym c.self.view_is ∙ nothing_left c))

pub take_next-requires-clause-place : goal.take_next-requires-clause-place
take_next-requires-clause-place c =
    let s = c.self.inside in
    let begin = some_first s.walks.items s.first (heap_items s.others) c.in_ok-head.head c.in_ok-head.was c.self.invariant.apart c.self.invariant.known c.self.invariant.least in
    let within = slice_get_within s.walks.items c.in_ok-head.head.place _ begin.there in
    let whole = s.walks.ok in
    omega arith

pub take_next-requires-clause-others : goal.take_next-requires-clause-others
take_next-requires-clause-others c =
    let s = c.self.inside in
    first_goes s.walks.items s.first (heap_items s.others) c.in_ok-head.head c.in_ok-head.was c.self.invariant.known

-- the walk that is passed begins with the first packet of all
least : (c : goal.After-take_next) → BeginsAt c.self.inside.walks.items c.in_ok-head.head.place
least c =
    let s = c.self.inside in
    some_first s.walks.items s.first (heap_items s.others) c.in_ok-head.head c.in_ok-head.was c.self.invariant.apart c.self.invariant.known c.self.invariant.least

list_is : (c : goal.After-take_next) → get_or c.self.inside.walks.items c.in_ok-head.head.place [] ≡ (least c).slot ∷ (least c).rest
list_is c =
    get_or_from_slice_get c.self.inside.walks.items c.in_ok-head.head.place ((least c).slot ∷ (least c).rest) [] (least c).there

walks_are : (c : goal.After-take_next) → c.take_next.new.walks.items ≡ set c.self.inside.walks.items c.in_ok-head.head.place (least c).rest
walks_are c =
    c.take_next.ensures.walks ∙ ap (λ (l : List Slot). set c.self.inside.walks.items c.in_ok-head.head.place (drop 1 l)) (list_is c)

now_is : (c : goal.After-take_next)
    → c.args.self.now ≡ (least c).slot ∷ ordered key_of (joined (set c.self.inside.walks.items c.in_ok-head.head.place (least c).rest))
now_is c =
    sym c.self.view_is
    ∙ c.least_goes_first.ensures.first c.self.inside.walks.items c.in_ok-head.head.place (least c).slot (least c).rest (least c).there
    c.self.invariant.rising c.self.invariant.distinct (least c).least

pub invariant_of-self : goal.invariant_of-self
invariant_of-self c =
    let lists = c.self.inside.walks.items in
    let place = c.in_ok-head.head.place in
    let slot = (least c).slot in
    let rest = (least c).rest in
    let laws = c.least_goes_first.ensures in
    record {
      rising = subst (AllByRecursion (IsRising key_of)) (sym (walks_are c)) (laws.rising lists place slot rest (least c).there c.self.invariant.rising);
      distinct = subst (λ (l : List (List Slot)). AreDistinct key_of (joined l)) (sym (walks_are c)) (laws.distinct lists place slot rest (least c).there c.self.invariant.distinct);
      apart = subst HaveOwnStreams (sym (walks_are c)) (own_rest lists place slot rest (least c).there c.self.invariant.apart);
      known = c.take_next.ensures.known;
      least = c.take_next.ensures.least;
      heap = c.take_next.ensures.heap;
    }

pub returns-clause-slot : goal.returns-clause-slot
returns-clause-slot c =
    c.take_next.ensures.slot ∙ ap (λ (l : List Slot). slice_get l 0) (list_is c) ∙ sym (ap (λ (l : List Slot). slice_get l 0) (now_is c))

pub returns-clause-rest : goal.returns-clause-rest
returns-clause-rest c = ap (λ (l : List (List Slot)). ordered key_of (joined l)) (walks_are c) ∙ sym (ap (drop 1) (now_is c))
