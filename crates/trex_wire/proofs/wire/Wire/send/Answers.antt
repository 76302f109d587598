use Rattle.std.proofs.Common.{◌≡◌, ℕ, ◌+◌, ◌*◌, ◌≤◌, List, [], ◌∷◌, ◌++◌, length, refl, sym, ap, ◌∙◌, subst, arith}
use Rattle.trex_io.specs.Seen.{Seen}
use Rattle.trex_stats.specs.declared.glimpse.Glimpse.{Glimpse}
use Rattle.trex_wire.specs.declared.lanes.Due.{Due}
use Rattle.trex_wire.specs.Lanes.{came_by, one_with, plain_by}
use Rattle.trex_wire.specs.Sent.{Carries, Sent}
use Rattle.trex_wire.specs.Wired.{bytes_by}
use Rattle.trex_wire.proofs.StepLemmas.{IsMore, carries_more, few_bytes, few_copied, few_copies, few_lost}
use Rattle.trex_wire.proofs.wire.Wire.send.Goals as goal

pub put-requires-clause-plain : goal.put-requires-clause-plain
put-requires-clause-plain c =
    omega (arith, c.in_ok-make_room.ensures.plain, few_copies _ c.self.invariant.3.0 c.self.invariant.3.1, c.requires.few, ap (λ (s : Sent). s.sent) c.self.view_is)

pub put-requires-clause-lost : goal.put-requires-clause-lost
put-requires-clause-lost c =
    omega (arith, c.in_ok-make_room.ensures.lost, few_lost _ c.self.invariant.3.0 c.self.invariant.3.1, c.requires.few, ap (λ (s : Sent). s.sent) c.self.view_is)

pub put-requires-clause-copied : goal.put-requires-clause-copied
put-requires-clause-copied c =
    omega (arith, c.in_ok-make_room.ensures.copied, few_copied _ c.self.invariant.3.0 c.self.invariant.3.1, c.requires.few, ap (λ (s : Sent). s.sent) c.self.view_is)

pub put-requires-clause-bytes : goal.put-requires-clause-bytes
put-requires-clause-bytes c =
    let few = few_copies _ c.self.invariant.3.0 c.self.invariant.3.1 in
    omega (arith, c.in_ok-make_room.ensures.bytes, c.self.invariant.2, few, c.requires.few, ap (λ (s : Sent). s.sent) c.self.view_is)

pub invariant_of-self-2 : goal.invariant_of-self-2
invariant_of-self-2 c =
    let old = c.self.inside in
    let words = c.draw_three-words.result in
    let drawn = c.draw_three-words.ensures in
    let r : Seen = record { time = c.args.time; bytes = c.args.bytes.now; original = c.args.original } in
    let rs = c.self.invariant.3.0 in
    let carried = c.self.invariant.3.1 in
    let few : old.sent + 1 ≤ 100000000 = omega (arith, c.requires.few, ap (λ (s : Sent). s.sent) c.self.view_is) in
    let room = c.in_ok-make_room.ensures in
    let more : IsMore _ _ r old.sent words = record {
      ask = refl;
      sent = refl;
      first = c.put.ensures.first ∙ ap (λ (l : List Due). l ++ came_by old.ask 0 old.sent c.args.time c.of-glimpse.result words.copies words.first) room.first
          ∙ ap (λ (g : Glimpse). old.lanes.first.items ++ came_by old.ask 0 old.sent c.args.time g words.copies words.first) c.of-glimpse.ensures;
      second = c.put.ensures.second ∙ ap (λ (l : List Due). l ++ came_by old.ask 1 old.sent c.args.time c.of-glimpse.result words.copies words.second) room.second
          ∙ ap (λ (g : Glimpse). old.lanes.second.items ++ came_by old.ask 1 old.sent c.args.time g words.copies words.second) c.of-glimpse.ensures;
      plain = rw (c.put.ensures.plain, room.plain, c.of-glimpse.ensures) refl;
      lost = c.put.ensures.lost ∙ ap (λ (n : ℕ). n + one_with 0 old.ask words.copies) room.lost;
      copied = c.put.ensures.copied ∙ ap (λ (n : ℕ). n + one_with 2 old.ask words.copies) room.copied;
      bytes = rw (c.put.ensures.bytes, room.bytes) refl;
    } in
    let glimpse = c.of-glimpse.result in
    let captured = length c.args.bytes.now in
    let first : c.put.new.self.first.items ≡ old.lanes.first.items ++ came_by old.ask 0 old.sent c.args.time glimpse words.copies words.first =
    c.put.ensures.first ∙ ap (λ (l : List Due). l ++ came_by old.ask 0 old.sent c.args.time glimpse words.copies words.first) room.first in
    let second : c.put.new.self.second.items ≡ old.lanes.second.items ++ came_by old.ask 1 old.sent c.args.time glimpse words.copies words.second =
    c.put.ensures.second ∙ ap (λ (l : List Due). l ++ came_by old.ask 1 old.sent c.args.time glimpse words.copies words.second) room.second in
    let plain : c.put.new.self.plain ≡ old.lanes.plain + plain_by 0 old.ask words.copies glimpse + plain_by 1 old.ask words.copies glimpse =
    rw (c.put.ensures.plain, room.plain) refl in
    let bytes : c.put.new.self.bytes ≡ old.lanes.bytes + bytes_by 0 old.ask words.copies captured + bytes_by 1 old.ask words.copies captured =
    rw (c.put.ensures.bytes, room.bytes) refl in
    let light : c.put.new.self.bytes ≤ (length c.put.new.self.first.items + length c.put.new.self.second.items + c.put.new.self.plain) * 262144 =
    rw (first, second)
    (few_bytes old.ask old.lanes.first.items old.lanes.second.items old.sent c.args.time captured glimpse words old.lanes.bytes c.put.new.self.bytes old.lanes.plain c.put.new.self.plain c.requires.short
    c.self.invariant.2 bytes plain) in (
      c.self.invariant.0,
      few,
      light,
      (
        rs ++ r ∷ [],
        carries_more _ rs carried _ r old.sent words refl more (drawn.copies old.ask.seed (3 * length rs) carried.generator) (drawn.first old.ask.seed (3 * length rs) carried.generator)
            (drawn.second old.ask.seed (3 * length rs) carried.generator) (drawn.stands old.ask.seed (3 * length rs) carried.generator),
      ),
    )

pub returns-clause-sent : goal.returns-clause-sent
returns-clause-sent c rs carries =
    let old = c.self.inside in
    let words = c.draw_three-words.result in
    let drawn = c.draw_three-words.ensures in
    let r : Seen = record { time = c.args.time; bytes = c.args.bytes.now; original = c.args.original } in
    let carried = subst (λ (s : Sent). Carries s rs) (sym c.self.view_is) carries in
    let room = c.in_ok-make_room.ensures in
    let more : IsMore _ _ r old.sent words = record {
      ask = refl;
      sent = refl;
      first = c.put.ensures.first ∙ ap (λ (l : List Due). l ++ came_by old.ask 0 old.sent c.args.time c.of-glimpse.result words.copies words.first) room.first
          ∙ ap (λ (g : Glimpse). old.lanes.first.items ++ came_by old.ask 0 old.sent c.args.time g words.copies words.first) c.of-glimpse.ensures;
      second = c.put.ensures.second ∙ ap (λ (l : List Due). l ++ came_by old.ask 1 old.sent c.args.time c.of-glimpse.result words.copies words.second) room.second
          ∙ ap (λ (g : Glimpse). old.lanes.second.items ++ came_by old.ask 1 old.sent c.args.time g words.copies words.second) c.of-glimpse.ensures;
      plain = rw (c.put.ensures.plain, room.plain, c.of-glimpse.ensures) refl;
      lost = c.put.ensures.lost ∙ ap (λ (n : ℕ). n + one_with 0 old.ask words.copies) room.lost;
      copied = c.put.ensures.copied ∙ ap (λ (n : ℕ). n + one_with 2 old.ask words.copies) room.copied;
      bytes = rw (c.put.ensures.bytes, room.bytes) refl;
    } in
    carries_more _ rs carried _ r old.sent words refl more (drawn.copies old.ask.seed (3 * length rs) carried.generator) (drawn.first old.ask.seed (3 * length rs) carried.generator)
    (drawn.second old.ask.seed (3 * length rs) carried.generator) (drawn.stands old.ask.seed (3 * length rs) carried.generator)
