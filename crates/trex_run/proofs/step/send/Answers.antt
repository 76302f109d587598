use Rattle.std.proofs.Common.{◌≡◌, ◌-◌, ◌<◌, ◌++◌, List, [], ◌∷◌, ap, arith, drop, length, map, set, subst, sym, take, ◌∙◌}
use Rattle.std.proofs.Math.Seq.{take-append_seam}
use Rattle.std.proofs.lemmas.List.{length-map}
use Rattle.trex_core.specs.Works.{Work}
use Rattle.trex_crew.specs.Crews.{works_of}
use Rattle.trex_merge.specs.Queues.{at_place, popped}
use Rattle.trex_merge.proofs.FeedLemmas.{feed_within}
use Rattle.trex_merge.proofs.QueueLemmas.{packet_is_least}
use Rattle.trex_run.specs.Firsts.{first_at, firsts_of}
use Rattle.trex_run.proofs.LookLemmas.{read_after}
use Rattle.trex_run.proofs.step.send.Goals as goal

pub read-requires-clause-within : goal.read-requires-clause-within
read-requires-clause-within c =
    let queue = λ (w : Work). w.queue in
    let mark = λ (w : Work). w.core ∷ w.turns ∷ w.base ∷ [] in
    let works = works_of c.args.crew.now in
    let new = c.take.new.feeds in
    let rest = drop (length new) works in
    let long : length new ≡ length works = sym (length-map new mark) ∙ ap length (c.take.ensures.marks ∙ ap (map mark) c.works_mut.ensures.works) ∙ length-map works mark in
    let back : take c.args.crew.now.works.len (new ++ rest) ≡ new = ap (λ n. take n (new ++ rest)) (omega (arith, long)) ∙ take-append_seam new rest in
    let chosen = packet_is_least (c.args.mill.now.limit - c.args.mill.now.sent) c.in-Packet.feed (map queue works) (sym c.requires.next ∙ c.in-Packet.is) in
    let within = feed_within queue works c.in-Packet.feed _ chosen.there in
    subst (λ n. c.in-Packet.feed < n) (sym long ∙ ap length (sym (c.works.ensures ∙ back))) within

pub look-requires : goal.look-requires
look-requires c =
    let queue = λ (w : Work). w.queue in
    let mark = λ (w : Work). w.core ∷ w.turns ∷ w.base ∷ [] in
    let works = works_of c.args.crew.now in
    let new = c.take.new.feeds in
    let feed = c.in-Packet.feed in
    let rest = drop (length new) works in
    let long : length new ≡ length works = sym (length-map new mark) ∙ ap length (c.take.ensures.marks ∙ ap (map mark) c.works_mut.ensures.works) ∙ length-map works mark in
    let back : take c.args.crew.now.works.len (new ++ rest) ≡ new = ap (λ n. take n (new ++ rest)) (omega (arith, long)) ∙ take-append_seam new rest in
    let queues : map queue new ≡ at_place popped feed (map queue works) = c.take.ensures.queues ∙ ap (λ (l : List Work). at_place popped feed (map queue l)) c.works_mut.ensures.works in
    let read : c.read.new.self ≡ set c.args.firsts.now feed (first_at feed (map queue new)) =
    c.read.ensures ∙ ap (λ (l : List Work). set c.args.firsts.now feed (first_at feed (map queue l))) (c.works.ensures ∙ back) in
    read_after popped feed (map queue works) (map queue new) c.args.firsts.now c.read.new.self c.requires.firsts queues read
    ∙ ap (λ (l : List Work). firsts_of (map queue l)) (sym (c.works-in-Packet.ensures ∙ back))

pub returns-in-Packet-clause-firsts : goal.returns-in-Packet-clause-firsts
returns-in-Packet-clause-firsts c =
    let queue = λ (w : Work). w.queue in
    let mark = λ (w : Work). w.core ∷ w.turns ∷ w.base ∷ [] in
    let works = works_of c.args.crew.now in
    let new = c.take.new.feeds in
    let feed = c.in-Packet.feed in
    let rest = drop (length new) works in
    let long : length new ≡ length works = sym (length-map new mark) ∙ ap length (c.take.ensures.marks ∙ ap (map mark) c.works_mut.ensures.works) ∙ length-map works mark in
    let back : take c.args.crew.now.works.len (new ++ rest) ≡ new = ap (λ n. take n (new ++ rest)) (omega (arith, long)) ∙ take-append_seam new rest in
    let queues : map queue new ≡ at_place popped feed (map queue works) = c.take.ensures.queues ∙ ap (λ (l : List Work). at_place popped feed (map queue l)) c.works_mut.ensures.works in
    let read : c.read.new.self ≡ set c.args.firsts.now feed (first_at feed (map queue new)) =
    c.read.ensures ∙ ap (λ (l : List Work). set c.args.firsts.now feed (first_at feed (map queue l))) (c.works.ensures ∙ back) in
    read_after popped feed (map queue works) (map queue new) c.args.firsts.now c.read.new.self c.requires.firsts queues read
    ∙ ap (λ (l : List Work). firsts_of (map queue l)) (sym back)
