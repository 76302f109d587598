use Rattle.std.proofs.Common.{◌≡◌, ◌<◌, ◌++◌, List, [], ◌∷◌, ap, arith, drop, length, map, set, subst, sym, take, ◌∙◌}
use Rattle.std.proofs.Math.Seq.{take-append_seam}
use Rattle.std.proofs.lemmas.List.{length-map}
use Rattle.trex_core.specs.Works.{Work}
use Rattle.trex_crew.specs.Crews.{works_of}
use Rattle.trex_merge.specs.Queues.{at_place}
use Rattle.trex_merge.specs.Runs.{dropped}
use Rattle.trex_run.specs.Firsts.{first_at, firsts_of}
use Rattle.trex_run.specs.Ready.{queues_of}
use Rattle.trex_run.proofs.LookLemmas.{read_after}
use Rattle.trex_run.proofs.step.send_run.Goals as goal

pub read-requires-clause-within : goal.read-requires-clause-within
read-requires-clause-within c =
    let mark = λ (w : Work). w.core ∷ w.turns ∷ w.base ∷ [] in
    let works = works_of c.args.crew.now in
    let new = c.drop_run.new.works in
    let feed = c.args.feed in
    let rest = drop (length new) works in
    let long : length new ≡ length works = sym (length-map new mark) ∙ ap length (c.drop_run.ensures.marks ∙ ap (map mark) c.works_mut.ensures.works) ∙ length-map works mark in
    let back : take c.args.crew.now.works.len (new ++ rest) ≡ new = ap (λ n. take n (new ++ rest)) (omega (arith, long)) ∙ take-append_seam new rest in
    subst (λ n. feed < n) (sym long ∙ ap length (sym (c.works.ensures ∙ back))) c.requires.within

pub look-requires : goal.look-requires
look-requires c =
    let mark = λ (w : Work). w.core ∷ w.turns ∷ w.base ∷ [] in
    let works = works_of c.args.crew.now in
    let new = c.drop_run.new.works in
    let feed = c.args.feed in
    let rest = drop (length new) works in
    let long : length new ≡ length works = sym (length-map new mark) ∙ ap length (c.drop_run.ensures.marks ∙ ap (map mark) c.works_mut.ensures.works) ∙ length-map works mark in
    let back : take c.args.crew.now.works.len (new ++ rest) ≡ new = ap (λ n. take n (new ++ rest)) (omega (arith, long)) ∙ take-append_seam new rest in
    let queues : queues_of new ≡ at_place (dropped c.args.packets) feed (queues_of works) =
    c.drop_run.ensures.queues ∙ ap (λ (l : List Work). at_place (dropped c.args.packets) feed (queues_of l)) c.works_mut.ensures.works in
    let read : c.read.new.self ≡ set c.args.firsts.now feed (first_at feed (queues_of new)) =
    c.read.ensures ∙ ap (λ (l : List Work). set c.args.firsts.now feed (first_at feed (queues_of l))) (c.works.ensures ∙ back) in
    read_after (dropped c.args.packets) feed (queues_of works) (queues_of new) c.args.firsts.now c.read.new.self c.requires.firsts queues read
    ∙ ap (λ (l : List Work). firsts_of (queues_of l)) (sym (c.works-2.ensures ∙ back))

pub returns-clause-firsts : goal.returns-clause-firsts
returns-clause-firsts c =
    let mark = λ (w : Work). w.core ∷ w.turns ∷ w.base ∷ [] in
    let works = works_of c.args.crew.now in
    let new = c.drop_run.new.works in
    let feed = c.args.feed in
    let rest = drop (length new) works in
    let long : length new ≡ length works = sym (length-map new mark) ∙ ap length (c.drop_run.ensures.marks ∙ ap (map mark) c.works_mut.ensures.works) ∙ length-map works mark in
    let back : take c.args.crew.now.works.len (new ++ rest) ≡ new = ap (λ n. take n (new ++ rest)) (omega (arith, long)) ∙ take-append_seam new rest in
    let queues : queues_of new ≡ at_place (dropped c.args.packets) feed (queues_of works) =
    c.drop_run.ensures.queues ∙ ap (λ (l : List Work). at_place (dropped c.args.packets) feed (queues_of l)) c.works_mut.ensures.works in
    let read : c.read.new.self ≡ set c.args.firsts.now feed (first_at feed (queues_of new)) =
    c.read.ensures ∙ ap (λ (l : List Work). set c.args.firsts.now feed (first_at feed (queues_of l))) (c.works.ensures ∙ back) in
    read_after (dropped c.args.packets) feed (queues_of works) (queues_of new) c.args.firsts.now c.read.new.self c.requires.firsts queues read
    ∙ ap (λ (l : List Work). firsts_of (queues_of l)) (sym back)
