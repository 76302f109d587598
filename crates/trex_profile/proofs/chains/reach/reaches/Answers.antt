use Rattle.std.proofs.Common.{◌≡◌, length, take, arith, ap, ◌∙◌}
use Rattle.trex_profile.proofs.Visiting.{rising-below, reached-closed, reached-new, reached-more, whole_write}
use Rattle.trex_profile.proofs.chains.reach.reaches.Goals as goal

pub note-requires-clause-start : goal.note-requires-clause-start
note-requires-clause-start c = rising-below (length c.args.links.now) 0 c.args.starts.now c.loop-start.start-index c.requires.rising (omega arith)

pub note-requires-clause-closed : goal.note-requires-clause-closed
note-requires-clause-closed c =
    rw c.deref_mut.ensures.value (reached-closed c.args.links.now (take c.loop-start.start-index c.args.starts.now) c.loop-start.all.items c.requires.within c.loop-start.invariant)

pub note-requires-clause-new : goal.note-requires-clause-new
note-requires-clause-new c =
    rw c.deref_mut.ensures.value (reached-new c.args.links.now c.args.starts.now c.loop-start.start-index c.loop-start.all.items c.requires.rising (omega arith) c.loop-start.invariant)

pub loop-start-preserved : goal.loop-start-preserved
loop-start-preserved c =
    let same : length c.note.new.reach ≡ length c.loop-start.all.items = c.note.ensures.same ∙ ap length c.deref_mut.ensures.value in
    rw (whole_write c.loop-start.all.len c.note.new.reach c.loop-start.all.items (omega arith))
    (reached-more c.args.links.now c.args.starts.now c.loop-start.start-index c.loop-start.all.items c.note.new.reach (omega arith) c.loop-start.invariant same
    (rw (← c.deref_mut.ensures.value) c.note.ensures.noted))
