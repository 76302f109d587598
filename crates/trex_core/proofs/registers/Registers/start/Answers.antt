use Rattle.trex_core.proofs.Registering.{sound_at}
use Rattle.trex_core.proofs.registers.Registers.start.Goals as goal

pub start-strided-requires-clause-sound : goal.start-strided-requires-clause-sound
start-strided-requires-clause-sound c =
    sound_at c.args.vars.now c.loop-at.at c.index-vars-at.result c.requires.sound c.loop-at-test.true c.index-vars-at.is
