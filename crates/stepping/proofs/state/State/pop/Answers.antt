use Rattle.std.proofs.Common.{arith}
use Rattle.ring.proofs.Slots.{slot-unwritten}
use Rattle.rules.specs.Steps.{dropped}
use Rattle.stepping.proofs.Worlds.{world-written}
use Rattle.stepping.proofs.state.State.pop.Goals as goal

pub returns-clause-world : goal.returns-clause-world
returns-clause-world c =
    let s = c.args.self.now in
    world-written s c.args.memory.now c.args.p c.index-self-p.result c.requires.there c.pop.new.self dropped c.pop.new.places c.requires.room (omega arith) c.pop.ensures.process

pub returns-clause-memory : goal.returns-clause-memory
returns-clause-memory c = slot-unwritten 16 c.args.p c.args.memory.now c.pop.new.places c.pop.ensures.places
