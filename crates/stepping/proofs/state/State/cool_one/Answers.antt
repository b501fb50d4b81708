use Rattle.stepping.specs.Worlds.{cooled}
use Rattle.stepping.proofs.Worlds.{world-changed}
use Rattle.stepping.proofs.state.State.cool_one.Goals as goal

pub returns-clause-world : goal.returns-clause-world
returns-clause-world c m =
    world-changed c.args.self.now m c.args.p c.index-self-p.result c.requires.there c.cool.new.self (cooled c.args.timers) c.cool.ensures
