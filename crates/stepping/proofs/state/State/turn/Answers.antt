use Rattle.stepping.specs.Worlds.{turned}
use Rattle.stepping.proofs.Worlds.{world-changed}
use Rattle.stepping.proofs.state.State.turn.Goals as goal

pub returns-clause-world : goal.returns-clause-world
returns-clause-world c m =
    let s = c.args.self.now in
    world-changed s m c.args.p c.index-self-p.result c.requires c.turn.new.self (turned c.args.timer c.args.setting) c.turn.ensures
