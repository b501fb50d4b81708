use Rattle.stepping.specs.Worlds.{world_of}
use Rattle.stepping.proofs.Limits.{standing, has-places}
use Rattle.stepping.proofs.state.State.tick.Goals as goal

pub check_rests-requires-clause-limits : goal.check_rests-requires-clause-limits
check_rests-requires-clause-limits g c = (standing (g.T.Table.lists c.args.table.now) (world_of c.args.self.now c.args.memory.now) c.requires).limits

pub check_rests-requires-clause-places : goal.check_rests-requires-clause-places
check_rests-requires-clause-places g c = has-places (g.T.Table.lists c.args.table.now) c.args.self.now c.args.memory.now c.requires

pub cool-requires : goal.cool-requires
cool-requires g c = (standing (g.T.Table.lists c.args.table.now) (world_of c.args.self.now c.args.memory.now) c.requires).limits
