use Rattle.std.proofs.Common.{length, sym}
use Rattle.stepping.proofs.Starting.{starts-limited}
use Rattle.stepping.proofs.start.start.Goals as goal

pub started-requires : goal.started-requires
started-requires g c = starts-limited (g.T.Table.lists c.args.table.now) (length c.args.memory.now) (sym c.in_ok-check.ensures)
