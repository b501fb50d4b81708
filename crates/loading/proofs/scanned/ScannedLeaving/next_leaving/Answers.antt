use Rattle.loading.proofs.Following.{next-above}
use Rattle.loading.proofs.scanned.ScannedLeaving.next_leaving.Goals as goal

pub returns-clause-before : goal.returns-clause-before
returns-clause-before g c = let s = c.args._site in next-above (g.T.Table.lists c.args.self.now.table.now).edges s.process s.location c.args.k
