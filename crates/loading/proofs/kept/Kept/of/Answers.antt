use Rattle.loading.proofs.Limited.{few_processes, few_signals}
use Rattle.loading.proofs.kept.Kept.of.Goals as goal

pub processes-requires : goal.processes-requires
processes-requires g c = few_processes (g.T.Table.lists c.args.table.now) c.requires

pub signals-requires : goal.signals-requires
signals-requires g c = few_signals (g.T.Table.lists c.args.table.now) c.requires
