use Rattle.loading.proofs.Limited.{few_processes, few_signals, few_edges, few_terms}
use Rattle.loading.proofs.loaded.Loaded.of.Goals as goal

pub processes-requires : goal.processes-requires
processes-requires g c = few_processes (g.T.Table.lists c.args.table.now) c.requires

pub signals-requires : goal.signals-requires
signals-requires g c = few_signals (g.T.Table.lists c.args.table.now) c.requires

pub edges-requires : goal.edges-requires
edges-requires g c = few_edges (g.T.Table.lists c.args.table.now) c.requires

pub terms-requires : goal.terms-requires
terms-requires g c = few_terms (g.T.Table.lists c.args.table.now) c.requires
