use Rattle.std.proofs.Common.{rules}
use Rattle.reading.specs.Rows.{no_edge}
use Rattle.writing.proofs.Rows.{read-or}
use Rattle.writing.proofs.parts.edge_or_zeros.Goals as goal

pub returns : goal.returns
returns g c =
    read-or (g.T.Table.lists c.args.table.now).edges c.args.k no_edge c.edge.result _ c.unwrap_or_default.result c.edge.ensures c.unwrap_or_default.ensures (λ e. search rules)
