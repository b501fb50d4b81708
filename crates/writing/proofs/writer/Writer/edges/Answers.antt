use Rattle.std.proofs.Common.{◌≡◌, get_or, arith, rules}
use Rattle.reading.specs.Layout.{edge_format}
use Rattle.reading.specs.Rows.{no_edge}
use Rattle.writing.specs.Writes.{Writes}
use Rattle.writing.proofs.Rows.{row_all}
use Rattle.writing.proofs.Tables.{few-edges, narrow-edge-at}
use Rattle.writing.proofs.writer.Writer.edges.Goals as goal

pub row-requires-clause-writable : goal.row-requires-clause-writable
row-requires-clause-writable g c = λ k r s x lt e le.
    let T = g.T.Table.lists c.args.table.now in
    let same : r ≡ get_or T.edges k no_edge = search rules in
    let n = few-edges T c.requires.limits in
    (omega arith, rw same (narrow-edge-at T c.requires.limits c.requires.edges k (omega arith)))

pub returns-clause-writes : goal.returns-clause-writes
returns-clause-writes g c =
    let es = (g.T.Table.lists c.args.table.now).edges in
    row_all edge_format.writes no_edge es c.edge_count.result c.edge_count.ensures (c.row.ensures.writes (λ k. edge_format.writes (get_or es k no_edge)) (λ k r s x t y lt e f.
    let same : r ≡ get_or es k no_edge = search rules in
    let w : Writes (edge_format.writes r) s.now.place t.now.place x.now y.now = search rules in
    rw same at w))
