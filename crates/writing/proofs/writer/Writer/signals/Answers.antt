use Rattle.std.proofs.Common.{◌≡◌, get_or, arith, rules}
use Rattle.reading.specs.Layout.{signal_format}
use Rattle.table.specs.Edges.{absent}
use Rattle.writing.specs.Writes.{Writes}
use Rattle.writing.proofs.Rows.{row_all}
use Rattle.writing.proofs.Tables.{few-signals, narrow-signal}
use Rattle.writing.proofs.writer.Writer.signals.Goals as goal

pub row-requires-clause-writable : goal.row-requires-clause-writable
row-requires-clause-writable g c = λ k r s x lt e le.
    let T = g.T.Table.lists c.args.table.now in
    let same : r ≡ get_or T.signals k absent = search rules in
    let n = few-signals T c.requires.limits in
    let h = narrow-signal T c.requires.limits k (omega arith) in
    (omega arith, rw same h)

pub returns-clause-writes : goal.returns-clause-writes
returns-clause-writes g c = λ n.
    let ss = (g.T.Table.lists c.args.table.now).signals in
    row_all (signal_format n).writes absent ss c.signal_count.result c.signal_count.ensures (c.row.ensures.writes (λ k. (signal_format n).writes (get_or ss k absent)) (λ k r s x t y lt e f.
    let same : r ≡ get_or ss k absent = search rules in
    let w : Writes ((signal_format n).writes r) s.now.place t.now.place x.now y.now = search rules in
    rw same at w))
