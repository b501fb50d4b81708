use Rattle.std.proofs.Common.{◌≡◌, get_or, ap, ◌∙◌, arith, rules}
use Rattle.std.proofs.lemmas.List.{get_or_default}
use Rattle.examination.proofs.Placed.{few-processes}
use Rattle.reading.specs.Layout.{process_format}
use Rattle.reading.specs.Spelling.{FitsProcess}
use Rattle.table.specs.Edges.{blank}
use Rattle.table.specs.Examination.{bad_process}
use Rattle.table.specs.Lists.{meant}
use Rattle.writing.specs.Writes.{Writes}
use Rattle.writing.proofs.Rows.{row_all}
use Rattle.writing.proofs.Tables.{process-good}
use Rattle.writing.proofs.writer.Writer.processes.Goals as goal

pub row-requires-clause-writable : goal.row-requires-clause-writable
row-requires-clause-writable g c = λ k r s x lt e le.
    let T = g.T.Table.lists c.args.table.now in
    let same : meant r ≡ get_or T.processes k blank = search rules in
    let n = few-processes T c.requires.limits in
    (omega arith, ap bad_process same ∙ process-good T c.requires.limits k (omega arith))

pub returns-clause-fits : goal.returns-clause-fits
returns-clause-fits g c = λ k d lt.
    let ps = (g.T.Table.lists c.args.table.now).processes in
    let call = c.row.ensures.calls k (omega arith) in
    let same : meant call.0 ≡ get_or ps k blank = search rules in
    let fits : FitsProcess (meant call.0) = search rules in
    rw (get_or_default ps k d blank lt, ← same) fits

pub returns-clause-writes : goal.returns-clause-writes
returns-clause-writes g c =
    let ps = (g.T.Table.lists c.args.table.now).processes in
    row_all process_format.writes blank ps c.process_count.result c.process_count.ensures (c.row.ensures.writes (λ k. process_format.writes (get_or ps k blank)) (λ k r s x t y lt e f.
    let same : meant r ≡ get_or ps k blank = search rules in
    let w : Writes (process_format.writes (meant r)) s.now.place t.now.place x.now y.now = search rules in
    rw same at w))
