use Rattle.std.proofs.Common.{◌≡◌, ◌≤◌, get_or, arith, rules}
use Rattle.std.proofs.lemmas.List.{get_or_default}
use Rattle.reading.specs.Layout.{term_format}
use Rattle.reading.specs.Rows.{no_term}
use Rattle.reading.specs.Spelling.{FitsTerm}
use Rattle.writing.specs.Writes.{Writes}
use Rattle.writing.proofs.Rows.{row_all}
use Rattle.writing.proofs.Tables.{few-terms}
use Rattle.writing.proofs.writer.Writer.terms.Goals as goal

pub row-requires-clause-writable : goal.row-requires-clause-writable
row-requires-clause-writable g c = λ k r s x lt e le.
    let n = few-terms (g.T.Table.lists c.args.table.now) c.requires.limits in
    let bound : r.operation ≤ 15 = search rules in
    (omega arith, bound)

pub returns-clause-fits : goal.returns-clause-fits
returns-clause-fits g c = λ k d lt.
    let ts = (g.T.Table.lists c.args.table.now).terms in
    let call = c.row.ensures.calls k (omega arith) in
    let same : call.0 ≡ get_or ts k no_term = search rules in
    let fits : FitsTerm call.0 = search rules in
    rw (get_or_default ts k d no_term lt, ← same) fits

pub returns-clause-writes : goal.returns-clause-writes
returns-clause-writes g c =
    let ts = (g.T.Table.lists c.args.table.now).terms in
    row_all term_format.writes no_term ts c.term_count.result c.term_count.ensures (c.row.ensures.writes (λ k. term_format.writes (get_or ts k no_term)) (λ k r s x t y lt e f.
    let same : r ≡ get_or ts k no_term = search rules in
    let w : Writes (term_format.writes r) s.now.place t.now.place x.now y.now = search rules in
    rw same at w))
