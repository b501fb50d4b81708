use Rattle.std.proofs.Common.{sym}
use Rattle.std.proofs.lemmas.Result.{err_from_is_err_and}
use Rattle.closing.proofs.Fitting.{measured-refused}
use Rattle.closing.specs.Faults.{measuring}
use Rattle.refusal.specs.Refusals.{table_refusal}
use Rattle.closing.proofs.test.measure.Goals as goal

pub returns-in_err-marks : goal.returns-in_err-marks
returns-in_err-marks g c =
    let T = g.T.Table.lists c.args.table.now in
    let p = err_from_is_err_and c.from_residual.result c.from_residual.ensures.1 in
    measured-refused T (table_refusal c.in_err-marks.field-0.0) (measuring c.from_residual.result) (sym c.in_err-marks.ensures.refused) (rw (p.1, p.2))
