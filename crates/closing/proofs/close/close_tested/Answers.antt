use Rattle.std.proofs.Common.{true, Ok, sym, refl}
use Rattle.std.proofs.lemmas.Result.{err_from_is_err_and}
use Rattle.closing.proofs.Fitting.{closed-planned, measured-refused, meant_by, passed-room}
use Rattle.marks.specs.Words.{marking}
use Rattle.refusal.specs.Refusals.{table_refusal}
use Rattle.closing.proofs.close.close_tested.Goals as goal

pub returns-in_err-marks-clause-refused : goal.returns-in_err-marks-clause-refused
returns-in_err-marks-clause-refused g c =
    let T = g.T.Table.lists c.args.table in
    let p = err_from_is_err_and c.from_residual.result c.from_residual.ensures.1 in
    rw (p.1, p.2) (measured-refused T (table_refusal c.in_err-marks.field-0.0) _ (sym c.in_err-marks.ensures.refused) refl)

pub returns-clause-meaning : goal.returns-clause-meaning
returns-clause-meaning g c =
    let T = g.T.Table.lists c.args.table in
    meant_by T (marking c.in_ok-marks.marks) c.of-plan.result true c.of-plan.ensures (passed-room c.of-plan.result T (Ok c.in_ok-check_room.field-0) true (sym c.in_ok-marks.ensures.refused) c.in_ok-check_room.ensures refl)

pub returns-clause-closes : goal.returns-clause-closes
returns-clause-closes g c =
    closed-planned (g.T.Table.lists c.args.table) (marking c.in_ok-marks.marks) c.of-plan.result c.in_ok-check_room.field-0 (sym c.in_ok-marks.ensures.refused) c.in_ok-marks.ensures.least c.of-plan.ensures c.in_ok-check_room.ensures
