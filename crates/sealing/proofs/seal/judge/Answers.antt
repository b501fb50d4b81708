use Rattle.std.proofs.Common.{sym, inr}
use Rattle.std.proofs.lemmas.Result.{err_from_is_err_and}
use Rattle.sheet.specs.Views.{opened_of}
use Rattle.sealing.proofs.seal.judge.Goals as goal

pub returns-in_err-closed-clause-refused : goal.returns-in_err-closed-clause-refused
unfolding opened_of
returns-in_err-closed-clause-refused c =
    let p = err_from_is_err_and c.from_residual-in_err-closed.result c.from_residual-in_err-closed.ensures.1 in
    rw (p.1, p.2) (inr (opened_of c.in_ok-sheet.sheet, sym c.in_ok-sheet.ensures.value, c.in_err-closed.ensures.refused))
