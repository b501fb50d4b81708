use Rattle.std.proofs.Common.{ap, ◌∙◌}
use Rattle.std.proofs.lemmas.Result.{err_from_is_err_and}
use Rattle.listing.specs.Listing.{refused_of}
use Rattle.sheet.specs.Views.{opened_of}
use Rattle.listing.proofs.judge.Goals as goal

pub returns-in_err-marks-clause-refused : goal.returns-in_err-marks-clause-refused
unfolding opened_of
returns-in_err-marks-clause-refused c =
    let p = err_from_is_err_and c.from_residual-in_err-marks.result c.from_residual-in_err-marks.ensures.1 in
    rw (p.1, p.2) (c.in_err-marks.ensures.refused ∙ ap refused_of c.in_ok-sheet.ensures.value)

pub returns-clause-refused : goal.returns-clause-refused
unfolding opened_of
returns-clause-refused c = c.in_ok-marks.ensures.refused ∙ ap refused_of c.in_ok-sheet.ensures.value
