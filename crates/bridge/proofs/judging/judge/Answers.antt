use Rattle.std.proofs.Common.{ap, ◌∙◌}
use Rattle.std.proofs.lemmas.Result.{err_from_is_err_and}
use Rattle.listing.specs.Listing.{refused_of}
use Rattle.sheet.specs.Views.{opened_of}
use Rattle.table.specs.Examination.{examined}
use Rattle.bridge.proofs.judging.judge.Goals as goal

pub returns-in_err-examine : goal.returns-in_err-examine
unfolding opened_of
returns-in_err-examine c =
    let p = err_from_is_err_and c.from_residual-in_err-examine.result c.from_residual-in_err-examine.ensures.1 in
    rw (p.1, p.2) (c.in_err-examine.ensures ∙ ap examined c.of.ensures ∙ ap refused_of c.in_ok-sheet.ensures.value)

pub returns : goal.returns
unfolding opened_of
returns c = c.in_ok-examine.ensures ∙ ap examined c.of.ensures ∙ ap refused_of c.in_ok-sheet.ensures.value
