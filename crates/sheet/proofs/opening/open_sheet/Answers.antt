use Rattle.std.proofs.Common.{drop, sym, ap, ◌∙◌, arith, rules}
use Rattle.reading.specs.Opening.{opened}
use Rattle.reading.proofs.Again.{opened_sheet, opened_area}
use Rattle.sheet.specs.Views.{contents_of, opened_of}
use Rattle.sheet.proofs.opening.open_sheet.Goals as goal

pub returns-clause-value : goal.returns-clause-value
unfolding opened contents_of
returns-clause-value c = search rules

pub returns-clause-again : goal.returns-clause-again
returns-clause-again c = opened_sheet c.args.bytes.now (opened_of c.in_ok-sheet.sheet) (λ i. omega (arith, c.type_inv.bytes i)) (sym (returns-clause-value c))

pub returns-clause-area : goal.returns-clause-area
unfolding opened_of
returns-clause-area c =
    ap (λ n. drop n c.args.bytes.now) c.in_ok-sheet.ensures.place
    ∙ opened_area c.args.bytes.now (opened_of c.in_ok-sheet.sheet) (λ i. omega (arith, c.type_inv.bytes i)) (sym (returns-clause-value c))
