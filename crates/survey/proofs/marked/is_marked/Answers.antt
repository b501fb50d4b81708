use Rattle.std.proofs.Common.{sym, ◌∙◌, rules}
use Rattle.marks.specs.Words.{marking}
use Rattle.survey.proofs.Hitting.{marked-hits}
use Rattle.survey.specs.Surveys.{hits}
use Rattle.survey.proofs.marked.is_marked.Goals as goal

pub returns : goal.returns
returns g c =
    let e = c.args.edge.now in
    c.any_term.ensures (hits (marking c.args.marks.now) e) (λ t b h. search rules) ∙ sym (marked-hits c.args.marks.now e (g.T.Table.lists c.args.table.now) c.args.span)
