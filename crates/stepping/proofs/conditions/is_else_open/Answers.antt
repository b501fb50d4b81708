use Rattle.std.proofs.Common.{◌||◌, not, ap, ◌∙◌, rules}
use Rattle.rules.specs.Steps.{unguarded, passing, otherwise}
use Rattle.stepping.proofs.Leaving.{some_either}
use Rattle.stepping.proofs.conditions.is_else_open.Goals as goal

pub returns : goal.returns
unfolding otherwise
returns g c =
    let T = g.T.Table.lists c.args.table.now in
    let s = c.args.site in
    let passes = passing c.args.variables.now T.terms in
    ap not (c.any_leaving.ensures (λ e. unguarded e || passes e) (λ e b k. search rules) ∙ some_either T unguarded passes s.process s.location)
