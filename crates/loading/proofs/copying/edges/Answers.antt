use Rattle.std.proofs.Common.{rules, arith}
use Rattle.loading.proofs.Filling.{take-held}
use Rattle.loading.proofs.copying.edges.Goals as goal

pub returns-clause-items : goal.returns-clause-items
returns-clause-items g c =
    let xs = (g.T.Table.lists c.args.table.now).edges in
    let r = c.fill.new.places in
    take-held xs r (omega arith) (λ k y x lt er ex. let made = c.fill.ensures k y (omega arith) er in search rules)
