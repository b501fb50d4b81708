use Rattle.std.proofs.Common.{◌<◌, length, rules, arith}
use Rattle.loading.proofs.Filling.{take-held, within-front, inside-front}
use Rattle.loading.proofs.copying.terms.Goals as goal

pub returns-clause-items : goal.returns-clause-items
returns-clause-items g c =
    let xs = (g.T.Table.lists c.args.table.now).terms in
    let r = c.fill.new.places in
    take-held xs r (omega arith) (λ k y x lt er ex. let made = c.fill.ensures k y (omega arith) er in search rules)

pub returns-clause-bound : goal.returns-clause-bound
returns-clause-bound g c i t e =
    let n = length (g.T.Table.lists c.args.table.now).terms in
    let r = c.fill.new.places in
    let lt : i < n = inside-front n r i t e in
    let made = c.fill.ensures i t (omega arith) (within-front n r i t e) in
    search rules
