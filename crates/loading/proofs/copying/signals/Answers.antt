use Rattle.std.proofs.Common.{◌≡◌, get_or, ◌∙◌, rules, arith}
use Rattle.std.proofs.lemmas.Option.{get_or_from_slice_get}
use Rattle.loading.proofs.Filling.{take-held}
use Rattle.table.specs.Edges.{absent}
use Rattle.loading.proofs.copying.signals.Goals as goal

pub returns-clause-items : goal.returns-clause-items
returns-clause-items g c =
    let xs = (g.T.Table.lists c.args.table.now).signals in
    let r = c.fill.new.places in
    take-held xs r (omega arith) (λ k y x lt er ex.
    let made = c.fill.ensures k y (omega arith) er in
    let t : y ≡ get_or xs k absent = search rules in t ∙ get_or_from_slice_get xs k x absent ex)
