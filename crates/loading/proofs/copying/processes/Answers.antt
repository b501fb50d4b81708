use Rattle.std.proofs.Common.{◌≡◌, get_or, ◌∙◌, rules, arith}
use Rattle.std.proofs.lemmas.Option.{get_or_from_slice_get}
use Rattle.loading.proofs.Filling.{take-meant}
use Rattle.table.specs.Edges.{blank}
use Rattle.table.specs.Lists.{meant}
use Rattle.loading.proofs.copying.processes.Goals as goal

pub returns-clause-items : goal.returns-clause-items
returns-clause-items g c =
    let xs = (g.T.Table.lists c.args.table.now).processes in
    let r = c.fill.new.places in
    take-meant meant xs r (omega arith) (λ k y x lt er ex.
    let made = c.fill.ensures k y (omega arith) er in
    let t : meant y ≡ get_or xs k blank = search rules in t ∙ get_or_from_slice_get xs k x blank ex)
