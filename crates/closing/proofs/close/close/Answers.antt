use Rattle.closing.specs.Layers.{layered}
use Rattle.rules.proofs.Promised.{closed-by}
use Rattle.closing.proofs.close.close.Goals as goal

pub returns-clause-tested : goal.returns-clause-tested
returns-clause-tested g c =
    let r = c.close_marked.result in
    λ n t. closed-by (g.T.Table.lists c.args.table) (layered r.plan (g.T.Table.lists r.below)) n t c.close_marked.ensures.closes
