use Rattle.std.proofs.lemmas.Option.{unwrap_or-slice_get}
use Rattle.table.specs.Edges.{absent}
use Rattle.table.proofs.questions.signal_or_absent.Goals as goal

pub returns : goal.returns
returns g c =
    let read = unwrap_or-slice_get (g.T.Table.lists c.args.table.now).signals c.args.s absent in
    cc
