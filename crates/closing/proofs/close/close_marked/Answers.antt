use Rattle.std.proofs.Common.{sym}
use Rattle.closing.proofs.Fitting.{closes-refused}
use Rattle.closing.specs.Layers.{layered}
use Rattle.refusal.specs.Refusals.{table_refusal}
use Rattle.closing.proofs.close.close_marked.Goals as goal

pub returns-in-Err-clause-closes : goal.returns-in-Err-clause-closes
returns-in-Err-clause-closes g c =
    let r = c.unclosed.result in
    closes-refused (g.T.Table.lists c.args.table) (layered r.plan (g.T.Table.lists r.below)) (table_refusal c.in-Err.field-0) (sym c.in-Err.ensures.refused) c.unclosed.ensures.meaning
