use Rattle.std.proofs.Common.{sym, ◌∙◌}
use Rattle.closing.proofs.Fitting.{passed-room, examined_ok, examined_err}
use Rattle.closing.proofs.plan.Plan.passes.Goals as goal

pub returns-then-is_ok : goal.returns-then-is_ok
returns-then-is_ok g c =
    let T = g.T.Table.lists c.args.table.now in
    let e = examined_ok T c.examine.result c.examine.ensures (sym c.is_ok.ensures.value ∙ c.if-is_ok.true) in
    passed-room c.args.self.now T c.check_room.result c.is_ok-then-is_ok.result e c.check_room.ensures c.is_ok-then-is_ok.ensures.value

pub returns-else-is_ok : goal.returns-else-is_ok
returns-else-is_ok g c =
    c.if-is_ok.false ∙ examined_err c.args.self.now (g.T.Table.lists c.args.table.now) c.examine.result c.examine.ensures (sym c.is_ok.ensures.value ∙ c.if-is_ok.false)
