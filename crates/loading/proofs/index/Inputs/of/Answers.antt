use Rattle.std.proofs.Common.{◌≡◌, ◌+◌, ◌-◌, subst, sym, arith, rules}
use Rattle.loading.specs.Indexing.{Chained}
use Rattle.loading.proofs.Chaining.{none_chained, no_edge}
use Rattle.loading.proofs.index.Inputs.of.Goals as goal

pub loop-k-init : goal.loop-k-init
loop-k-init g c few =
    let es = (g.T.Table.lists c.args.table.now).edges in
    none_chained c.min-count.result c.none-inputs.result.first c.none-inputs.result.next es (omega arith) c.none-inputs.ensures

pub loop-k-preserved-in-Some : goal.loop-k-preserved-in-Some
loop-k-preserved-in-Some g c few =
    let es = (g.T.Table.lists c.args.table.now).edges in
    let i = c.loop-k.inputs in
    let above : c.loop-k.k - 1 + 1 ≡ c.loop-k.k = omega arith in
    c.put.ensures es (sym c.in-Some.ensures) (subst (Chained i.first i.next es) (sym above) (c.loop-k.invariant few))

pub loop-k-preserved : goal.loop-k-preserved
loop-k-preserved g c few =
    let i = c.loop-k.inputs in
    no_edge i.first i.next (g.T.Table.lists c.args.table.now).edges (c.loop-k.k - 1) (search rules) (omega arith)
