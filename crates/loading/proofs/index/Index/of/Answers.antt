use Rattle.std.proofs.Common.{◌≡◌, ◌-◌, ℕ, length, arith, rules}
use Rattle.loading.proofs.Built.{none_built, none_there, put_built}
use Rattle.loading.proofs.index.Index.of.Goals as goal

pub loop-k-init : goal.loop-k-init
loop-k-init g c few =
    let es = (g.T.Table.lists c.args.table.now).edges in
    none_built c.min-count.result c.none-index.result.first c.none-index.result.next es (omega arith) c.none-index.ensures

pub loop-k-preserved-in-Some : goal.loop-k-preserved-in-Some
loop-k-preserved-in-Some g c few =
    let es = (g.T.Table.lists c.args.table.now).edges in
    let e = c.in-Some.edge in
    let i = c.loop-k.index in
    let k : ℕ = c.loop-k.k - 1 in
    let places : length i.next ≡ 2048 = i.next_places in
    put_built i.first i.next c.put.new.self.first c.put.new.self.next es k c.loop-k.k e c.start.result.process c.start.result.location
    (c.loop-k.invariant few) (omega arith) c.in-Some.ensures c.start.ensures.process c.start.ensures.location i.first_places (omega arith) c.put.ensures.firsts c.put.ensures.nexts

pub loop-k-preserved : goal.loop-k-preserved
loop-k-preserved g c few =
    let i = c.loop-k.index in
    none_there i.first i.next (g.T.Table.lists c.args.table.now).edges (c.loop-k.k - 1) (search rules) (omega arith)
