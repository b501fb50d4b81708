use Rattle.std.proofs.Common.{◌≡◌, ◌+◌, ◌/◌, ◌%◌, arith}
use Rattle.std.proofs.lemmas.Option.{slice_get_within}
use Rattle.loading.specs.Following.{next_at}
use Rattle.loading.proofs.Following.{next-above}
use Rattle.marking.specs.Searching.{state}
use Rattle.marks.proofs.Good.{good}
use Rattle.marking.proofs.Bounding.{bounds}
use Rattle.marking.proofs.Flowing.{edge-there}
use Rattle.marking.proofs.Following.{first-next, after-next, leaves-there, follows-start, follows-step}
use Rattle.marking.proofs.flows.Flows.follow.Goals as goal
use Rattle.marking.proofs.flows.Flows.follow.Goals.{After-next_leaving-k}

pub loop-k-init : goal.loop-k-init
loop-k-init g c =
    let T = g.T.Table.lists c.args.table.now in
    let i = c.args.instance in
    let a = c.location.ensures in
    follows-start T i c.requires.fits (state c.args.search.now) c.first_leaving-k.result
    (first-next T i c.requires.fits c.args.self.now.index.now c.first_leaving-k.result c.location.result.process c.location.result.location c.requires.flowing.indexed
    a.process a.location c.first_leaving-k.ensures)

onward : (g : _) (c : After-next_leaving-k g)
    → c.next_leaving-k.result ≡ next_at (g.T.Table.lists c.args.table.now).edges (c.args.instance.site / 16) (c.args.instance.site % 16) (c.loop-k.k + 1)
onward g c =
    let T = g.T.Table.lists c.args.table.now in
    let x = edge-there T c.loop-k.k (omega (arith, c.loop-k-test.true, c.edge_count.ensures)) in
    after-next T c.args.instance c.requires.fits c.args.self.now.index.now c.loop-k.k c.next_leaving-k.result x.0 c.requires.flowing.indexed
    (c.loop-k.invariant.at x.0 x.1) x.1 c.next_leaving-k.ensures

pub loop-k-smaller : goal.loop-k-smaller
loop-k-smaller g c =
    let T = g.T.Table.lists c.args.table.now in
    let i = c.args.instance in
    omega (arith, onward g c, next-above T.edges (i.site / 16) (i.site % 16) (c.loop-k.k + 1), c.loop-k-test.true, c.edge_count.ensures)

pub loop-k-preserved : goal.loop-k-preserved
loop-k-preserved g c =
    let T = g.T.Table.lists c.args.table.now in
    let x = edge-there T c.loop-k.k (omega (arith, c.loop-k-test.true, c.edge_count.ensures)) in
    follows-step T c.args.instance c.requires.fits (state c.args.search.now) (state c.loop-k.search) (state c.carry.new.search) c.loop-k.k c.next_leaving-k.result x.0
    c.loop-k.invariant x.1 (onward g c) (c.carry.ensures.followed x.0 x.1) (c.carry.ensures.grew x.0 x.1)

pub returns-clause-followed : goal.returns-clause-followed
returns-clause-followed g c k e h q =
    let T = g.T.Table.lists c.args.table.now in
    let w = slice_get_within (g.T.Table.lists c.args.table.now).edges k e h in
    c.loop-k.invariant.before k e (omega (arith, w, c.loop-k-test.false, c.edge_count.ensures)) h
    (leaves-there T c.args.instance c.requires.fits e (bounds T (good T c.requires.flowing.good) k e h) q)
