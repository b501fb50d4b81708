use Rattle.std.proofs.Common.{◌≡◌, ◌+◌, ◌<◌, length, sym, ◌∙◌, subst, arith}
use Rattle.std.proofs.lemmas.Option.{slice_get_within}
use Rattle.loading.specs.Following.{next_of, taking}
use Rattle.loading.proofs.Following.{of-above}
use Rattle.marking.specs.Searching.{state}
use Rattle.marking.proofs.Flowing.{edge-there}
use Rattle.marks.proofs.Good.{good}
use Rattle.marking.proofs.Giving.{Gives, gives-start, mark-step, none-step}
use Rattle.marking.proofs.flows.Flows.store.Goals as goal
use Rattle.marking.proofs.flows.Flows.store.Goals.{in-Some, in_default, After-next_taking-k}

pub loop-k-init : goal.loop-k-init
loop-k-init g c =
    let T = g.T.Table.lists c.args.table.now in
    gives-start T c.args.signal (state c.args.search.now) c.first_taking-k.result
    (c.first_taking-k.ensures T.edges c.requires.flowing.chained c.requires.known)

onward : (g : _) (c : After-next_taking-k g) → c.next_taking-k.result ≡ next_of (taking c.args.signal) (g.T.Table.lists c.args.table.now).edges (c.loop-k.k + 1)
onward g c =
    let T = g.T.Table.lists c.args.table.now in
    let x = edge-there T c.loop-k.k (omega (arith, c.loop-k-test.true, c.edge_count.ensures)) in
    c.next_taking-k.ensures T.edges c.args.signal x.0 c.requires.flowing.chained c.requires.known x.1 (c.loop-k.invariant.at x.0 x.1)

pub loop-k-smaller : goal.loop-k-smaller
loop-k-smaller g c =
    let T = g.T.Table.lists c.args.table.now in
    omega (arith, onward g c, of-above (taking c.args.signal) T.edges (c.loop-k.k + 1), c.loop-k-test.true, c.edge_count.ensures)

pub loop-k-preserved : goal.loop-k-preserved
loop-k-preserved g c =
    let T = g.T.Table.lists c.args.table.now in
    let n = c.args.signal in
    let k = c.loop-k.k in
    let s = state c.args.search.now in
    let t = c.loop-k.search in
    let lt : c.loop-k.k < length (g.T.Table.lists c.args.table.now).edges = omega (arith, c.loop-k-test.true, c.edge_count.ensures) in
    let x = edge-there T k lt in
    elim c.match-self-k.branch [
      | in-Some w ↦
          let r = sym (c.requires.flowing.stand k x.0 _ lt x.1).stored ∙ w.in-Some.is in
          subst (λ q. Gives T n s (state q) c.next_taking-k.result) (sym w.search-is)
          (mark-step T (good T c.requires.flowing.good) n s (state t) (state w.mark.new.self) k c.next_taking-k.result x.0 w.in-Some.instance c.loop-k.invariant x.1
          (onward g c) r w.mark.ensures.same w.mark.ensures.marked (w.mark.ensures.grew T))
      | in_default w ↦
          let r = sym (c.requires.flowing.stand k x.0 _ lt x.1).stored ∙ w.in_default.is in
          subst (λ q. Gives T n s (state q) c.next_taking-k.result) (sym w.search-is)
          (none-step T n s (state t) k c.next_taking-k.result x.0 c.loop-k.invariant x.1 (onward g c) r)
    ]

pub returns-clause-taken : goal.returns-clause-taken
returns-clause-taken g c k e i h takes r fits =
    let w = slice_get_within (g.T.Table.lists c.args.table.now).edges k e h in
    c.loop-k.invariant.before k e i (omega (arith, w, c.loop-k-test.false, c.edge_count.ensures)) h takes r fits
