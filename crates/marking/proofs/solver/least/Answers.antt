use Rattle.std.proofs.Common.{sym, subst, arith}
use Rattle.marks.specs.Instances.{own}
use Rattle.marks.specs.Rules.{Least}
use Rattle.marks.specs.Words.{marks_in}
use Rattle.marks.proofs.Good.{good}
use Rattle.marks.proofs.Owning.{own-obeys}
use Rattle.marking.specs.Searching.{state}
use Rattle.marking.proofs.Flowing.{few_edges}
use Rattle.marking.proofs.Settling.{start-kept, end-least}
use Rattle.marking.proofs.solver.least.Goals as goal
use Rattle.marking.proofs.solver.least.Goals.{After-settle}

pub plant-requires : goal.plant-requires
plant-requires g c = record {
  good = c.requires.good;
  places = omega (arith, c.work_out.ensures.places, c.requires.room);
  stand = c.work_out.ensures.stand;
  indexed = c.requires.indexed;
  chained = c.of.ensures (few_edges (g.T.Table.lists c.args.table.now) c.requires.good);
}

pub settle-requires-clause-flowing : goal.settle-requires-clause-flowing
settle-requires-clause-flowing g c = record {
  good = c.requires.good;
  places = omega (arith, c.work_out.ensures.places, c.requires.room);
  stand = c.work_out.ensures.stand;
  indexed = c.requires.indexed;
  chained = c.of.ensures (few_edges (g.T.Table.lists c.args.table.now) c.requires.good);
}

pub settle-requires-clause-kept : goal.settle-requires-clause-kept
settle-requires-clause-kept g c =
    let n = c.new-search.ensures in
    start-kept (g.T.Table.lists c.args.table.now) (state c.new-search.result) (state c.plant.new.search) n.none n.deaf n.still c.plant.ensures.grew c.plant.ensures.inbound

pub returns : goal.returns
returns g c =
    let T = g.T.Table.lists c.args.table.now in
    let n = c.new-search.ensures in
    let P : _ → Type 0 = λ ws. Least T (marks_in ws) in
    let l : Least T (marks_in c.of-2.result.words) =
    subst P (sym c.of-2.ensures.value)
    (end-least T (state c.new-search.result) (state c.plant.new.search) n.none n.deaf n.still c.plant.ensures.grew (state c.settle.new.search) c.settle.ensures.grown c.settle.ensures.obeys) in
    record { least = l; within = l.least (own T) (own-obeys T (good T c.requires.good)) }
