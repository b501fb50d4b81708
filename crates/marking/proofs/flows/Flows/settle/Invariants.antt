use Rattle.marking.specs.Searching.{LeastFrom, ObeysButWaiting, left, state}
use Rattle.marking.proofs.flows.Flows.settle.Given as goal

abbrev pub invariant-loop-instance : goal.invariant-loop-instance
invariant-loop-instance g l =
    let T = g.T.Table.lists l.table in
    ObeysButWaiting T (state l.search) × LeastFrom T (state l.initial.search) (state l.search)

abbrev pub decreases-loop-instance : goal.decreases-loop-instance
decreases-loop-instance g l = left (state l.search)
