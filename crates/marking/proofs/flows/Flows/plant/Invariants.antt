use Rattle.marking.specs.Searching.{state}
use Rattle.marking.proofs.Giving.{Planted}
use Rattle.marking.proofs.flows.Flows.plant.Given as goal

abbrev pub invariant-loop-signal : goal.invariant-loop-signal
invariant-loop-signal g l = Planted (g.T.Table.lists l.table) l.signal (state l.initial.search) (state l.search)
