use Rattle.std.proofs.Common.{◌-◌, length}
use Rattle.marking.specs.Searching.{state}
use Rattle.marking.proofs.Giving.{Gives}
use Rattle.marking.proofs.flows.Flows.store.Given as goal

abbrev pub invariant-loop-k : goal.invariant-loop-k
invariant-loop-k g l = Gives (g.T.Table.lists l.table) l.signal (state l.initial.search) (state l.search) l.k

abbrev pub decreases-loop-k : goal.decreases-loop-k
decreases-loop-k g l = length (g.T.Table.lists l.table).edges - l.k
