use Rattle.std.proofs.Common.{◌-◌, length}
use Rattle.marking.specs.Searching.{state}
use Rattle.marking.proofs.Following.{Follows}
use Rattle.marking.proofs.flows.Flows.follow.Given as goal

abbrev pub invariant-loop-k : goal.invariant-loop-k
invariant-loop-k g l = Follows (g.T.Table.lists l.table) l.instance (state l.initial.search) (state l.search) l.k

abbrev pub decreases-loop-k : goal.decreases-loop-k
decreases-loop-k g l = length (g.T.Table.lists l.table).edges - l.k
