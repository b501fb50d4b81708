use Rattle.std.proofs.Common.{◌≡◌, length}
use Rattle.marking.specs.Flows.{Standing}
use Rattle.marking.proofs.flows.work_out.Given as goal

abbrev pub invariant-loop-k : goal.invariant-loop-k
invariant-loop-k g l = (length l.flows ≡ length l.initial.flows) × Standing (g.T.Table.lists l.table) l.flows l.k
