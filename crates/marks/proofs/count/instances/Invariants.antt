use Rattle.std.proofs.Common.{◌≡◌, ◌*◌, ◌≤◌, take, sum_by}
use Rattle.marks.specs.Instances.{of_process}
use Rattle.marks.proofs.count.instances.Given as goal

abbrev pub invariant-loop-p : goal.invariant-loop-p
invariant-loop-p g l =
    (l.total ≤ 130050 * l.p) × (l.total ≡ sum_by of_process (take l.p (g.T.Table.lists l.table).processes))
