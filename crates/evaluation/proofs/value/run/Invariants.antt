use Rattle.std.proofs.Common.{◌≡◌, ◌+◌, ◌≤◌, [], length, reverse}
use Rattle.evaluation.specs.Values.{evaluated}
use Rattle.table.proofs.Windows.{window}
use Rattle.evaluation.proofs.value.run.Given as goal

-- what is left decides, and no term has left more than one value
abbrev pub invariant-loop-i : goal.invariant-loop-i
invariant-loop-i g l =
    let ts = (g.T.Table.lists l.table).terms in
    (evaluated l.variables (window ts l.i l.i-end) (reverse l.stack.items) ≡ evaluated l.variables (window ts l.start l.i-end) [])
    × (length l.stack.items + l.start ≤ l.i)
