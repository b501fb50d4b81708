use Rattle.std.proofs.Common.{◌≡◌, ◌+◌, ◌≤◌, Some}
use Rattle.table.specs.Expressions.{formed}
use Rattle.table.proofs.Windows.{window}
use Rattle.reasons.specs.Wrongs.{values_after}
use Rattle.reasons.proofs.expression.find_ill_formed.Given as goal

-- what is left decides, and what is behind left so many values
abbrev pub invariant-loop-i : goal.invariant-loop-i
invariant-loop-i g l =
    let ts = (g.T.Table.lists l.table).terms in
    (formed l.variables (window ts l.i l.i-end) l.depth ≡ formed l.variables (window ts l.start l.i-end) 0)
    × ((l.depth + l.start ≤ l.i) × (values_after l.variables (window ts l.start l.i) 0 ≡ Some l.depth))
