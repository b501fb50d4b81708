use Rattle.std.proofs.Common.{◌≡◌, Bool}
use Rattle.std.specs.List.{list_any}
use Rattle.table.specs.declared.record.Term.{Term}
use Rattle.table.proofs.Windows.{window}
use Rattle.table.proofs.expression.any_term.Given as goal

-- what is left decides
abbrev pub invariant-loop-i : goal.invariant-loop-i
invariant-loop-i g l =
    let ts = (g.T.Table.lists l.table).terms in
    goal.F-IsAlwaysCallable g l.test
    × ((f : Term → Bool) → ((t : Term) (b : Bool) → goal.F-post g l.test t b → b ≡ f t) → list_any f (window ts l.i l.i-end) ≡ list_any f (window ts l.start l.i-end))
