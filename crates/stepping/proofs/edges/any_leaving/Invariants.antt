use Rattle.std.proofs.Common.{◌≡◌, ◌-◌, Bool, drop}
use Rattle.std.specs.Fn.{FnReturnsAt}
use Rattle.std.specs.List.{list_any}
use Rattle.table.specs.Examination.{leaves}
use Rattle.table.specs.declared.record.Edge.{Edge}
use Rattle.stepping.proofs.edges.any_leaving.Given as goal

-- what is left decides
abbrev pub invariant-loop-k : goal.invariant-loop-k
invariant-loop-k g l =
    let es = (g.T.Table.lists l.table).edges in
    goal.F-IsAlwaysCallable g l.test
    × ((f : Edge → Bool) → ((e : Edge) (b : Bool) → FnReturnsAt g.F.Fn l.test e b → b ≡ f e)
    → list_any (leaves l.site.process l.site.location f) es ≡ list_any (leaves l.site.process l.site.location f) (drop l.k es))

abbrev pub decreases-loop-k : goal.decreases-loop-k
decreases-loop-k g l = l.count - l.k
