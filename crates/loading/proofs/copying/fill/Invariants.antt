use Rattle.std.proofs.Common.{◌≡◌, ℕ, ◌<◌, Some}
use Rattle.std.specs.List.{slice_get}
use Rattle.loading.proofs.copying.fill.Given as goal

-- the places below k
abbrev pub invariant-loop-k : goal.invariant-loop-k
invariant-loop-k g l =
    goal.F-IsAlwaysCallable g l.item
    × ((i : ℕ) (x : g.row.A.Denot) → i < l.k → slice_get l.places i ≡ Some x → goal.F-post g l.item i x)
