use Rattle.std.proofs.Common.{◌≡◌, ℕ, ◌-◌, ◌<◌, Option, Result}
use Rattle.examination.specs.Firsts.{first_told}
use Rattle.refusal.specs.Refusals.{outcome}
use Rattle.refusal.specs.declared.fault.Refusal.{Refusal}
use Rattle.examination.proofs.first.first_fault.Given as goal

-- what is left decides
abbrev pub invariant-loop-i : goal.invariant-loop-i
invariant-loop-i g l =
    ((i : ℕ) → i < l.count → goal.F-pre g l.check i)
    × ((refused : g.row.E.Denot → Refusal) (f : ℕ → Option Refusal)
    → ((i : ℕ) (r : Result (Unit {0}) g.row.E.Denot) → i < l.count → goal.F-post g l.check i r → outcome refused r ≡ f i)
    → first_told f l.i (l.count - l.i) ≡ first_told f 0 l.count)
