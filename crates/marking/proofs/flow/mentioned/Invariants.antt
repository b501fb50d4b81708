use Rattle.std.proofs.Common.{◌≡◌, ℕ, ◌<◌, ◌||◌}
use Rattle.std.specs.List.{list_any}
use Rattle.marks.specs.Words.{bit}
use Rattle.table.proofs.Windows.{window}
use Rattle.marking.proofs.Masks.{variable-read}
use Rattle.marking.proofs.flow.mentioned.Given as goal

-- what is found so far, and what is left
abbrev pub invariant-loop-i : goal.invariant-loop-i
invariant-loop-i g l =
    let ts = (g.T.Table.lists l.table).terms in
    (b : ℕ) → b < 16 → (bit l.all b || list_any (variable-read b) (window ts l.i l.i-end)) ≡ list_any (variable-read b) (window ts l.start l.i-end)
