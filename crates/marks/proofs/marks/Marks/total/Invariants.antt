use Rattle.std.proofs.Common.{◌≡◌, ◌*◌, ◌≤◌, get_or}
use Rattle.marks.specs.Words.{sum_below}
use Rattle.marks.proofs.Counting.{set-bits}
use Rattle.marks.proofs.marks.Marks.total.Given as goal

abbrev pub invariant-loop-word : goal.invariant-loop-word
invariant-loop-word l =
    (l.total ≤ 16 * l.word-index) × (l.total ≡ sum_below l.word-index (λ i. set-bits (get_or l.self.words i 0)))
