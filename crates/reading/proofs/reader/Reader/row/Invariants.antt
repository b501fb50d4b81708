use Rattle.std.proofs.Common.{◌≡◌, ℕ, ◌+◌, ◌*◌, ◌≤◌}
use Rattle.reading.specs.Formats.{Format}
use Rattle.reading.specs.Readings.{Steps, row_at}
use Rattle.reading.proofs.Rows.{Row}
use Rattle.reading.proofs.reader.Reader.row.Given as goal

abbrev pub invariant-loop : goal.invariant-loop
invariant-loop g l =
    ((f : Format _) (d : _) (w : ℕ) → ((s r t : _) → goal.F-post g l.read s r t → Steps f w s.now r t.now) →
    Row f.reads l.counter (row_at f d l.initial.self.bytes.now l.initial.self.place w l.counter) l.initial.self l.self
    × (l.self.place ≡ l.initial.self.place + w * l.counter))
    × (l.self.place ≤ l.initial.self.place + 64 * l.counter)
