use Rattle.std.proofs.Common.{◌≡◌, ◌+◌, ◌*◌, take}
use Rattle.reading.specs.Formats.{Format}
use Rattle.reading.specs.Readings.{Reads}
use Rattle.reading.proofs.Rows.{Row}
use Rattle.reading.proofs.reader.Reader.read_first.Given as goal

abbrev pub invariant-loop-place : goal.invariant-loop-place
invariant-loop-place g l =
    ((f : Format _) → ((s r t : _) → goal.F-post g l.read s r t → Reads f.reads (λ x. x) s.now r t.now) →
    Row f.reads l.place-index (take l.place-index l.place-items) l.initial.self l.self)
    × (l.self.place ≡ l.initial.self.place + 16 * l.place-index)
