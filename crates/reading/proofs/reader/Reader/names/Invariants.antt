use Rattle.std.proofs.Common.{◌≡◌, ◌+◌, ◌*◌, ◌/◌, ◌≤◌}
use Rattle.reading.specs.Layout.{name_format}
use Rattle.reading.specs.Rows.{texts_at, name_start}
use Rattle.reading.proofs.Naming.{Laid}
use Rattle.reading.proofs.Rows.{Row}
use Rattle.reading.proofs.reader.Reader.names.Given as goal

abbrev pub invariant-loop : goal.invariant-loop
invariant-loop l =
    let bs = l.initial.self.bytes.now in
    let a = l.initial.self.place / 8 in
    Row name_format.reads l.counter (texts_at bs a l.counter) l.initial.self l.self
    × (l.self.place ≡ 8 * name_start bs a l.counter)
    × (l.self.place ≤ l.initial.self.place + 128 * l.counter)
    × Laid bs a l.counter
