use Rattle.std.proofs.Common.{◌≡◌, ◌+◌, ◌*◌, ◌/◌, length, take, drop}
use Rattle.reading.specs.Formats.{field}
use Rattle.reading.proofs.Rows.{Row}
use Rattle.reading.proofs.reader.Reader.characters.Given as goal

abbrev pub invariant-loop : goal.invariant-loop
invariant-loop l =
    Row (field 8 33 126 6).reads l.counter (take l.counter (drop (l.initial.self.place / 8) l.initial.self.bytes.now)) l.initial.self l.self
    × (l.self.place ≡ l.initial.self.place + 8 * l.counter)
    × (length (take l.counter (drop (l.initial.self.place / 8) l.initial.self.bytes.now)) ≡ l.counter)
