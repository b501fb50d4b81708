use Rattle.std.proofs.Common.{◌≡◌, ◌+◌, ◌*◌, ◌≤◌}
use Rattle.reading.specs.Rows.{name_start}
use Rattle.sheet.specs.Views.{bytes_of}
use Rattle.sheet.proofs.view.Sheet.name_start.Given as goal

abbrev pub invariant-loop : goal.invariant-loop
invariant-loop l =
    (l.at ≡ name_start (bytes_of l.self) l.self.names_at l.counter)
    × (l.at ≤ l.self.names_at + 256 * l.counter)
