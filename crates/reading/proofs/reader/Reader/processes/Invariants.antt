use Rattle.std.proofs.Common.{◌≡◌, ◌+◌, ◌*◌, ◌≤◌, take}
use Rattle.reading.specs.Layout.{process_format}
use Rattle.reading.specs.Opening.{processes_bits}
use Rattle.reading.specs.Rows.{processes_at}
use Rattle.reading.proofs.Rows.{Row}
use Rattle.reading.proofs.reader.Reader.processes.Given as goal

abbrev pub invariant-loop-place : goal.invariant-loop-place
invariant-loop-place l =
    let ps = processes_at l.initial.self.bytes.now (take l.place-index l.place-items) in
    Row process_format.reads l.place-index ps l.initial.self l.self
    × (l.self.place ≡ l.initial.self.place + processes_bits ps)
    × (l.self.place ≤ l.initial.self.place + 272 * l.place-index)
