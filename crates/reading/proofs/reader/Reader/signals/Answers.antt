use Rattle.std.proofs.Common.{rules}
use Rattle.reading.specs.Layout.{signal_format}
use Rattle.reading.proofs.reader.Reader.signals.Goals as goal
use Rattle.table.specs.Edges.{absent}

pub returns : goal.returns
returns c =
    let row = rw c.from.ensures at (c.row.ensures (signal_format c.args.processes) absent 6 (λ s r t k. search rules)) in
    record { reads = row.reads; moves = row.moves }
