-- What records in memory mean.
--   copied ps ss es ts   the lists of a table of these process records, signals, edges and terms
use Rattle.std.specs.Prelude.{List, map}
use Rattle.table.specs.Lists.{Lists, meant}
use Rattle.table.specs.declared.record.Edge.{Edge}
use Rattle.table.specs.declared.record.Process.{Process}
use Rattle.table.specs.declared.record.Signal.{Signal}
use Rattle.table.specs.declared.record.Term.{Term}

abbrev pub copied : List Process → List Signal → List Edge → List Term → Lists
copied ps ss es ts = record { processes = map meant ps; signals = ss; edges = es; terms = ts }
