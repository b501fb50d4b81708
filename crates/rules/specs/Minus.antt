-- A small table that sets a timer to −4.
--   minus_table   one process: x0 is −4 at first, and edge 0, from location 0 to 1, sets t0 to x0; no edge leaves location 1
--   minus_start   the world after a start
--   minus_set     the world after edge 0
use Rattle.std.specs.Prelude.{[], ◌∷◌, pos, negsuc}
use Rattle.rules.specs.States.{World, started}
use Rattle.rules.specs.Steps.{next}
use Rattle.rules.specs.declared.step.Step.TheVariants.{Move}
use Rattle.table.specs.Gate.{edge, span, term}
use Rattle.table.specs.Lists.{Lists}
use Rattle.table.specs.declared.record.Timer.TheVariants.{Off}

unfoldable pub minus_table : Lists
minus_table = record {
  processes = record { locations = 2; first = 0; variables = 1; timers = 1; values = negsuc 3 ∷ []; settings = Off ∷ [] } ∷ [];
  signals = [];
  edges = edge 0 0 1 3 0 0 0 (span 0 0) (span 0 1) ∷ [];
  terms = term 1 (pos 0) ∷ [];
}

abbrev pub minus_start : World
minus_start = started minus_table 16

abbrev pub minus_set : World
minus_set = next minus_table minus_start (Move 0)
