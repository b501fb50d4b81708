-- What a table means: four lists.
--   Proc        a process by what its record means: the counts, the first location, and just as many first values and
--               timers as it has (what an array holds beyond the count means nothing)
--   meant r     the process that the record r means
--   Lists       the processes, signals, edges and terms, each numbered from 0
use Rattle.std.specs.Prelude.{ℕ, List, take, ℤ}
use Rattle.table.specs.declared.record.Process.{Process}
use Rattle.table.specs.declared.record.Signal.{Signal}
use Rattle.table.specs.declared.record.Edge.{Edge}
use Rattle.table.specs.declared.record.Term.{Term}
use Rattle.table.specs.declared.record.Timer.{Timer}

pub record Proc : Type 0 where
  pub locations : ℕ
  pub first : ℕ
  pub variables : ℕ
  pub timers : ℕ
  pub values : List ℤ
  pub settings : List Timer

abbrev pub meant : Process → Proc
meant r = record {
  locations = r.locations;
  first = r.first;
  variables = r.variables;
  timers = r.timers;
  values = take r.variables r.values;
  settings = take r.timers r.settings;
}

pub record Lists : Type 0 where
  pub processes : List Proc
  pub signals : List Signal
  pub edges : List Edge
  pub terms : List Term
