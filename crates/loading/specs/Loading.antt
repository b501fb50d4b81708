-- What tables in memory mean.
--   lists_of l   the four lists of a loaded table: of each array as many as the count says
--   kept k T     those of a table that keeps processes and signals in memory, over a table of the lists T
use Rattle.std.specs.Prelude.{take}
use Rattle.loading.specs.Copies.{copied}
use Rattle.loading.specs.declared.kept.Kept.{Kept}
use Rattle.loading.specs.declared.loaded.Loaded.{Loaded}
use Rattle.table.specs.Lists.{Lists}

abbrev pub lists_of : Loaded → Lists
lists_of l = copied (take l.process_count l.processes) (take l.signal_count l.signals) (take l.edge_count l.edges) (take l.term_count l.terms)

abbrev pub kept : {A : Type 0} → Kept A → Lists → Lists
kept k T = copied (take k.process_count k.processes) (take k.signal_count k.signals) T.edges T.terms
