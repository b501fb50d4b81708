-- What a view of a sheet means.
--   bytes_of s          the bytes it lies in
--   lists_of s          the table that the view s means: what the layout reads at its places
--   texts_of s          the names, as the layout has them
--   contents_of s       that table with those names
--   names_of s          the names with their places
--   opened_of s         the table, and the names of processes and of signals with their places
--   heard r             a name that was answered: its place, and what lies there
use Rattle.std.specs.Prelude.{ℕ, ◌+◌, List, take, drop, Option}
use Rattle.std.specs.Borrow.{Bor}
use Rattle.std.specs.Option.{option_map}
use Rattle.reading.specs.Layout.{Contents}
use Rattle.reading.specs.Opening.{Opened}
use Rattle.reading.specs.Rows.{processes_at, signals_from, edges_from, terms_from, texts_at, named_at}
use Rattle.sheet.specs.declared.view.Sheet.{Sheet}
use Rattle.table.specs.Lists.{Lists}

abbrev pub bytes_of : Sheet → List ℕ
bytes_of s = s.bytes.now

unfoldable pub lists_of : Sheet → Lists
lists_of s = record {
  processes = processes_at (bytes_of s) (take s.counts.processes s.processes_at);
  signals = signals_from (bytes_of s) s.signals_at s.counts.processes s.counts.signals;
  edges = edges_from (bytes_of s) s.edges_at s.counts.edges;
  terms = terms_from (bytes_of s) s.terms_at s.counts.terms;
}

abbrev pub texts_of : Sheet → List (List ℕ)
texts_of s = texts_at (bytes_of s) s.names_at (s.counts.processes + s.counts.signals)

unfoldable pub contents_of : Sheet → Contents
contents_of s = record { lists = lists_of s; names = texts_of s }

unfoldable pub names_of : Sheet → List (ℕ × List ℕ)
names_of s = named_at (bytes_of s) s.names_at (s.counts.processes + s.counts.signals)

unfoldable pub opened_of : Sheet → Opened
opened_of s = record {
  lists = lists_of s;
  process_names = take s.counts.processes (names_of s);
  signal_names = drop s.counts.processes (names_of s);
}

abbrev pub heard : Option (ℕ × Bor (List ℕ)) → Option (ℕ × List ℕ)
heard r = option_map (λ n. (n.0, n.1.now)) r
