-- What lies at given places of a sheet's bytes.
--   no_edge, no_term    what is read where the bytes end too soon, as a blank process and an absent signal are; an opened sheet has no
--                       such place
--   text_at bs a        the characters of the name whose length byte is byte a of bs
--   next_name bs a      the byte behind that name
--   name_start bs a k   the length byte of the k-th name from byte a on
--   texts_at bs a n     n names from byte a on
--   named_at bs a n     the same with their places
--   processes_at bs ps  the processes whose records begin at the bits ps
--   signals_from bs p m n   the n signals, in a sheet of m processes, from bit p on
--   edges_from bs p n, terms_from bs p n   the n records from bit p on
use Rattle.std.specs.Prelude.{ℕ, zero, suc, ◌+◌, List, map, take, drop, pos, slice_index}
use Rattle.std.specs.List.{range_with_len}
use Rattle.reading.specs.Layout.{process_format, signal_format, edge_format, term_format}
use Rattle.reading.specs.Readings.{read_at, row_at}
use Rattle.table.specs.Edges.{absent, blank}
use Rattle.table.specs.Lists.{Proc}
use Rattle.table.specs.declared.record.Edge.{Edge}
use Rattle.table.specs.declared.record.Signal.{Signal}
use Rattle.table.specs.declared.record.Term.{Term}

abbrev pub no_edge : Edge
no_edge = record {
  process = 0;
  from = 0;
  to = 0;
  kind = 0;
  first = 0;
  second = 0;
  mode = 0;
  guard = record { start = 0; count = 0 };
  value = record { start = 0; count = 0 };
}

abbrev pub no_term : Term
no_term = record { operation = 0; argument = pos 0 }

abbrev pub text_at : List ℕ → ℕ → List ℕ
text_at bs a = take (slice_index bs a) (drop (a + 1) bs)

abbrev pub next_name : List ℕ → ℕ → ℕ
next_name bs a = a + 1 + slice_index bs a

unfoldable pub name_start : List ℕ → ℕ → ℕ → ℕ
name_start bs a zero = a
name_start bs a (suc k) = next_name bs (name_start bs a k)

abbrev pub texts_at : List ℕ → ℕ → ℕ → List (List ℕ)
texts_at bs a n = map (λ k. text_at bs (name_start bs a k)) (range_with_len 0 n)

abbrev pub named_at : List ℕ → ℕ → ℕ → List (ℕ × List ℕ)
named_at bs a n = map (λ k. (name_start bs a k + 1, text_at bs (name_start bs a k))) (range_with_len 0 n)

abbrev pub processes_at : List ℕ → List ℕ → List Proc
processes_at bs ps = map (λ p. read_at process_format blank bs p) ps

abbrev pub signals_from : List ℕ → ℕ → ℕ → ℕ → List Signal
signals_from bs p processes n = row_at (signal_format processes) absent bs p 6 n

abbrev pub edges_from : List ℕ → ℕ → ℕ → List Edge
edges_from bs p n = row_at edge_format no_edge bs p 60 n

abbrev pub terms_from : List ℕ → ℕ → ℕ → List Term
terms_from bs p n = row_at term_format no_term bs p 20 n
