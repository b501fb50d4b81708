-- A table as numbers of 64 bits: its four lists, each as its length and the words of its records. Words that there are not are 0.
--   head_of r          the counts of a process and its first location, eight bits each
--   process_word o k   word k of the 17 of a process: its head, 8 variables, 8 timers
--   signal_word o      class and destination
--   edge_word o k      the two words of an edge
--   term_word o        operation and argument
--   process_part, signal_part, edge_part, term_part   word n of a list, of which the first is its length
--   signals_from T, edges_from T, terms_from T   the words before these lists
--   size_of T          how many words there are
--   table_word T n     word n
--   table_words T n    the first n words
--   words_of T         all of them
use Rattle.std.specs.Prelude.{ℕ, zero, suc, ◌+◌, ◌-◌, ◌*◌, ◌/◌, ◌%◌, cond, List, [], ◌∷◌, ◌++◌, length, Some, None, Option, ◌==◌, nat_le, nat_lt}
use Rattle.std.specs.Int.{w16, cast_unsigned}
use Rattle.std.specs.List.{slice_get}
use Rattle.bridge.specs.Sums.{back_of, front_of}
use Rattle.bridge.specs.Traces.{timer_word, variable_word}
use Rattle.table.specs.Lists.{Lists, Proc}
use Rattle.table.specs.declared.record.Edge.{Edge}
use Rattle.table.specs.declared.record.Signal.{Signal}
use Rattle.table.specs.declared.record.Term.{Term}

abbrev pub head_of : Proc → ℕ
head_of r = 16777216 * r.locations + 65536 * r.first + 256 * r.variables + r.timers

abbrev pub process_word : Option Proc → ℕ → ℕ
process_word None k = 0
process_word (Some r) k =
    cond (k == 0) (head_of r) (cond (nat_le k 8) (variable_word (slice_get r.values (k - 1))) (timer_word (slice_get r.settings (k - 9))))

abbrev pub signal_word : Option Signal → ℕ
signal_word None = 0
signal_word (Some s) = 256 * s.class + s.destination

abbrev pub edge_word : Option Edge → ℕ → ℕ
edge_word None k = 0
edge_word (Some e) k = cond (k == 0) (front_of e) (back_of e)

abbrev pub term_word : Option Term → ℕ
term_word None = 0
term_word (Some t) = 65536 * t.operation + cast_unsigned w16 t.argument

abbrev pub process_part : List Proc → ℕ → ℕ
process_part rs n = cond (n == 0) (length rs) (process_word (slice_get rs ((n - 1) / 17)) ((n - 1) % 17))

abbrev pub signal_part : List Signal → ℕ → ℕ
signal_part ss n = cond (n == 0) (length ss) (signal_word (slice_get ss (n - 1)))

abbrev pub edge_part : List Edge → ℕ → ℕ
edge_part es n = cond (n == 0) (length es) (edge_word (slice_get es ((n - 1) / 2)) ((n - 1) % 2))

abbrev pub term_part : List Term → ℕ → ℕ
term_part ts n = cond (n == 0) (length ts) (term_word (slice_get ts (n - 1)))

abbrev pub signals_from : Lists → ℕ
signals_from T = 1 + 17 * length T.processes

abbrev pub edges_from : Lists → ℕ
edges_from T = signals_from T + 1 + length T.signals

abbrev pub terms_from : Lists → ℕ
terms_from T = edges_from T + 1 + 2 * length T.edges

abbrev pub size_of : Lists → ℕ
size_of T = terms_from T + 1 + length T.terms

unfoldable pub table_word : Lists → ℕ → ℕ
table_word T n =
    cond (nat_lt n (signals_from T)) (process_part T.processes n)
    (cond (nat_lt n (edges_from T)) (signal_part T.signals (n - signals_from T))
    (cond (nat_lt n (terms_from T)) (edge_part T.edges (n - edges_from T))
    (term_part T.terms (n - terms_from T))))

unfoldable pub table_words : Lists → ℕ → List ℕ
table_words T zero = []
table_words T (suc n) = table_words T n ++ table_word T n ∷ []

abbrev pub words_of : Lists → List ℕ
words_of T = table_words T (size_of T)
