-- A list of calls on a book, as bytes: two lengths of memory, and then 64 bytes for each call. What bytes are missing are zeros.
--   room_in bs         the memory that each call is lent: so many edges and terms, as far as there are places for them
--   timer_at bs i      a timer of three bytes: whether it is on, and its number
--   values_at, timers_at bs i   eight values; eight timers
--   process_at bs i    a process: its counts, and all values and timers that a record has places for
--   signal_at, term_at, span_at, edge_at   those records
--   terms_to bs i n    the first n terms of the expression at i
--   expression_at bs i an expression: how many terms, of which 17 are read, and the terms
--   call_of k bs i     the call of the code k whose bytes begin at i; the fields follow the code
--   call_at bs i       the call whose bytes begin at i
--   call_count bs      how many calls there are, of which 4,096 are made
--   calls_to bs n      the first n calls
use Rattle.std.specs.Prelude.{ℕ, zero, suc, ◌+◌, ◌-◌, ◌*◌, ◌/◌, min, cond, ℤ, List, [], ◌∷◌, ◌++◌, length, take, ◌==◌}
use Rattle.book.specs.Calls.{Room, Call, edit, mark, ready, close, declare_process, declare_signal, enter_expression, enter_edge, change_edge, strike_edge}
use Rattle.bridge.specs.Bytes.{byte_at, pair_at, value_at}
use Rattle.table.specs.Lists.{Proc}
use Rattle.table.specs.declared.record.Edge.{Edge}
use Rattle.table.specs.declared.record.Signal.{Signal}
use Rattle.table.specs.declared.record.Span.{Span}
use Rattle.table.specs.declared.record.Term.{Term}
use Rattle.table.specs.declared.record.Timer.{Timer}
use Rattle.table.specs.declared.record.Timer.TheVariants.{Off, On}

abbrev pub room_in : List ℕ → Room
room_in bs = record { edges = min (pair_at bs 0) 2080; terms = min (pair_at bs 2) 4128 }

abbrev pub timer_at : List ℕ → ℕ → Timer
timer_at bs i = cond (byte_at bs i == 0) Off (On (pair_at bs (i + 1)))

abbrev pub values_at : List ℕ → ℕ → List ℤ
values_at bs i =
    value_at bs i ∷ value_at bs (i + 2) ∷ value_at bs (i + 4) ∷ value_at bs (i + 6) ∷ value_at bs (i + 8) ∷ value_at bs (i + 10) ∷ value_at bs (i + 12) ∷ value_at bs (i + 14) ∷ []

abbrev pub timers_at : List ℕ → ℕ → List Timer
timers_at bs i =
    timer_at bs i ∷ timer_at bs (i + 3) ∷ timer_at bs (i + 6) ∷ timer_at bs (i + 9) ∷ timer_at bs (i + 12) ∷ timer_at bs (i + 15) ∷ timer_at bs (i + 18) ∷ timer_at bs (i + 21) ∷ []

abbrev pub process_at : List ℕ → ℕ → Proc
process_at bs i = record {
  locations = byte_at bs i;
  first = byte_at bs (i + 1);
  variables = byte_at bs (i + 2);
  timers = byte_at bs (i + 3);
  values = take (byte_at bs (i + 2)) (values_at bs (i + 4));
  settings = take (byte_at bs (i + 3)) (timers_at bs (i + 20));
}

abbrev pub signal_at : List ℕ → ℕ → Signal
signal_at bs i = record { class = byte_at bs i; destination = byte_at bs (i + 1) }

abbrev pub term_at : List ℕ → ℕ → Term
term_at bs i = record { operation = byte_at bs i; argument = value_at bs (i + 1) }

unfoldable pub terms_to : List ℕ → ℕ → ℕ → List Term
terms_to bs i zero = []
terms_to bs i (suc n) = terms_to bs i n ++ term_at bs (i + 3 * n) ∷ []

abbrev pub expression_at : List ℕ → ℕ → List Term
expression_at bs i = terms_to bs (i + 1) (min (byte_at bs i) 17)

abbrev pub span_at : List ℕ → ℕ → Span
span_at bs i = record { start = pair_at bs i; count = byte_at bs (i + 2) }

abbrev pub edge_at : List ℕ → ℕ → Edge
edge_at bs i = record {
  process = byte_at bs i;
  from = byte_at bs (i + 1);
  to = byte_at bs (i + 2);
  kind = byte_at bs (i + 3);
  first = byte_at bs (i + 4);
  second = byte_at bs (i + 5);
  mode = byte_at bs (i + 6);
  guard = span_at bs (i + 7);
  value = span_at bs (i + 10);
}

abbrev pub call_of : ℕ → List ℕ → ℕ → Call
call_of k bs i =
    cond (k == 0) (edit (declare_process (process_at bs (i + 1))))
    (cond (k == 1) (edit (declare_signal (signal_at bs (i + 1))))
    (cond (k == 2) (edit (enter_expression (expression_at bs (i + 1))))
    (cond (k == 3) (edit (enter_edge (edge_at bs (i + 1))))
    (cond (k == 4) (edit (change_edge (pair_at bs (i + 1)) (edge_at bs (i + 3))))
    (cond (k == 5) (edit (strike_edge (pair_at bs (i + 1))))
    (cond (k == 6) mark (cond (k == 7) ready close)))))))

unfoldable pub call_at : List ℕ → ℕ → Call
call_at bs i = call_of (byte_at bs i) bs i

abbrev pub call_count : List ℕ → ℕ
call_count bs = min ((length bs - 4) / 64) 4096

unfoldable pub calls_to : List ℕ → ℕ → List Call
calls_to bs zero = []
calls_to bs (suc n) = calls_to bs n ++ call_at bs (4 + 64 * n) ∷ []
