-- The worked example as a list of calls: those that the program `worked` makes, each with its answer.
--   desk               the room of each call: eight edges and eight terms
--   does c n           the call c is accepted and answers n
--   refuses c f        it is refused with f
--   declared, written, drawn   the calls for the processes and signals, for the terms, and for the edges; ready is refused then
--   changed, changed_back      a mark, and edge 2 changed; another, and edge 2 changed back; ready is refused after each
--   marked_again       a third mark, ready, and close
--   entered, stale, calls      all up to the change; all up to the change back; all
--   Entered            the calls get these answers and lead to the example: after the stale ones without marks, so that close means
--                      it unclosed, and at the end with its marks, so that close means its closed table
use Rattle.std.specs.Prelude.{ℕ, List, [], ◌∷◌, ◌++◌, pos, Some, None, Ok, Err}
use Rattle.book.specs.Calls.{Room, Call, edit, declare_process, declare_signal, enter_expression, enter_edge, change_edge, strike_edge, mark, ready, close, empty, book_at, table_at, edge_at}
use Rattle.book.specs.Histories.{Entry, Follows, MarkedSince, ClosesAs}
use Rattle.refusal.specs.declared.fault.Refusal.{Refusal}
use Rattle.rules.specs.Gate.{gate_marks, gate_closed}
use Rattle.table.specs.Gate.{gate_table, edge, signal, span, term}
use Rattle.table.specs.Lists.{Proc}
use Rattle.table.specs.declared.record.Edge.{Edge}
use Rattle.table.specs.declared.record.Span.{Span}
use Rattle.table.specs.declared.record.Term.{Term}
use Rattle.table.specs.declared.record.Timer.TheVariants.{Off}

abbrev desk : Room
desk = record { edges = 8; terms = 8 }

abbrev does : Call → ℕ → Entry
does c n = record { room = desk; call = c; answer = Ok n }

abbrev refuses : Call → Refusal → Entry
refuses c f = record { room = desk; call = c; answer = Err f }

-- the records that are entered

abbrev rx : Proc
rx = record { locations = 3; first = 0; variables = 2; timers = 1; values = pos 0 ∷ pos 7 ∷ []; settings = Off ∷ [] }

abbrev tx : Proc
tx = record { locations = 2; first = 0; variables = 1; timers = 1; values = pos 0 ∷ []; settings = Off ∷ [] }

abbrev nowhere : Proc
nowhere = record { locations = 0; first = 0; variables = 0; timers = 1; values = []; settings = Off ∷ [] }

abbrev x0 : Term
x0 = term 1 (pos 0)

abbrev none : Span
none = span 0 0

-- edge 2, which sets t0 to x1, and in its place one that sets it to x0
abbrev set_to_x1 : Edge
set_to_x1 = edge 0 2 0 3 0 0 0 none (span 1 1)

abbrev pub set_to_x0 : Edge
set_to_x0 = edge 0 2 0 3 0 0 0 none (span 0 1)

-- the calls

abbrev pub declared : List Entry
declared =
    refuses (edit (declare_signal (signal 1 0))) (table_at 0) ∷
    does (edit (declare_process rx)) 0 ∷
    refuses (edit (declare_process nowhere)) (table_at 1) ∷
    does (edit (declare_process tx)) 1 ∷
    does (edit (declare_signal (signal 1 0))) 0 ∷
    does (edit (declare_signal (signal 0 1))) 1 ∷
    does (edit (declare_signal (signal 2 0))) 2 ∷ []

abbrev pub written : List Entry
written =
    refuses (edit (enter_expression [])) (book_at 9 0) ∷
    does (edit (enter_expression (x0 ∷ []))) 0 ∷
    does (edit (enter_expression (term 1 (pos 1) ∷ []))) 1 ∷
    does (edit (enter_expression (term 0 (pos 0) ∷ x0 ∷ term 5 (pos 0) ∷ []))) 2 ∷
    refuses (edit (enter_expression (x0 ∷ x0 ∷ x0 ∷ x0 ∷ []))) (book_at 15 5) ∷ []

abbrev pub drawn : List Entry
drawn =
    does (edit (enter_edge (edge 0 0 1 0 0 0 0 none none))) 0 ∷
    refuses (edit (enter_edge (edge 0 0 9 0 0 0 0 none none))) (edge_at 7 1) ∷
    does (edit (enter_edge (edge 0 1 2 1 1 0 0 none (span 0 1)))) 1 ∷
    does (edit (enter_edge set_to_x1)) 2 ∷
    does (edit (enter_edge (edge 0 0 0 5 0 0 0 none none))) 3 ∷
    refuses (edit (enter_edge (edge 1 0 1 0 0 0 0 none none))) (edge_at 8 4) ∷
    does (edit (enter_edge (edge 1 0 1 0 1 0 0 none none))) 4 ∷
    does (edit (enter_edge (edge 1 1 0 3 0 0 1 (span 2 3) (span 0 1)))) 5 ∷
    does (edit (enter_edge (edge 1 1 0 1 2 0 2 none (span 0 1)))) 6 ∷
    refuses ready (book_at 17 0) ∷ []

-- marked, and then changed
abbrev pub changed : List Entry
changed =
    does mark 7 ∷
    does ready 0 ∷
    refuses (edit (change_edge 7 set_to_x0)) (book_at 16 7) ∷
    does ready 0 ∷
    does (edit (change_edge 2 set_to_x0)) 0 ∷
    refuses ready (book_at 17 0) ∷ []

-- marked, and then changed back
abbrev pub changed_back : List Entry
changed_back =
    does mark 10 ∷
    does (edit (change_edge 2 set_to_x1)) 0 ∷
    refuses (edit (strike_edge 7)) (book_at 16 7) ∷
    refuses ready (book_at 17 0) ∷ []

abbrev pub marked_again : List Entry
marked_again = does mark 7 ∷ does ready 0 ∷ does close 0 ∷ []

abbrev pub entered : List Entry
entered = declared ++ (written ++ (drawn ++ changed))

abbrev pub stale : List Entry
stale = entered ++ changed_back

abbrev pub calls : List Entry
calls = stale ++ marked_again

pub record Entered : Type 0 where
  pub before : Follows empty stale (record { lists = gate_table; kept = None })
  pub unmarked : MarkedSince stale → ⊥
  pub unclosed : ClosesAs stale gate_table gate_table
  pub follows : Follows empty calls (record { lists = gate_table; kept = Some gate_marks })
  pub marked : MarkedSince calls
  pub closes : ClosesAs calls gate_table gate_closed
