-- The calls that enter the worked example, computed one by one.
use Rattle.std.proofs.Common.{◌≡◌, ℕ, true, false, cond, List, [], ◌∷◌, is_some, Some, None, Option, refl, sym, subst, arith}
use Rattle.std.proofs.lemmas.Bool.{both_ways}
use Rattle.std.specs.Prelude.{slice_set}
use Rattle.book.proofs.Histories.{follows-append, since-stands, standing}
use Rattle.book.specs.Calls.{Pages, Room, Call, Does, edit, mark, ready, close, empty, edit_refused, edited, number, ready_refused}
use Rattle.book.specs.Example.{entered, changed_back, marked_again, stale, calls, set_to_x0, Entered}
use Rattle.book.specs.Histories.{Entry, Follows, MarkedSince}
use Rattle.marks.specs.Rules.{Marking, Least, Obeys, Within, indices, marked, signal_marked}
use Rattle.marks.specs.Words.{sum_below, total}
use Rattle.refusal.specs.declared.fault.Refusal.{Refusal}
use Rattle.rules.proofs.Gate.{all-obey, among-all, gate-least}
use Rattle.rules.proofs.Runs.{stands-in, verdict}
use Rattle.rules.specs.Closing.{test_refused, closed_edge, freed, added, added_at, timer_loops, chaotic}
use Rattle.rules.specs.Gate.{Instance, among, gate_variables, gate_timers, gate_marks, gate_closed}
use Rattle.rules.specs.Promise.{Marked, ClosedBy}
use Rattle.rules.specs.States.{padded, numbered}
use Rattle.rules.specs.Steps.{answer, edge_at}
use Rattle.table.specs.Edges.{edge_fault}
use Rattle.table.specs.Examination.{first_at, first_from, limits_refused, locations_refused, examined}
use Rattle.table.specs.Expressions.{formed, sound}
use Rattle.table.specs.Gate.{gate_table}
use Rattle.table.specs.Lists.{Lists}

-- why the call c on the book s is refused, what it answers and what it leaves, where M are the least marks

abbrev why : Marking → Room → Pages → Call → Option Refusal
why M R s (edit x) = edit_refused R s.lists x
why M R s mark = test_refused s.lists M
why M R s ready = ready_refused s
why M R s close = None

abbrev answered : Marking → Pages → Call → ℕ
answered M s (edit x) = number s.lists x
answered M s mark = total M
answered M s ready = 0
answered M s close = 0

abbrev made : Marking → Pages → Call → Pages
made M s (edit x) = record { lists = edited x s.lists; kept = None }
made M s mark = record { lists = s.lists; kept = Some M }
made M s ready = s
made M s close = s

abbrev left : Marking → Pages → Entry → Pages
left M s e = cond (is_some (why M e.room s e.call)) s (made M s e.call)

-- of a mark, that M are the least
abbrev IsLeast : Marking → Pages → Call → Type 0
IsLeast M s (edit x) = Unit {0}
IsLeast M s mark = Marked s.lists M
IsLeast M s ready = Unit {0}
IsLeast M s close = Unit {0}

one : (M : Marking) (R : Room) (s : Pages) (c : Call) → IsLeast M s c → Does R c s (answer (why M R s c) (answered M s c)) (cond (is_some (why M R s c)) s (made M s c))
unfolding Does
one M R s (edit x) l = record { says = refl; leaves = refl }
one M R s mark l = (M, l, record { says = refl; leaves = refl })
one M R s ready l = record { says = refl; leaves = refl }
one M R s close l = record { says = refl; leaves = refl }

-- each call answers so, one after the other, and they leave t
abbrev Computes : Marking → Pages → List Entry → Pages → Type 0
Computes M s [] t = s ≡ t
Computes M s (e ∷ es) t = IsLeast M s e.call × ((answer (why M e.room s e.call) (answered M s e.call) ≡ e.answer) × Computes M (left M s e) es t)

follows : (M : Marking) (s : Pages) (es : List Entry) (t : Pages) → Computes M s es t → Follows s es t
unfolding Follows
follows M s [] t h = sym h
follows M s (e ∷ es) t h =
    (left M s e, subst (λ r. Does e.room e.call s r (left M s e)) h.1.0 (one M e.room s e.call h.0), follows M (left M s e) es t h.1.1)

-- the example with edge 2 changed, and its marks: t0 of rx is marked too

abbrev other_table : Lists
other_table = record { processes = gate_table.processes; signals = gate_table.signals; edges = slice_set gate_table.edges 2 set_to_x0; terms = gate_table.terms }

abbrev other_timers : List Instance
other_timers = (0, 0, 0) ∷ (0, 1, 0) ∷ (0, 2, 0) ∷ gate_timers

unfoldable other_marks : Marking
other_marks = record { variable = among gate_variables; timer = among other_timers }

other-obeys : Obeys other_table other_marks
unfolding gate_table other_marks marked indices
other-obeys =
    all-obey other_table other_marks
    ((refl, refl, refl), ((refl, refl, tt), ((refl, refl, λ m. refl), ((refl, refl, tt), ((refl, refl, refl), ((refl, refl, λ m. refl), ((refl, refl, tt), tt)))))))

module _ (N : Marking) (o : Obeys other_table N) where
  other-within : Within other_marks N
  unfolding gate_table other_marks marked signal_marked indices
  other-within =
      let rx1 : N.variable 0 1 0 ≡ true = (o 0 (edge_at other_table 0) refl).received refl refl (λ e. omega arith) in
      let rx2 : N.variable 0 2 0 ≡ true = (o 1 (edge_at other_table 1) refl).variables 0 refl rx1 in
      let rx0 : N.variable 0 0 0 ≡ true = (o 2 (edge_at other_table 2) refl).variables 0 refl rx2 in
      let on0 : N.timer 0 0 0 ≡ true = (o 2 (edge_at other_table 2) refl).timed refl (rw rx2 refl) in
      let on1 : N.timer 0 1 0 ≡ true = (o 0 (edge_at other_table 0) refl).timers 0 refl on0 in
      let on2 : N.timer 0 2 0 ≡ true = (o 1 (edge_at other_table 1) refl).timers 0 refl on1 in
      let go : signal_marked other_table N 1 ≡ true = rw rx1 refl in
      let tx1 : N.variable 1 1 0 ≡ true = (o 4 (edge_at other_table 4) refl).received refl go (λ e. omega arith) in
      let tx0 : N.variable 1 0 0 ≡ true = (o 5 (edge_at other_table 5) refl).variables 0 refl tx1 in
      let t0 : N.timer 1 0 0 ≡ true = (o 5 (edge_at other_table 5) refl).timed refl (rw tx1 refl) in
      let t1 : N.timer 1 1 0 ≡ true = (o 4 (edge_at other_table 4) refl).timers 0 refl t0 in
      record {
        variables = among-all (λ p l v. N.variable p l v ≡ true) gate_variables (rx0, (rx1, (rx2, (tx0, (tx1, tt)))));
        timers = among-all (λ p l n. N.timer p l n ≡ true) other_timers (on0, (on1, (on2, (t0, (t1, tt)))));
      }

other-least : Least other_table other_marks
other-least = record { obeys = other-obeys; least = other-within }

-- the calls in three parts: up to the table with another edge 2, back to the example, and the last three

entered-so : Follows empty entered (record { lists = other_table; kept = None })
unfolding gate_table gate_marks other_marks edit_refused edited test_refused closed_edge freed added added_at timer_loops chaotic padded numbered edge_fault formed sound first_at first_from limits_refused locations_refused examined indices marked sum_below total
entered-so =
    follows gate_marks empty entered (record { lists = other_table; kept = None })
    (tt, (refl, (tt, (refl, (tt, (refl, (tt, (refl, (tt, (refl, (tt, (refl, (tt, (refl, (tt, (refl, (tt, (refl, (tt, (refl, (tt, (refl, (tt, (refl, (tt, (refl, (tt, (refl, (tt, (refl, (tt, (refl, (tt, (refl, (tt, (refl, (tt, (refl, (tt, (refl, (tt, (refl, (tt, (refl, (λ _. gate-least, (refl, (tt, (refl, (tt, (refl, (tt, (refl, (tt, (refl, (tt, (refl, refl))))))))))))))))))))))))))))))))))))))))))))))))))))))))

changed-back : Follows (record { lists = other_table; kept = None }) changed_back (record { lists = gate_table; kept = None })
unfolding gate_table gate_marks other_marks edit_refused edited test_refused closed_edge freed added added_at timer_loops chaotic padded numbered edge_fault formed sound first_at first_from limits_refused locations_refused examined indices marked sum_below total
changed-back =
    follows other_marks (record { lists = other_table; kept = None }) changed_back (record { lists = gate_table; kept = None })
    (λ _. other-least, (refl, (tt, (refl, (tt, (refl, (tt, (refl, refl))))))))

marked-again : Follows (record { lists = gate_table; kept = None }) marked_again (record { lists = gate_table; kept = Some gate_marks })
unfolding gate_table gate_marks other_marks edit_refused edited test_refused closed_edge freed added added_at timer_loops chaotic padded numbered edge_fault formed sound first_at first_from limits_refused locations_refused examined indices marked sum_below total
marked-again =
    follows gate_marks (record { lists = gate_table; kept = None }) marked_again (record { lists = gate_table; kept = Some gate_marks })
    (λ _. gate-least, (refl, (tt, (refl, (tt, (refl, refl))))))

stale-so : Follows empty stale (record { lists = gate_table; kept = None })
stale-so = follows-append empty entered (record { lists = other_table; kept = None }) changed_back (record { lists = gate_table; kept = None }) entered-so changed-back

unmarked : MarkedSince stale → ⊥
unfolding standing
unmarked m = both_ways false refl (since-stands false stale m)

marked_since : MarkedSince calls
marked_since = record { before = stale; marking = _; since = _; split = refl; marked = refl; unedited = refl }

closed-by : test_refused gate_table gate_marks ≡ None → ClosedBy gate_table gate_closed
closed-by passes = record {
  marks = gate_marks;
  least = gate-least;
  passes = passes;
  meaning = refl;
  stands_in = stands-in gate_table gate_marks passes gate-least.obeys;
  verdict = verdict gate_table gate_marks passes gate-least.obeys;
}

passes : test_refused gate_table gate_marks ≡ None
unfolding gate_table gate_marks other_marks edit_refused edited test_refused closed_edge freed added added_at timer_loops chaotic padded numbered edge_fault formed sound first_at first_from limits_refused locations_refused examined indices marked sum_below total
passes = refl

pub example_is_entered : Entered
example_is_entered = record {
  before = stale-so;
  unmarked = unmarked;
  unclosed = record { ready = λ m. absurd (unmarked m); unready = λ _. refl };
  follows = follows-append empty stale (record { lists = gate_table; kept = None }) marked_again (record { lists = gate_table; kept = Some gate_marks }) stale-so marked-again;
  marked = marked_since;
  closes = record { ready = λ _. closed-by passes; unready = λ no. absurd (no marked_since) };
}
