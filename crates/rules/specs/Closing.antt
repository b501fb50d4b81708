-- The closed table of a table T whose marks are M.
--   invites T e          e is an input of an inbound signal
--   chaotic T p          some edge of process p is one, so that p gains a chaos timer
--   closed_process T p r   process p, record r, with its chaos timer, first on(0), behind its own
--   closed_signal s      what came from the surroundings or went there is absent
--   Fate                 what becomes of an edge's move: it stays, waits for chaos, is skipped, or loses its value
--   fate T M e           what becomes of e
--   freed T M e          the guard of e goes: it is marked, or e is an else beside a marked guard
--   kind_under, first_under, second_under, value_under   the fields of an edge under its fate
--   changed f b c e      e under the fate f, without its guard if b; c is the chaos timer of its process
--   closed_edge T M e    what e becomes
--   loop p l k n m       an edge of kind k from location l of process p to l, with first n and second m
--   timer_loops T M p l n what is added at l for its own timer n: a timeout where no edge at l handles n, and a rearm to 1
--   chaos_loops T p l    what is added at l for the chaos timer
--   added_at T M p l     what is added at location l of process p
--   added T M            what is added, by process, waiting location and timer
--   closed T M           the closed table
--   ninth T p            the chaos timer of process p would be its ninth timer
--   test_refused T M     why the test refuses: the examination, 13, 14
--   closed_by T M        what closing means: the closed table, or where the test refuses the table as it is
use Rattle.std.specs.Prelude.{ℕ, ◌+◌, Bool, false, cond, ◌&&◌, List, [], ◌∷◌, ◌++◌, map, length, is_some, Some, None, Option, ◌==◌, nat_le, nat_lt}
use Rattle.std.specs.List.{range_with_len, flat_map, list_any}
use Rattle.std.specs.Option.{option_or, option_map}
use Rattle.marks.specs.Instances.{process_at}
use Rattle.marks.specs.Rules.{Marking, marked, class_at}
use Rattle.refusal.specs.Refusals.{refusal}
use Rattle.refusal.specs.declared.fault.Layer.{Layer}
use Rattle.refusal.specs.declared.fault.Place.{Place}
use Rattle.refusal.specs.declared.fault.Refusal.{Refusal}
use Rattle.rules.specs.States.{padded, is_inbound, is_outbound, is_input, waiting, handles, numbered}
use Rattle.rules.specs.Steps.{is_expression}
use Rattle.table.specs.Edges.{absent}
use Rattle.table.specs.Examination.{first_from, some, examined}
use Rattle.table.specs.Lists.{Lists, Proc}
use Rattle.table.specs.Records.{kind_of, class_of, mode_of}
use Rattle.table.specs.declared.record.Edge.{Edge}
use Rattle.table.specs.declared.record.Kind.{Kind}
use Rattle.table.specs.declared.record.Kind.TheVariants.{Input, Output, Assignment, Set, Reset, Timeout, Rearm, Skip, Unknown}
use Rattle.table.specs.declared.record.Mode.{Mode}
use Rattle.table.specs.declared.record.Signal.{Signal}
use Rattle.table.specs.declared.record.Span.{Span}
use Rattle.table.specs.declared.record.Timer.TheVariants.{Off, On}

-- processes and signals

abbrev pub invites : Lists → Edge → Bool
invites T e = is_input (kind_of e.kind) && is_inbound (class_at T e.first)

unfoldable pub chaotic : Lists → ℕ → Bool
chaotic T p = list_any (λ e. (e.process == p) && invites T e) T.edges

-- the chaos timer comes right behind the process's own
abbrev pub with_chaos : Proc → Proc
with_chaos r = record {
  locations = r.locations;
  first = r.first;
  variables = r.variables;
  timers = r.timers + 1;
  values = r.values;
  settings = padded r.timers Off r.settings ++ On 0 ∷ [];
}

abbrev pub closed_process : Lists → ℕ → Proc → Proc
closed_process T p r = cond (chaotic T p) (with_chaos r) r

abbrev pub closed_signal : Signal → Signal
closed_signal s = cond (is_inbound (class_of s.class)) absent (cond (is_outbound (class_of s.class)) absent s)

-- edges

pub data Fate : Type 0 where
  stays : Fate
  waits : Fate
  skipped : Fate
  emptied : Fate

-- by its kind, whether its signal is inbound or outbound, and whether its value is marked
abbrev pub fate_as : Kind → Bool → Bool → Bool → Fate
fate_as Input i o m = cond i waits stays
fate_as Output i o m = cond o skipped (cond m emptied stays)
fate_as Assignment i o m = cond m skipped stays
fate_as Set i o m = cond m emptied stays
fate_as Reset i o m = stays
fate_as Timeout i o m = stays
fate_as Rearm i o m = stays
fate_as Skip i o m = stays
fate_as Unknown i o m = stays

abbrev pub fate : Lists → Marking → Edge → Fate
fate T M e =
    fate_as (kind_of e.kind) (is_inbound (class_at T e.first)) (is_outbound (class_at T e.first)) (marked T M e e.value)

abbrev pub marked_guard : Lists → Marking → Edge → Bool
marked_guard T M e = is_expression (mode_of e.mode) && marked T M e e.guard

abbrev pub freed_as : Mode → Lists → Marking → Edge → Bool
freed_as Mode.Unguarded T M e = false
freed_as Mode.Expression T M e = marked T M e e.guard
freed_as Mode.Else T M e = some T (marked_guard T M) e.process e.from
freed_as Mode.Unknown T M e = false

unfoldable pub freed : Lists → Marking → Edge → Bool
freed T M e = freed_as (mode_of e.mode) T M e

abbrev pub no_span : Span
no_span = record { start = 0; count = 0 }

-- kinds 6 and 7 are rearm and skip
abbrev pub kind_under : Fate → ℕ → ℕ
kind_under stays k = k
kind_under waits k = 6
kind_under skipped k = 7
kind_under emptied k = k

-- the first field is the chaos timer, 0 or as it was; the second 0 or as it was
abbrev pub first_under : Fate → ℕ → ℕ → ℕ
first_under stays c n = n
first_under waits c n = c
first_under skipped c n = 0
first_under emptied c n = n

abbrev pub second_under : Fate → ℕ → ℕ
second_under stays n = n
second_under waits n = 0
second_under skipped n = 0
second_under emptied n = n

abbrev pub value_under : Fate → Span → Span
value_under stays s = s
value_under waits s = no_span
value_under skipped s = no_span
value_under emptied s = no_span

abbrev pub changed : Fate → Bool → ℕ → Edge → Edge
changed f b c e = record {
  process = e.process;
  from = e.from;
  to = e.to;
  kind = kind_under f e.kind;
  first = first_under f c e.first;
  second = second_under f e.second;
  mode = cond b 0 e.mode;
  guard = cond b no_span e.guard;
  value = value_under f e.value;
}

unfoldable pub closed_edge : Lists → Marking → Edge → Edge
closed_edge T M e = changed (fate T M e) (freed T M e) (process_at T e.process).timers e

-- added edges

abbrev pub loop : ℕ → ℕ → ℕ → ℕ → ℕ → Edge
loop p l k n m =
    record { process = p; from = l; to = l; kind = k; first = n; second = m; mode = 0; guard = no_span; value = no_span }

-- kind 5 is a timeout, kind 6 a rearm
abbrev pub timeout : ℕ → ℕ → ℕ → Edge
timeout p l n = loop p l 5 n 0

abbrev pub rearm : ℕ → ℕ → ℕ → Edge
rearm p l n = loop p l 6 n 1

unfoldable pub timer_loops : Lists → Marking → ℕ → ℕ → ℕ → List Edge
timer_loops T M p l n =
    cond (M.timer p l n) (cond (some T (handles n) p l) (rearm p l n ∷ []) (timeout p l n ∷ rearm p l n ∷ [])) []

abbrev pub chaos_loops : Lists → ℕ → ℕ → List Edge
chaos_loops T p l = cond (chaotic T p) (rearm p l (process_at T p).timers ∷ []) []

unfoldable pub added_at : Lists → Marking → ℕ → ℕ → List Edge
added_at T M p l =
    cond (waiting T p l) (chaos_loops T p l ++ flat_map (timer_loops T M p l) (range_with_len 0 (process_at T p).timers)) []

abbrev pub added_to : Lists → Marking → ℕ → List Edge
added_to T M p = flat_map (added_at T M p) (range_with_len 0 (process_at T p).locations)

unfoldable pub added : Lists → Marking → List Edge
added T M = flat_map (added_to T M) (range_with_len 0 (length T.processes))

unfoldable pub closed : Lists → Marking → Lists
closed T M = record {
  processes = numbered (closed_process T) 0 T.processes;
  signals = map closed_signal T.signals;
  edges = map (closed_edge T M) T.edges ++ added T M;
  terms = T.terms;
}

-- the test

abbrev pub closed_count : Lists → Marking → ℕ
closed_count T M = length T.edges + length (added T M)

abbrev pub ninth : Lists → ℕ → Bool
ninth T p = chaotic T p && nat_le 8 (process_at T p).timers

abbrev pub test_at : ℕ → ℕ → Refusal
test_at number place = refusal number Layer.Test (Place.At place)

abbrev pub timers_refused : Lists → Option Refusal
timers_refused T = option_map (test_at 13) (first_from (ninth T) 0 (length T.processes))

abbrev pub count_refused : Lists → Marking → Option Refusal
count_refused T M = cond (nat_lt 2048 (closed_count T M)) (Some (test_at 14 (closed_count T M))) None

unfoldable pub test_refused : Lists → Marking → Option Refusal
test_refused T M = option_or (examined T) (option_or (timers_refused T) (count_refused T M))

abbrev pub closed_by : Lists → Marking → Lists
closed_by T M = cond (is_some (test_refused T M)) T (closed T M)
