-- The step rules: when a step is refused, what it does, and what it answers. e is an edge, r its process, v its value.
--   scope T p r        the variables of process p that the table T gives it
--   passing vars ts e  the guard of e is an expression, and true
--   allowed T vars e   the guard of e is true: absent, non-zero, or an else where nothing at the location is unguarded or passes
--   value_in T vars e  the value of e; 0 where it is empty
--   kind_ready k r e   what an edge of kind k needs of its process: its signal at the head, or its timer at on(0)
--   ready T r e        r is where e begins, the guard is true, and its kind is ready
--   enabled T W e      the edge breaks none of 7 to 10, and is ready
--   sends T e          e is an output of an internal signal
--   full W p           the queue of process p holds 16 messages
--   discards T W p     the head of p's queue can be dropped
--   expires T W p n    timer n of p can be turned off
--   rests T p r        r waits, has no message, and no timer of its own is at on(0)
--   state_refused T W  18: the count of processes or the table's limits, then the first process without its location or queue places
--   call_refused T W c   19, 20 and 21 of a call, in this order
--   step_refused T W c   the first refusal of a call
--   moved k v e r      r after a move along e of kind k
--   put, deliver       a world with a process replaced, or with a message appended at one
--   effect T W c       what an accepted call makes of the world W
--   told T W c         the message that leaves: an outbound output's
--   next T W c         the world after a call: as it was where the call is refused
--   stepped T W c      what a call answers
use Rattle.std.specs.Prelude.{ℕ, ◌-◌, Bool, true, false, cond, not, ◌&&◌, ◌||◌, List, [], ◌∷◌, ◌++◌, map, length, take, drop, ℤ, pos, negsuc, is_some, Some, None, Ok, Err, Option, Result, ◌==◌, nat_le, slice_index_or, slice_set}
use Rattle.std.specs.Option.{option_or, unwrap_or}
use Rattle.evaluation.specs.Values.{value_of, holds}
use Rattle.marks.specs.Instances.{process_at}
use Rattle.marks.specs.Rules.{is_output, class_at}
use Rattle.refusal.specs.Refusals.{refusal, first}
use Rattle.refusal.specs.declared.fault.Layer.{Layer}
use Rattle.refusal.specs.declared.fault.Place.{Place}
use Rattle.refusal.specs.declared.fault.Refusal.{Refusal}
use Rattle.rules.specs.States.{Running, World, at, lacking, is_inbound, is_internal, is_outbound, goal, due, waiting, takes_signal, handles, numbered}
use Rattle.rules.specs.declared.step.Message.{Message}
use Rattle.rules.specs.declared.step.Step.{Step}
use Rattle.rules.specs.declared.step.Step.TheVariants.{Offer, Move, Discard, Expire, Tick}
use Rattle.table.specs.Edges.{edge_fault}
use Rattle.table.specs.Examination.{first_at, some, limits_refused}
use Rattle.std.specs.List.{list_any}
use Rattle.table.specs.Lists.{Lists}
use Rattle.table.specs.Records.{kind_of, mode_of}
use Rattle.table.specs.declared.record.Edge.{Edge}
use Rattle.table.specs.declared.record.Kind.{Kind}
use Rattle.table.specs.declared.record.Kind.TheVariants.{Input, Output, Assignment, Set, Reset, Timeout, Rearm, Skip, Unknown}
use Rattle.table.specs.declared.record.Mode.{Mode}
use Rattle.table.specs.declared.record.Term.{Term}
use Rattle.table.specs.declared.record.Timer.{Timer}
use Rattle.table.specs.declared.record.Timer.TheVariants.{Off, On}

abbrev pub state_at : ℕ → ℕ → Refusal
state_at number place = refusal number Layer.State (Place.At place)

abbrev pub no_edge : Edge
no_edge = record {
  process = 0;
  from = 0;
  to = 0;
  kind = 8;
  first = 0;
  second = 0;
  mode = 0;
  guard = record { start = 0; count = 0 };
  value = record { start = 0; count = 0 };
}

abbrev pub edge_at : Lists → ℕ → Edge
edge_at T k = slice_index_or T.edges k no_edge

-- guards and values

abbrev pub scope : Lists → ℕ → Running → List ℤ
scope T p r = take (process_at T p).variables r.variables

abbrev pub is_unguarded : Mode → Bool
is_unguarded Mode.Unguarded = true
is_unguarded Mode.Expression = false
is_unguarded Mode.Else = false
is_unguarded Mode.Unknown = false

abbrev pub is_expression : Mode → Bool
is_expression Mode.Unguarded = false
is_expression Mode.Expression = true
is_expression Mode.Else = false
is_expression Mode.Unknown = false

abbrev pub unguarded : Edge → Bool
unguarded e = is_unguarded (mode_of e.mode)

abbrev pub passing : List ℤ → List Term → Edge → Bool
passing vars ts e = is_expression (mode_of e.mode) && holds vars ts e.guard

unfoldable pub otherwise : Lists → List ℤ → ℕ → ℕ → Bool
otherwise T vars p l = not (some T unguarded p l || some T (passing vars T.terms) p l)

abbrev pub allowed_as : Mode → Lists → List ℤ → Edge → Bool
allowed_as Mode.Unguarded T vars e = true
allowed_as Mode.Expression T vars e = holds vars T.terms e.guard
allowed_as Mode.Else T vars e = otherwise T vars e.process e.from
allowed_as Mode.Unknown T vars e = false

unfoldable pub allowed : Lists → List ℤ → Edge → Bool
allowed T vars e = allowed_as (mode_of e.mode) T vars e

unfoldable pub value_in : Lists → List ℤ → Edge → ℤ
value_in T vars e = cond (e.value.count == 0) (pos 0) (unwrap_or (value_of vars T.terms e.value) (pos 0))

-- what a step needs

abbrev pub head_is : ℕ → List Message → Bool
head_is s [] = false
head_is s (m ∷ ms) = m.signal == s

abbrev pub head_value : List Message → ℤ
head_value [] = pos 0
head_value (m ∷ ms) = m.value

abbrev pub no_message : List Message → Bool
no_message [] = true
no_message (m ∷ ms) = false

abbrev pub kind_ready : Kind → Running → Edge → Bool
kind_ready Input r e = head_is e.first r.queue
kind_ready Output r e = true
kind_ready Assignment r e = true
kind_ready Set r e = true
kind_ready Reset r e = true
kind_ready Timeout r e = due (slice_index_or r.timers e.first Off)
kind_ready Rearm r e = due (slice_index_or r.timers e.first Off)
kind_ready Skip r e = true
kind_ready Unknown r e = false

abbrev pub ready : Lists → Running → Edge → Bool
ready T r e = r.location == e.from && (allowed T (scope T e.process r) e && kind_ready (kind_of e.kind) r e)

unfoldable pub enabled : Lists → World → Edge → Bool
enabled T W e = not (is_some (edge_fault T e)) && ready T (at W e.process) e

abbrev pub sends : Lists → Edge → Bool
sends T e = is_output (kind_of e.kind) && is_internal (class_at T e.first)

abbrev pub full : World → ℕ → Bool
full W p = nat_le 16 (length (at W p).queue)

abbrev pub untaken : Lists → ℕ → ℕ → List Message → Bool
untaken T p l [] = false
untaken T p l (m ∷ ms) = not (some T (takes_signal m.signal) p l)

unfoldable pub discards : Lists → World → ℕ → Bool
discards T W p = waiting T p (at W p).location && untaken T p (at W p).location (at W p).queue

unfoldable pub expires : Lists → World → ℕ → ℕ → Bool
expires T W p n =
    waiting T p (at W p).location && (due (slice_index_or (at W p).timers n Off) && not (some T (handles n) p (at W p).location))

unfoldable pub rests : Lists → ℕ → Running → Bool
rests T p r =
    waiting T p r.location && (no_message r.queue && not (list_any due (take (process_at T p).timers r.timers)))

-- refusals

abbrev pub misplaced : Lists → ℕ → ℕ → Running → Option Refusal
misplaced T room p r = cond (nat_le (process_at T p).locations r.location || lacking room p) (Some (state_at 18 p)) None

abbrev pub unlike : Lists → World → Bool
unlike T W = not (length W.processes == length T.processes) || is_some (limits_refused T)

unfoldable pub state_refused : Lists → World → Option Refusal
state_refused T W = option_or (cond (unlike T W) (Some (state_at 18 0)) None) (first_at (misplaced T W.room) 0 W.processes)

abbrev pub restless : Lists → ℕ → Running → Option Refusal
restless T p r = cond (rests T p r) None (Some (state_at 20 p))

abbrev pub offer_tests : Lists → World → ℕ → List (Bool × Refusal)
offer_tests T W s = (not (is_inbound (class_at T s)), state_at 19 s) ∷ (full W (goal T s), state_at 21 (goal T s)) ∷ []

abbrev pub move_tests : Lists → World → Edge → List (Bool × Refusal)
move_tests T W e =
    (not (enabled T W e), state_at 20 e.process) ∷ (sends T e && full W (goal T e.first), state_at 21 (goal T e.first)) ∷ []

abbrev pub discard_tests : Lists → World → ℕ → List (Bool × Refusal)
discard_tests T W p = (nat_le (length T.processes) p, state_at 19 p) ∷ (not (discards T W p), state_at 20 p) ∷ []

abbrev pub expire_tests : Lists → World → ℕ → ℕ → List (Bool × Refusal)
expire_tests T W p n =
    (nat_le (length T.processes) p, state_at 19 p) ∷ (nat_le (process_at T p).timers n, state_at 19 n) ∷ (not (expires T W p n), state_at 20 p) ∷ []

unfoldable pub call_refused : Lists → World → Step → Option Refusal
call_refused T W (Offer s v) = first (offer_tests T W s)
call_refused T W (Move k) = first ((nat_le (length T.edges) k, state_at 19 k) ∷ move_tests T W (edge_at T k))
call_refused T W (Discard p) = first (discard_tests T W p)
call_refused T W (Expire p n) = first (expire_tests T W p n)
call_refused T W Tick = first_at (restless T) 0 W.processes

unfoldable pub step_refused : Lists → World → Step → Option Refusal
step_refused T W c = option_or (state_refused T W) (call_refused T W c)

-- effects

abbrev pub ticks_of : ℤ → ℕ
ticks_of (pos n) = n
ticks_of (negsuc n) = 0

abbrev pub stored : Edge → Running → List ℤ
stored e r = cond (e.second == 15) r.variables (slice_set r.variables e.second (head_value r.queue))

abbrev pub moved : Kind → ℤ → Edge → Running → Running
moved Input v e r = record { location = e.to; variables = stored e r; timers = r.timers; queue = drop 1 r.queue }
moved Output v e r = record { location = e.to; variables = r.variables; timers = r.timers; queue = r.queue }
moved Assignment v e r = record { location = e.to; variables = slice_set r.variables e.first v; timers = r.timers; queue = r.queue }
moved Set v e r =
    record { location = e.to; variables = r.variables; timers = slice_set r.timers e.first (On (ticks_of v)); queue = r.queue }
moved Reset v e r = record { location = e.to; variables = r.variables; timers = slice_set r.timers e.first Off; queue = r.queue }
moved Timeout v e r = record { location = e.to; variables = r.variables; timers = slice_set r.timers e.first Off; queue = r.queue }
moved Rearm v e r =
    record { location = e.to; variables = r.variables; timers = slice_set r.timers e.first (On e.second); queue = r.queue }
moved Skip v e r = record { location = e.to; variables = r.variables; timers = r.timers; queue = r.queue }
moved Unknown v e r = record { location = e.to; variables = r.variables; timers = r.timers; queue = r.queue }

abbrev pub put : World → ℕ → Running → World
put W p r = record { processes = slice_set W.processes p r; room = W.room }

abbrev pub message : ℕ → ℤ → Message
message s v = record { signal = s; value = v }

abbrev pub received : Message → Running → Running
received m r = record { location = r.location; variables = r.variables; timers = r.timers; queue = r.queue ++ m ∷ [] }

unfoldable pub deliver : World → ℕ → Message → World
deliver W p m = put W p (received m (at W p))

abbrev pub lower : Timer → Timer
lower Off = Off
lower (On n) = On (n - 1)

unfoldable pub lowered : ℕ → List Timer → List Timer
lowered n ts = map lower (take n ts) ++ drop n ts

abbrev pub ticked : Lists → ℕ → Running → Running
ticked T p r = record {
  location = r.location;
  variables = r.variables;
  timers = lowered (process_at T p).timers r.timers;
  queue = r.queue;
}

abbrev pub edge_value : Lists → World → Edge → ℤ
edge_value T W e = value_in T (scope T e.process (at W e.process)) e

unfoldable pub moved_along : Lists → World → Edge → World
moved_along T W e = put W e.process (moved (kind_of e.kind) (edge_value T W e) e (at W e.process))

abbrev pub dropped : Running → Running
dropped r = record { location = r.location; variables = r.variables; timers = r.timers; queue = drop 1 r.queue }

abbrev pub expired : ℕ → Running → Running
expired n r = record { location = r.location; variables = r.variables; timers = slice_set r.timers n Off; queue = r.queue }

unfoldable pub move_effect : Lists → World → Edge → World
move_effect T W e =
    cond (sends T e) (deliver (moved_along T W e) (goal T e.first) (message e.first (edge_value T W e))) (moved_along T W e)

unfoldable pub effect : Lists → World → Step → World
effect T W (Offer s v) = deliver W (goal T s) (message s v)
effect T W (Move k) = move_effect T W (edge_at T k)
effect T W (Discard p) = put W p (dropped (at W p))
effect T W (Expire p n) = put W p (expired n (at W p))
effect T W Tick = record { processes = numbered (ticked T) 0 W.processes; room = W.room }

abbrev pub leaving : Lists → World → Edge → Option Message
leaving T W e =
    cond (is_output (kind_of e.kind) && is_outbound (class_at T e.first)) (Some (message e.first (edge_value T W e))) None

unfoldable pub told : Lists → World → Step → Option Message
told T W (Offer s v) = None
told T W (Move k) = leaving T W (edge_at T k)
told T W (Discard p) = None
told T W (Expire p n) = None
told T W Tick = None

abbrev pub accepts : Lists → World → Step → Bool
accepts T W c = not (is_some (step_refused T W c))

unfoldable pub next : Lists → World → Step → World
next T W c = cond (accepts T W c) (effect T W c) W

abbrev pub answer : {A : Type 0} → Option Refusal → A → Result A Refusal
answer None x = Ok x
answer (Some r) x = Err r

unfoldable pub stepped : Lists → World → Step → Result (Option Message) Refusal
stepped T W c = answer (step_refused T W c) (told T W c)
