-- How runs of a closed table stand in for those of its open table T, whose marks are M. C is the closed table.
--   shown T M m          what is told of a message: its signal, and its value where the signal is unmarked
--   shared T M q         what is told of a queue: its internal messages, in order
--   Seen, seen T M p r   what is told of a process r with the number p: its location, its internal messages, and its variables
--                        and timers, None for those that are marked there; a chaos timer is not told
--   visible T M W        what is told of the world W
--   after T W cs         the world after the calls cs, refused ones included
--   taken T W cs         how many of the calls are accepted; ticks T W cs: how many of those are ticks
--   AllTaken T W cs      every one of the calls is accepted
--   is_offer c           the call is an offer
--   ClosedRun C room run the run is accepted from the start of C, and has no offer
--   Matches ..           the run matches the open calls cs: the points, one for each call and none before an earlier one's, say how far
--                        the run has come where the call is done; there both worlds tell the same; and the run is no longer by then
--                        than the calls accepted so far, and 64 steps more for each tick among them
--   same_edge, position  an edge's number among the added ones
--   number_of T M e      the number of the added edge e in the closed table
--   rearms T M V p ns    the rearms of those timers ns of process p that are at on(0) in V
--   shadow T M W V c     the closed steps that match the call c, the open world being W and the closed one V
--   shadow_run, shadow_points   those of a list of calls, and how far they come, from n on
--   run_of, points_of    the same from the starts
--   StandsIn T M         whatever calls are made of the open table, that closed run matches them
--   Verdict T M          what holds of all that closed runs can tell holds of all that open runs tell
use Rattle.std.specs.Prelude.{◌≡◌, ℕ, suc, ◌+◌, ◌*◌, ◌<◌, ◌≤◌, Bool, true, false, cond, ◌&&◌, List, [], ◌∷◌, ◌++◌, map, length, take, ℤ, pos, Some, None, fold, Option, ◌==◌, slice_index, slice_index_or}
use Rattle.std.specs.List.{range_with_len, flat_map, filter, list_any}
use Rattle.marks.specs.Instances.{process_at}
use Rattle.marks.specs.Rules.{Marking, class_at, signal_marked}
use Rattle.rules.specs.Closing.{closed, added, rearm, timeout}
use Rattle.rules.specs.States.{Running, World, at, started, start_refused, is_internal, due, numbered}
use Rattle.rules.specs.Steps.{accepts, next}
use Rattle.rules.specs.declared.step.Message.{Message}
use Rattle.rules.specs.declared.step.Step.{Step}
use Rattle.rules.specs.declared.step.Step.TheVariants.{Offer, Move, Discard, Expire, Tick}
use Rattle.table.specs.Lists.{Lists}
use Rattle.table.specs.declared.record.Edge.{Edge}
use Rattle.table.specs.declared.record.Span.{Span}
use Rattle.table.specs.declared.record.Timer.{Timer}
use Rattle.table.specs.declared.record.Timer.TheVariants.{Off}

-- what is told of a world

abbrev pub inside : Lists → Message → Bool
inside T m = is_internal (class_at T m.signal)

abbrev pub shown : Lists → Marking → Message → ℕ × Option ℤ
shown T M m = (m.signal, cond (signal_marked T M m.signal) None (Some m.value))

unfoldable pub shared : Lists → Marking → List Message → List (ℕ × Option ℤ)
shared T M q = map (shown T M) (filter (inside T) q)

pub record Seen : Type 0 where
  pub location : ℕ
  pub messages : List (ℕ × Option ℤ)
  pub variables : List (Option ℤ)
  pub timers : List (Option Timer)

unfoldable pub unless : {A : Type 0} → (ℕ → Bool) → List A → A → ℕ → List (Option A)
unless hidden xs d n = map (λ k. cond (hidden k) None (Some (slice_index_or xs k d))) (range_with_len 0 n)

unfoldable pub seen : Lists → Marking → ℕ → Running → Seen
seen T M p r = record {
  location = r.location;
  messages = shared T M r.queue;
  variables = unless (M.variable p r.location) r.variables (pos 0) (process_at T p).variables;
  timers = unless (M.timer p r.location) r.timers Off (process_at T p).timers;
}

unfoldable pub visible : Lists → Marking → World → List Seen
visible T M W = numbered (seen T M) 0 W.processes

-- runs

abbrev pub after : Lists → World → List Step → World
after T W cs = fold (next T) W cs

abbrev pub one : Bool → ℕ
one b = cond b 1 0

abbrev pub is_tick : Step → Bool
is_tick (Offer s v) = false
is_tick (Move k) = false
is_tick (Discard p) = false
is_tick (Expire p n) = false
is_tick Tick = true

abbrev pub is_offer : Step → Bool
is_offer (Offer s v) = true
is_offer (Move k) = false
is_offer (Discard p) = false
is_offer (Expire p n) = false
is_offer Tick = false

unfoldable pub taken : Lists → World → List Step → ℕ
taken T W [] = 0
taken T W (c ∷ cs) = one (accepts T W c) + taken T (next T W c) cs

unfoldable pub ticks : Lists → World → List Step → ℕ
ticks T W [] = 0
ticks T W (c ∷ cs) = one (accepts T W c && is_tick c) + ticks T (next T W c) cs

unfoldable pub AllTaken : Lists → World → List Step → Type 0
AllTaken T W [] = Unit {0}
AllTaken T W (c ∷ cs) = (accepts T W c ≡ true) × AllTaken T (next T W c) cs

pub record ClosedRun (C : Lists) (room : ℕ) (run : List Step) : Type 0 where
  pub accepted : AllTaken C (started C room) run
  pub unoffered : list_any is_offer run ≡ false

pub record Matches (T : Lists) (M : Marking) (C : Lists) (room : ℕ) (cs : List Step) (run : List Step) (points : List ℕ) : Type 0 where
  pub closed_run : ClosedRun C room run
  pub each : length points ≡ length cs
  pub order : (i : ℕ) → suc i < length points → slice_index points i ≤ slice_index points (suc i)
  pub within : (i : ℕ) → i < length points → slice_index points i ≤ length run
  pub starts : visible T M (started C room) ≡ visible T M (started T room)
  pub agree : (i : ℕ) → i < length cs → visible T M (after C (started C room) (take (slice_index points i) run)) ≡ visible T M (after T (started T room) (take (suc i) cs))
  pub bound : (i : ℕ) → i < length cs → slice_index points i ≤ taken T (started T room) (take (suc i) cs) + 64 * ticks T (started T room) (take (suc i) cs)

-- the matching run

abbrev pub same_span : Span → Span → Bool
same_span a b = a.start == b.start && a.count == b.count

abbrev pub same_edge : Edge → Edge → Bool
same_edge a b =
    (a.process == b.process) && (a.from == b.from && (a.to == b.to && (a.kind == b.kind && (a.first == b.first && (a.second == b.second && (a.mode == b.mode && (same_span a.guard b.guard && same_span a.value b.value)))))))

unfoldable pub position : {A : Type 0} → (A → Bool) → List A → ℕ
position f [] = 0
position f (x ∷ xs) = cond (f x) 0 (suc (position f xs))

unfoldable pub number_of : Lists → Marking → Edge → ℕ
number_of T M e = length T.edges + position (same_edge e) (added T M)

abbrev pub rearm_of : Lists → Marking → World → ℕ → ℕ → List Step
rearm_of T M V p n = cond (due (slice_index_or (at V p).timers n Off)) (Move (number_of T M (rearm p (at V p).location n)) ∷ []) []

abbrev pub rearms_of : Lists → Marking → World → ℕ → List Step
rearms_of T M V p = flat_map (rearm_of T M V p) (range_with_len 0 (process_at (closed T M) p).timers)

unfoldable pub rearms : Lists → Marking → World → List Step
rearms T M V = flat_map (rearms_of T M V) (range_with_len 0 (length T.processes))

abbrev pub head_inside : Lists → List Message → Bool
head_inside T [] = false
head_inside T (m ∷ ms) = inside T m

unfoldable pub shadow_taken : Lists → Marking → World → World → Step → List Step
shadow_taken T M W V (Offer s v) = []
shadow_taken T M W V (Move k) = Move k ∷ []
shadow_taken T M W V (Discard p) = cond (head_inside T (at W p).queue) (Discard p ∷ []) []
shadow_taken T M W V (Expire p n) =
    cond (M.timer p (at W p).location n) (Move (number_of T M (timeout p (at V p).location n)) ∷ []) (Expire p n ∷ [])
shadow_taken T M W V Tick = rearms T M V ++ Tick ∷ []

unfoldable pub shadow : Lists → Marking → World → World → Step → List Step
shadow T M W V c = cond (accepts T W c) (shadow_taken T M W V c) []

unfoldable pub shadow_run : Lists → Marking → World → World → List Step → List Step
shadow_run T M W V [] = []
shadow_run T M W V (c ∷ cs) =
    shadow T M W V c ++ shadow_run T M (next T W c) (after (closed T M) V (shadow T M W V c)) cs

unfoldable pub shadow_points : Lists → Marking → World → World → ℕ → List Step → List ℕ
shadow_points T M W V n [] = []
shadow_points T M W V n (c ∷ cs) =
    (n + length (shadow T M W V c)) ∷ shadow_points T M (next T W c) (after (closed T M) V (shadow T M W V c)) (n + length (shadow T M W V c)) cs

abbrev pub run_of : Lists → Marking → ℕ → List Step → List Step
run_of T M room cs = shadow_run T M (started T room) (started (closed T M) room) cs

abbrev pub points_of : Lists → Marking → ℕ → List Step → List ℕ
points_of T M room cs = shadow_points T M (started T room) (started (closed T M) room) 0 cs

-- the promise

pub record StandsIn (T : Lists) (M : Marking) : Type 0 where
  pub begins : (room : ℕ) → start_refused T room ≡ None → start_refused (closed T M) room ≡ None
  pub matches : (room : ℕ) → start_refused T room ≡ None → (cs : List Step) → Matches T M (closed T M) room cs (run_of T M room cs) (points_of T M room cs)

abbrev pub Verdict : Lists → Marking → Type 0
Verdict T M =
    (P : List Seen → Bool) (room : ℕ) → start_refused T room ≡ None → ((run : List Step) → ClosedRun (closed T M) room run → P (visible T M (after (closed T M) (started (closed T M) room) run)) ≡ true) → (cs : List Step) → P (visible T M (after T (started T room) cs)) ≡ true
