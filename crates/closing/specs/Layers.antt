-- What a closing layer means, by its plan q and the lists T of the table below.
--   marks_in q           the plan's marks
--   timers_in q p        how many timers process p has of its own
--   fate_in q T e        what becomes of the move of edge e
--   freed_in q T e       whether e loses its guard
--   edge_in q T e        what e becomes
--   process_in q p r     process p, whose record means r, with its chaos timer if it has one
--   loops_in q           the added edges
--   closed_in q T        the four lists by the plan
--   at_work o T          the plan o of a layer over the table below, if it closes: no table of more than 2,048 edges
--   by_plan o T          the lists by the plan o, if there is one, else the table below
--   layered o T          what a layer with the plan o means
use Rattle.std.specs.Prelude.{ℕ, Bool, false, cond, ◌&&◌, List, ◌++◌, map, length, Some, None, Option, nat_le, nat_lt, slice_index}
use Rattle.closing.specs.declared.plan.Plan.{Plan}
use Rattle.loops.specs.Rows.{edges_of}
use Rattle.marks.specs.Rules.{Marking, marked}
use Rattle.marks.specs.Words.{marking}
use Rattle.rules.specs.Closing.{Fate, fate, with_chaos, closed_signal, changed}
use Rattle.rules.specs.States.{numbered}
use Rattle.survey.specs.Surveys.{spot_at, chaotic_at}
use Rattle.table.specs.Lists.{Lists, Proc}
use Rattle.table.specs.Records.{mode_of}
use Rattle.table.specs.declared.record.Edge.{Edge}
use Rattle.table.specs.declared.record.Mode.{Mode}

abbrev pub marks_in : Plan → Marking
marks_in q = marking q.marks

abbrev pub timers_in : Plan → ℕ → ℕ
timers_in q p = cond (nat_lt p 8) (slice_index q.timers p) 0

abbrev pub fate_in : Plan → Lists → Edge → Fate
fate_in q T e = fate T (marks_in q) e

abbrev pub freed_as_in : Mode → Plan → Lists → Edge → Bool
freed_as_in Mode.Unguarded q T e = false
freed_as_in Mode.Expression q T e = marked T (marks_in q) e e.guard
freed_as_in Mode.Else q T e = (spot_at q.survey.spots e.process e.from).guard_marked
freed_as_in Mode.Unknown q T e = false

abbrev pub freed_in : Plan → Lists → Edge → Bool
freed_in q T e = freed_as_in (mode_of e.mode) q T e

unfoldable pub edge_in : Plan → Lists → Edge → Edge
edge_in q T e = changed (fate_in q T e) (freed_in q T e) (timers_in q e.process) e

abbrev pub process_in : Plan → ℕ → Proc → Proc
process_in q p r = cond (chaotic_at q.survey.chaotic p && nat_lt r.timers 8) (with_chaos r) r

abbrev pub loops_in : Plan → List Edge
loops_in q = edges_of q.loops

unfoldable pub closed_in : Plan → Lists → Lists
closed_in q T = record {
  processes = numbered (process_in q) 0 T.processes;
  signals = map closed_signal T.signals;
  edges = map (edge_in q T) T.edges ++ loops_in q;
  terms = T.terms;
}

abbrev pub at_work : Option Plan → Lists → Option Plan
at_work None T = None
at_work (Some q) T = cond (nat_le (length T.edges) 2048) (Some q) None

unfoldable pub by_plan : Option Plan → Lists → Lists
by_plan None T = T
by_plan (Some q) T = closed_in q T

abbrev pub layered : Option Plan → Lists → Lists
layered o T = by_plan (at_work o T) T
