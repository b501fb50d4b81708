-- What the worked example shows, and a small table beside it.
--   Worked   its least marks, its closed table, an open run and the closed run that matches; 32767 + 1; and −4 as a duration
use Rattle.std.specs.Prelude.{◌≡◌, true, [], ◌∷◌, length, pos, negsuc, Some, None, slice_index_or}
use Rattle.std.specs.List.{sum_by}
use Rattle.evaluation.specs.Values.{value_of}
use Rattle.marks.specs.Instances.{of_process}
use Rattle.marks.specs.Rules.{Least}
use Rattle.marks.specs.Words.{total}
use Rattle.rules.specs.Closing.{test_refused, closed_count}
use Rattle.rules.specs.Gate.{gate_marks, gate_closed, open_trace, closed_trace, closed_points}
use Rattle.rules.specs.Matching.{Matches, taken, run_of, points_of}
use Rattle.rules.specs.Minus.{minus_table, minus_start, minus_set}
use Rattle.rules.specs.States.{at, started, start_refused, waiting}
use Rattle.rules.specs.Steps.{step_refused, state_at, edge_at, edge_value, next}
use Rattle.rules.specs.declared.step.Step.TheVariants.{Move, Expire, Tick}
use Rattle.table.specs.Gate.{gate_table, edge, span, term}
use Rattle.table.specs.declared.record.Timer.TheVariants.{Off, On}

pub record Worked : Type 0 where
  -- the marks are the least: 7 of 13 instances
  pub least : Least gate_table gate_marks
  pub marked : total gate_marks ≡ 7
  pub instances : sum_by of_process gate_table.processes ≡ 13
  -- the table closes to 10 edges, these among them
  pub passes : test_refused gate_table gate_marks ≡ None
  pub count : closed_count gate_table gate_marks ≡ 10
  pub edges : length gate_closed.edges ≡ 10
  pub fifth : edge_at gate_closed 5 ≡ edge 1 1 0 3 0 0 0 (span 0 0) (span 0 0)
  pub seventh : edge_at gate_closed 7 ≡ edge 0 0 0 6 1 1 0 (span 0 0) (span 0 0)
  pub eighth : edge_at gate_closed 8 ≡ edge 1 0 0 5 0 0 0 (span 0 0) (span 0 0)
  pub ninth : edge_at gate_closed 9 ≡ edge 1 0 0 6 0 1 0 (span 0 0) (span 0 0)
  -- an open run, and the closed run that matches it; at the closed start a timer holds the tick up
  pub opens : start_refused gate_table 128 ≡ None
  pub runs : taken gate_table (started gate_table 128) open_trace ≡ 7
  pub matches : Matches gate_table gate_marks gate_closed 128 open_trace closed_trace closed_points
  pub run : run_of gate_table gate_marks 128 open_trace ≡ closed_trace
  pub points : points_of gate_table gate_marks 128 open_trace ≡ closed_points
  pub closed_runs : taken gate_closed (started gate_closed 128) closed_trace ≡ 8
  pub held : step_refused gate_closed (started gate_closed 128) Tick ≡ Some (state_at 20 0)
  -- 32767 + 1 is −32768
  pub sum : value_of [] (term 0 (pos 32767) ∷ term 0 (pos 1) ∷ term 2 (pos 0) ∷ []) (span 0 3) ≡ Some (negsuc 32767)
  -- a timer set to −4 is at on(0), and alone holds the tick up until it has expired
  pub starts : start_refused minus_table 16 ≡ None
  pub sets : step_refused minus_table minus_start (Move 0) ≡ None
  pub duration : edge_value minus_table minus_start (edge_at minus_table 0) ≡ negsuc 3
  pub negative : slice_index_or (at minus_set 0).timers 0 Off ≡ On 0
  pub waits : waiting minus_table 0 (at minus_set 0).location ≡ true
  pub unqueued : (at minus_set 0).queue ≡ []
  pub held_up : step_refused minus_table minus_set Tick ≡ Some (state_at 20 0)
  pub let_go : step_refused minus_table (next minus_table minus_set (Expire 0 0)) Tick ≡ None
