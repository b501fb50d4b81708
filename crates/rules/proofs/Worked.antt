-- The worked example and the small table, computed.
use Rattle.std.proofs.Common.{◌≡◌, ℕ, List, None, refl, subst}
use Rattle.std.specs.Int.{int_wrap}
use Rattle.rules.proofs.Gate.{gate-least}
use Rattle.rules.proofs.Runs.{stands-in}
use Rattle.rules.specs.Gate.{gate_marks, gate_closed, open_trace, closed_trace, closed_points}
use Rattle.rules.specs.declared.step.Step.{Step}
use Rattle.rules.specs.Minus.{minus_table}
use Rattle.rules.specs.Worked.{Worked}
use Rattle.rules.specs.Closing.{closed, test_refused, closed_edge, freed, added, added_at, timer_loops, chaotic}
use Rattle.rules.specs.Matching.{Matches, run_of, points_of, taken, shadow_run, shadow_points, shadow, shadow_taken, rearms, number_of, position}
use Rattle.rules.specs.States.{start_refused, padded, numbered}
use Rattle.rules.specs.Steps.{allowed, value_in, enabled, expires, rests, state_refused, call_refused, step_refused, deliver, moved_along, move_effect, effect, next}
use Rattle.table.specs.Gate.{gate_table}
use Rattle.table.specs.Edges.{edge_fault}
use Rattle.table.specs.Expressions.{formed, sound}
use Rattle.table.specs.Examination.{first_at, first_from, limits_refused, locations_refused, examined}
use Rattle.marks.specs.Rules.{indices, marked}
use Rattle.marks.specs.Words.{sum_below, total}
use Rattle.evaluation.specs.Values.{applied, evaluated, value_of}

gate-matches : test_refused gate_table gate_marks ≡ None → start_refused gate_table 128 ≡ None → run_of gate_table gate_marks 128 open_trace ≡ closed_trace → points_of gate_table gate_marks 128 open_trace ≡ closed_points → Matches gate_table gate_marks gate_closed 128 open_trace closed_trace closed_points
gate-matches passes opens run points =
    subst (λ (ns : List ℕ). Matches gate_table gate_marks gate_closed 128 open_trace closed_trace ns) points
    (subst (λ (cs : List Step). Matches gate_table gate_marks gate_closed 128 open_trace cs (points_of gate_table gate_marks 128 open_trace)) run
    ((stands-in gate_table gate_marks passes gate-least.obeys).matches 128 opens open_trace))

pub worked : Worked
unfolding gate_marks gate_table closed test_refused closed_edge freed added added_at timer_loops chaotic taken shadow_run shadow_points shadow shadow_taken rearms number_of position start_refused padded numbered allowed value_in enabled expires rests state_refused call_refused step_refused deliver moved_along move_effect effect next edge_fault formed sound first_at first_from limits_refused locations_refused examined indices marked sum_below total int_wrap minus_table applied evaluated value_of
worked = record {
  least = gate-least;
  marked = refl;
  instances = refl;
  passes = refl;
  count = refl;
  edges = refl;
  fifth = refl;
  seventh = refl;
  eighth = refl;
  ninth = refl;
  opens = refl;
  runs = refl;
  matches = gate-matches refl refl refl refl;
  run = refl;
  points = refl;
  closed_runs = refl;
  held = refl;
  sum = refl;
  starts = refl;
  sets = refl;
  duration = refl;
  negative = refl;
  waits = refl;
  unqueued = refl;
  held_up = refl;
  let_go = refl;
}
