-- Plans for a table.
--   Planned T M q        the plan q is for the table T under the marks M
--   ninth_in q p         by the plan, the chaos timer of process p would be its ninth timer
--   timers_refused_in, count_refused_in   13 and 14 by the plan
--   room_refused q T     the first of them
--   test_refused_in q T  why the test refuses, by the plan
use Rattle.std.specs.Prelude.{◌≡◌, ℕ, ◌+◌, ◌<◌, min, Bool, cond, ◌&&◌, length, Some, None, Option, nat_le, nat_lt}
use Rattle.std.specs.Option.{option_or, option_map}
use Rattle.closing.specs.Layers.{marks_in, timers_in, loops_in}
use Rattle.closing.specs.declared.plan.Plan.{Plan}
use Rattle.loops.specs.Rows.{added_by}
use Rattle.marks.specs.Instances.{process_at}
use Rattle.marks.specs.Rules.{Marking}
use Rattle.refusal.specs.declared.fault.Refusal.{Refusal}
use Rattle.rules.specs.Closing.{test_at}
use Rattle.survey.specs.Surveys.{chaotic_at, Surveyed}
use Rattle.table.specs.Examination.{first_from, examined}
use Rattle.table.specs.Lists.{Lists}

pub record Planned (T : Lists) (M : Marking) (q : Plan) : Type 0 where
  pub marks : marks_in q ≡ M
  pub survey : Surveyed T M T.edges q.survey.spots q.survey.chaotic
  pub timers : (p : ℕ) → p < 8 → timers_in q p ≡ (process_at T p).timers
  pub loops : loops_in q ≡ added_by M q.survey.spots q.survey.chaotic T.processes (min (length T.processes) 8)

abbrev pub ninth_in : Plan → ℕ → Bool
ninth_in q p = chaotic_at q.survey.chaotic p && nat_le 8 (timers_in q p)

abbrev pub timers_refused_in : Plan → Lists → Option Refusal
timers_refused_in q T = option_map (test_at 13) (first_from (ninth_in q) 0 (length T.processes))

abbrev pub count_in : Plan → Lists → ℕ
count_in q T = length T.edges + length (loops_in q)

abbrev pub count_refused_in : Plan → Lists → Option Refusal
count_refused_in q T = cond (nat_lt 2048 (count_in q T)) (Some (test_at 14 (count_in q T))) None

unfoldable pub room_refused : Plan → Lists → Option Refusal
room_refused q T = option_or (timers_refused_in q T) (count_refused_in q T)

unfoldable pub test_refused_in : Plan → Lists → Option Refusal
test_refused_in q T = option_or (examined T) (room_refused q T)
