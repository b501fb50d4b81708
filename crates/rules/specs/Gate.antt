-- The worked example: its marks, its closed table, and a run of each.
--   Instance         one of a process's variables, or of its timers, at a location: process, location and number
--   among is p l n   the instance n at location l of process p is one of is
--   gate_variables, gate_timers   x0 of rx at 0, 1 and 2 and of tx at 0 and 1; t0 of tx at 0 and 1
--   gate_marks       its marks: these and no other
--   gate_closed      the closed table
--   open_trace, closed_trace   a run of the open table, and the closed run that matches it
--   closed_points    how far the closed run has come at each call of the open one
use Rattle.std.specs.Prelude.{ℕ, Bool, ◌&&◌, List, [], ◌∷◌, ◌==◌, pos}
use Rattle.std.specs.List.{list_any}
use Rattle.marks.specs.Rules.{Marking}
use Rattle.rules.specs.Closing.{closed}
use Rattle.rules.specs.declared.step.Step.{Step}
use Rattle.rules.specs.declared.step.Step.TheVariants.{Offer, Move, Tick}
use Rattle.table.specs.Gate.{gate_table}
use Rattle.table.specs.Lists.{Lists}

abbrev pub Instance : Type 0
Instance = ℕ × ℕ × ℕ

abbrev pub is_at : ℕ → ℕ → ℕ → Instance → Bool
is_at p l n i = i.0 == p && (i.1 == l && i.2 == n)

abbrev pub among : List Instance → ℕ → ℕ → ℕ → Bool
among is p l n = list_any (is_at p l n) is

abbrev pub gate_variables : List Instance
gate_variables = (0, 0, 0) ∷ (0, 1, 0) ∷ (0, 2, 0) ∷ (1, 0, 0) ∷ (1, 1, 0) ∷ []

abbrev pub gate_timers : List Instance
gate_timers = (1, 0, 0) ∷ (1, 1, 0) ∷ []

unfoldable pub gate_marks : Marking
gate_marks = record { variable = among gate_variables; timer = among gate_timers }

abbrev pub gate_closed : Lists
gate_closed = closed gate_table gate_marks

abbrev pub open_trace : List Step
open_trace = Offer 0 (pos 5) ∷ Move 0 ∷ Move 1 ∷ Move 2 ∷ Move 4 ∷ Move 5 ∷ Tick ∷ []

abbrev pub closed_trace : List Step
closed_trace = Move 0 ∷ Move 1 ∷ Move 2 ∷ Move 4 ∷ Move 5 ∷ Move 7 ∷ Move 9 ∷ Tick ∷ []

abbrev pub closed_points : List ℕ
closed_points = 0 ∷ 1 ∷ 2 ∷ 3 ∷ 4 ∷ 5 ∷ 8 ∷ []
