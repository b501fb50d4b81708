-- A small table, on which each rule and its exception shows.
--   small      one process, whose variable 0 takes an inbound value from location 0 to 1, is copied into variable 1 on the way to 2,
--              sets timer 0 there too, is sent on as internal signal 1 to 3, and is overwritten by a number on the way back;
--              variable 2 takes signal 1
--   span s n   the terms from s on, n of them
--   edge ..    an edge of process 0: from, to, kind, first, second, value
--   Told M     marks M of the small table are just where they must be: variable 0 at 1, variable 1 at 2, timer 0 at 2, variable 2
--              at 1, and variable 0 not at 0
--   Shown      the small table passes its examination, and all its least marks are so
use Rattle.std.specs.Prelude.{◌≡◌, ℕ, true, false, [], ◌∷◌, pos, None}
use Rattle.table.specs.Examination.{examined}
use Rattle.table.specs.Lists.{Lists}
use Rattle.table.specs.declared.record.Edge.{Edge}
use Rattle.table.specs.declared.record.Span.{Span}
use Rattle.table.specs.declared.record.Timer.TheVariants.{Off}
use Rattle.marks.specs.Rules.{Marking, Least}

abbrev pub span : ℕ → ℕ → Span
span s n = record { start = s; count = n }

abbrev pub edge : ℕ → ℕ → ℕ → ℕ → ℕ → Span → Edge
edge from to kind first second value = record {
  process = 0;
  from = from;
  to = to;
  kind = kind;
  first = first;
  second = second;
  mode = 0;
  guard = span 0 0;
  value = value;
}

abbrev pub small : Lists
small = record {
  processes = record { locations = 4; first = 0; variables = 3; timers = 1; values = pos 0 ∷ pos 0 ∷ pos 0 ∷ []; settings = Off ∷ [] } ∷ [];
  signals = record { class = 1; destination = 0 } ∷ record { class = 0; destination = 0 } ∷ [];
  edges =
      edge 0 1 0 0 0 (span 0 0) ∷ edge 1 2 2 1 0 (span 0 1) ∷ edge 1 2 3 0 0 (span 0 1) ∷ edge 2 3 1 1 0 (span 1 1)
      ∷ edge 3 0 2 0 0 (span 2 1) ∷ edge 0 1 0 1 2 (span 0 0) ∷ [];
  terms = record { operation = 1; argument = pos 0 } ∷ record { operation = 1; argument = pos 1 } ∷ record { operation = 0; argument = pos 5 } ∷ [];
}

pub record Told (M : Marking) : Type 0 where
  pub received : M.variable 0 1 0 ≡ true
  pub assigned : M.variable 0 2 1 ≡ true
  pub timed : M.timer 0 2 0 ≡ true
  pub sent : M.variable 0 1 2 ≡ true
  pub overwritten : M.variable 0 0 0 ≡ false

pub record Shown : Type 0 where
  pub passes : examined small ≡ None
  pub told : (M : Marking) → Least small M → Told M
