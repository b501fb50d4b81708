-- Instances: a variable or a timer at a location of its process.
--   of_process p   how many instances the process p has
--   process_at T p   process p, blank where there is none
--   own T          the marks of every instance of the table T, and of nothing else
use Rattle.std.specs.Prelude.{ℕ, ◌+◌, ◌*◌, ◌&&◌, nat_lt, slice_index_or}
use Rattle.table.specs.Edges.{blank}
use Rattle.table.specs.Lists.{Lists, Proc}
use Rattle.marks.specs.Rules.{Marking}

abbrev pub of_process : Proc → ℕ
of_process p = p.locations * (p.variables + p.timers)

abbrev pub process_at : Lists → ℕ → Proc
process_at T p = slice_index_or T.processes p blank

abbrev pub own : Lists → Marking
own T = record {
  variable = λ p l v. nat_lt l (process_at T p).locations && nat_lt v (process_at T p).variables;
  timer = λ p l n. nat_lt l (process_at T p).locations && nat_lt n (process_at T p).timers;
}
