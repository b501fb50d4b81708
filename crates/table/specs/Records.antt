-- What the numbers in a record say. Every number has a meaning; those beyond the known ones are `Unknown`.
--   kind_of n   what an edge of kind n does
--   class_of n  where a signal of class n comes from and goes to
--   mode_of n   when an edge of guard mode n may be taken
--   operation_of n   what a term of operation n does
--   timer_of on n    the timer that is off, or on with n ticks to go, as its two numbers say
--   timer_number t, timer_ticks t   those two numbers: 0 where t is off, 1 where it is on; the ticks to go, 0 where it is off
use Rattle.std.specs.Prelude.{ℕ, cond, ◌==◌}
use Rattle.table.specs.declared.record.Kind.{Kind}
use Rattle.table.specs.declared.record.Class.{Class}
use Rattle.table.specs.declared.record.Mode.{Mode}
use Rattle.table.specs.declared.record.Operation.{Operation}
use Rattle.table.specs.declared.record.Timer.{Timer}
use Rattle.table.specs.declared.record.Timer.TheVariants.{Off, On}

abbrev pub kind_of : ℕ → Kind
kind_of n =
    cond (n == 0) Kind.Input (cond (n == 1) Kind.Output (cond (n == 2) Kind.Assignment (cond (n == 3) Kind.Set
    (cond (n == 4) Kind.Reset (cond (n == 5) Kind.Timeout (cond (n == 6) Kind.Rearm (cond (n == 7) Kind.Skip Kind.Unknown)))))))

abbrev pub class_of : ℕ → Class
class_of n =
    cond (n == 0) Class.Internal (cond (n == 1) Class.Inbound (cond (n == 2) Class.Outbound (cond (n == 3) Class.Absent Class.Unknown)))

abbrev pub mode_of : ℕ → Mode
mode_of n = cond (n == 0) Mode.Unguarded (cond (n == 1) Mode.Expression (cond (n == 2) Mode.Else Mode.Unknown))

abbrev pub operation_of : ℕ → Operation
operation_of n =
    cond (n == 0) Operation.Number (cond (n == 1) Operation.Variable (cond (n == 2) Operation.Sum (cond (n == 3) Operation.Difference
    (cond (n == 4) Operation.Equal (cond (n == 5) Operation.Less (cond (n == 6) Operation.Both (cond (n == 7) Operation.Not Operation.Unknown)))))))

abbrev pub timer_of : ℕ → ℕ → Timer
timer_of on n = cond (on == 0) Off (On n)

abbrev pub timer_number : Timer → ℕ
timer_number Off = 0
timer_number (On n) = 1

abbrev pub timer_ticks : Timer → ℕ
timer_ticks Off = 0
timer_ticks (On n) = n
