-- The check of an edge, against the four lists of its table.
--   blank            a process that is not there: it has no location
--   absent           a signal that is not there
--   proc_at T e      the edge's process
--   missing T e      a process, location, variable, timer or signal of e is not there
--   unfit T e        the signal of an input or output is of the wrong class, or goes to another process
--   malformed e      kind, mode or rearm number unknown, a guard where none is allowed, or an unused field that is not zero
--   untrue T e       the guard or the value is no expression
--   edge_tests T e   the four tests with their numbers, in the order in which they are read
--   edge_fault T e   the number under which e is refused, if it is
use Rattle.std.specs.Prelude.{ℕ, Bool, true, false, not, ◌&&◌, ◌||◌, List, [], ◌∷◌, length, Option, ◌==◌, nat_le, nat_lt, slice_index_or}
use Rattle.table.specs.Expressions.{sound}
use Rattle.table.specs.Lists.{Lists, Proc}
use Rattle.table.specs.Records.{kind_of, class_of, mode_of}
use Rattle.refusal.specs.Refusals.{first}
use Rattle.table.specs.declared.record.Class.{Class}
use Rattle.table.specs.declared.record.Class.TheVariants.{Internal, Inbound, Outbound, Absent}
use Rattle.table.specs.declared.record.Edge.{Edge}
use Rattle.table.specs.declared.record.Kind.{Kind}
use Rattle.table.specs.declared.record.Kind.TheVariants.{Input, Output, Assignment, Set, Reset, Timeout, Rearm, Skip, Unknown}
use Rattle.table.specs.declared.record.Mode.{Mode}
use Rattle.table.specs.declared.record.Signal.{Signal}
use Rattle.table.specs.declared.record.Span.{Span}
use Rattle.table.specs.declared.record.Term.{Term}

abbrev pub blank : Proc
blank = record { locations = 0; first = 0; variables = 0; timers = 0; values = []; settings = [] }

abbrev pub absent : Signal
absent = record { class = 3; destination = 0 }

abbrev pub proc_at : Lists → Edge → Proc
proc_at T e = slice_index_or T.processes e.process blank

-- what the first and the second field of an edge name is not there
abbrev first_missing : ℕ → Proc → Kind → ℕ → Bool
first_missing signals p Input n = nat_le signals n
first_missing signals p Output n = nat_le signals n
first_missing signals p Assignment n = nat_le p.variables n
first_missing signals p Set n = nat_le p.timers n
first_missing signals p Reset n = nat_le p.timers n
first_missing signals p Timeout n = nat_le p.timers n
first_missing signals p Rearm n = nat_le p.timers n
first_missing signals p Skip n = false
first_missing signals p Unknown n = false

abbrev second_missing : Proc → Kind → ℕ → Bool
second_missing p Input n = not (n == 15) && nat_le p.variables n
second_missing p Output n = false
second_missing p Assignment n = false
second_missing p Set n = false
second_missing p Reset n = false
second_missing p Timeout n = false
second_missing p Rearm n = false
second_missing p Skip n = false
second_missing p Unknown n = false

abbrev pub missing_in : ℕ → Proc → Edge → Bool
missing_in signals p e =
    nat_le p.locations e.from || (nat_le p.locations e.to || (first_missing signals p (kind_of e.kind) e.first || second_missing p (kind_of e.kind) e.second))

abbrev pub missing : Lists → Edge → Bool
missing T e = missing_in (length T.signals) (proc_at T e) e

abbrev takes : ℕ → Class → ℕ → Bool
takes p Internal d = d == p
takes p Inbound d = d == p
takes p Outbound d = false
takes p Absent d = false
takes p Class.Unknown d = false

abbrev gives : Class → Bool
gives Internal = true
gives Inbound = false
gives Outbound = true
gives Absent = false
gives Class.Unknown = false

abbrev pub unfit_for : Signal → ℕ → Kind → Bool
unfit_for s p Input = not (takes p (class_of s.class) s.destination)
unfit_for s p Output = not (gives (class_of s.class))
unfit_for s p Assignment = false
unfit_for s p Set = false
unfit_for s p Reset = false
unfit_for s p Timeout = false
unfit_for s p Rearm = false
unfit_for s p Skip = false
unfit_for s p Unknown = false

abbrev pub unfit : Lists → Edge → Bool
unfit T e = unfit_for (slice_index_or T.signals e.first absent) e.process (kind_of e.kind)

abbrev pub empty : Span → Bool
empty s = s.start == 0 && s.count == 0

-- which kinds may have a guard, and which a value
abbrev pub guardable : Kind → Bool
guardable Input = false
guardable Output = true
guardable Assignment = true
guardable Set = true
guardable Reset = true
guardable Timeout = false
guardable Rearm = false
guardable Skip = true
guardable Unknown = true

abbrev pub valued : Kind → Bool
valued Input = false
valued Output = true
valued Assignment = true
valued Set = true
valued Reset = false
valued Timeout = false
valued Rearm = false
valued Skip = false
valued Unknown = false

-- fields that a kind does not use, and the numbers of a rearm
abbrev pub numbers_bad : Kind → ℕ → ℕ → Bool
numbers_bad Input n m = false
numbers_bad Output n m = not (m == 0)
numbers_bad Assignment n m = not (m == 0)
numbers_bad Set n m = not (m == 0)
numbers_bad Reset n m = not (m == 0)
numbers_bad Timeout n m = not (m == 0)
numbers_bad Rearm n m = nat_lt 15 m
numbers_bad Skip n m = not (n == 0 && m == 0)
numbers_bad Unknown n m = true

abbrev pub guard_bad : Mode → Kind → Span → Bool
guard_bad Mode.Unguarded k s = not (empty s)
guard_bad Mode.Expression k s = not (guardable k)
guard_bad Mode.Else k s = not (guardable k && empty s)
guard_bad Mode.Unknown k s = true

-- a value where none belongs, or of no terms and yet with a start
abbrev pub value_bad : Kind → Span → Bool
value_bad k s = not (empty s || (valued k && nat_lt 0 s.count))

abbrev pub malformed : Edge → Bool
malformed e =
    numbers_bad (kind_of e.kind) e.first e.second || (guard_bad (mode_of e.mode) (kind_of e.kind) e.guard || value_bad (kind_of e.kind) e.value)

abbrev pub untrue_in : ℕ → List Term → Edge → Bool
untrue_in n ts e = (e.mode == 1 && not (sound n ts e.guard)) || (nat_lt 0 e.value.count && not (sound n ts e.value))

abbrev pub untrue : Lists → Edge → Bool
untrue T e = untrue_in (proc_at T e).variables T.terms e

abbrev pub edge_tests : Lists → Edge → List (Bool × ℕ)
edge_tests T e = (missing T e, 7) ∷ (unfit T e, 8) ∷ (malformed e, 10) ∷ (untrue T e, 9) ∷ []

unfoldable pub edge_fault : Lists → Edge → Option ℕ
edge_fault T e = first (edge_tests T e)
