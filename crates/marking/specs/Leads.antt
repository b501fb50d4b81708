-- Where an edge leads marks. The names that end in As take the edge's kind, or the signal's class, as an argument of their own.
--   Bounded e             the process and the location that e goes to, and the timer that it sets, are so small that the sums below fit a byte
--   at_start e b          the variable or timer of bit b where the edge e begins
--   at_end e b            the same where it ends
--   received e            the variable that the input e stores, where e ends
--   touches e b           the edge e writes what has bit b: stores it, or does something to that timer
--   is_internal, is_inbound the class of a signal
--   fed T e               what a marked value of e marks: a variable, a timer or an internal signal
use Rattle.std.specs.Prelude.{◌≡◌, ℕ, ◌+◌, ◌*◌, ◌<◌, Bool, true, false, cond, not, ◌&&◌, Some, None, Option, ◌==◌}
use Rattle.table.specs.Lists.{Lists}
use Rattle.table.specs.Records.{kind_of}
use Rattle.table.specs.declared.record.Class.{Class}
use Rattle.table.specs.declared.record.Class.TheVariants.{Internal, Inbound, Outbound, Absent}
use Rattle.table.specs.declared.record.Edge.{Edge}
use Rattle.table.specs.declared.record.Kind.{Kind}
use Rattle.table.specs.declared.record.Kind.TheVariants.{Input, Output, Assignment, Set, Reset, Timeout, Rearm, Skip, Unknown}
use Rattle.marking.specs.declared.flow.Fed.{Fed}
use Rattle.marking.specs.declared.instance.Instance.{Instance}
use Rattle.marks.specs.Rules.{class_at}

pub record Bounded (e : Edge) : Type 0 where
  pub process : e.process < 8
  pub to : e.to < 16
  pub timer : kind_of e.kind ≡ Set → e.first < 8

abbrev pub at_start : Edge → ℕ → Instance
at_start e b = record { site = 16 * e.process + e.from; index = b }

abbrev pub at_end : Edge → ℕ → Instance
at_end e b = record { site = 16 * e.process + e.to; index = b }

abbrev pub received_as : Kind → Edge → Option Instance
received_as Input e = cond (e.second == 15) None (Some (at_end e e.second))
received_as _ e = None

unfoldable pub received : Edge → Option Instance
received e = received_as (kind_of e.kind) e

abbrev pub touches_as : Kind → Edge → ℕ → Bool
touches_as Input e b = not (e.second == 15) && e.second == b
touches_as Output e b = false
touches_as Assignment e b = e.first == b
touches_as Set e b = 8 + e.first == b
touches_as Reset e b = 8 + e.first == b
touches_as Timeout e b = 8 + e.first == b
touches_as Rearm e b = 8 + e.first == b
touches_as Skip e b = false
touches_as Unknown e b = false

unfoldable pub touches : Edge → ℕ → Bool
touches e b = touches_as (kind_of e.kind) e b

abbrev pub is_internal : Class → Bool
is_internal Internal = true
is_internal Inbound = false
is_internal Outbound = false
is_internal Absent = false
is_internal Class.Unknown = false

abbrev pub is_inbound : Class → Bool
is_inbound Internal = false
is_inbound Inbound = true
is_inbound Outbound = false
is_inbound Absent = false
is_inbound Class.Unknown = false

abbrev pub fed_as : Class → Kind → Edge → Fed
fed_as c Output e = cond (is_internal c) (Fed.Signal e.first) Fed.Nothing
fed_as c Assignment e = Fed.Instance (at_end e e.first)
fed_as c Set e = Fed.Instance (at_end e (8 + e.first))
fed_as c _ e = Fed.Nothing

unfoldable pub fed : Lists → Edge → Fed
fed T e = fed_as (class_at T e.first) (kind_of e.kind) e
