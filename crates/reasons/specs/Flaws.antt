-- What is wrong with an edge.
--   flaw_number f      the number that an edge with the flaw f is refused with
--   HasNo T e count n  the process of e is there, and has no n of what is counted
--   uses_signal k, uses_timer k   the first field of an edge of kind k is a signal, a timer
--   Stores k e v       v is the variable that an input stores into and an assignment sets
--   signal_at T s      signal s, absent where there is none
--   class_at T s       its class
--   Holds T e f        the edge e has the flaw f in the table T
--   side acting        an edge that acts, or where acting is false one that waits
use Rattle.std.specs.Prelude.{◌≡◌, ◌≢◌, ℕ, ◌<◌, ◌≤◌, Bool, true, false, length, IsTrue, ◌⊎◌, slice_index_or}
use Rattle.reasons.specs.Wrongs.{Misses}
use Rattle.reasons.specs.declared.flaw.Flaw.{Flaw}
use Rattle.reasons.specs.declared.flaw.Flaw.TheVariants.{NoProcess, NoLocation, NoSignal, NoVariable, NoTimer, NotTaken, Elsewhere, NotGiven, UnknownKind, HighRearm, UnusedFirst, UnusedSecond, UnknownMode, Guarded, UnusedGuard, UnusedValue, ValueStart, Guard, Value}
use Rattle.table.specs.Edges.{absent, empty, guardable, proc_at, valued}
use Rattle.table.specs.Examination.{acts, waits}
use Rattle.table.specs.Lists.{Lists, Proc}
use Rattle.table.specs.Records.{kind_of, class_of, mode_of}
use Rattle.table.specs.declared.record.Class.{Class}
use Rattle.table.specs.declared.record.Edge.{Edge}
use Rattle.table.specs.declared.record.Kind.{Kind}
use Rattle.table.specs.declared.record.Kind.TheVariants.{Input, Output, Assignment, Set, Reset, Timeout, Rearm, Skip, Unknown}
use Rattle.table.specs.declared.record.Mode.{Mode}
use Rattle.table.specs.declared.record.Signal.{Signal}

abbrev pub flaw_number : Flaw → ℕ
flaw_number (NoProcess p) = 7
flaw_number (NoLocation l) = 7
flaw_number (NoSignal s) = 7
flaw_number (NoVariable v) = 7
flaw_number (NoTimer t) = 7
flaw_number (NotTaken s) = 8
flaw_number (Elsewhere s p) = 8
flaw_number (NotGiven s) = 8
flaw_number (UnknownKind k) = 10
flaw_number (HighRearm n) = 10
flaw_number (UnusedFirst n) = 10
flaw_number (UnusedSecond n) = 10
flaw_number (UnknownMode m) = 10
flaw_number (Guarded m) = 10
flaw_number UnusedGuard = 10
flaw_number UnusedValue = 10
flaw_number (ValueStart n) = 10
flaw_number (Guard w) = 9
flaw_number (Value w) = 9

abbrev pub HasNo : Lists → Edge → (Proc → ℕ) → ℕ → Type 0
HasNo T e count n = (e.process < length T.processes) × (count (proc_at T e) ≤ n)

abbrev pub uses_signal : Kind → Bool
uses_signal Input = true
uses_signal Output = true
uses_signal Assignment = false
uses_signal Set = false
uses_signal Reset = false
uses_signal Timeout = false
uses_signal Rearm = false
uses_signal Skip = false
uses_signal Unknown = false

abbrev pub uses_timer : Kind → Bool
uses_timer Input = false
uses_timer Output = false
uses_timer Assignment = false
uses_timer Set = true
uses_timer Reset = true
uses_timer Timeout = true
uses_timer Rearm = true
uses_timer Skip = false
uses_timer Unknown = false

abbrev pub Stores : Kind → Edge → ℕ → Type 0
Stores Input e v = (v ≡ e.second) × (v ≢ 15)
Stores Output e v = ⊥
Stores Assignment e v = v ≡ e.first
Stores Set e v = ⊥
Stores Reset e v = ⊥
Stores Timeout e v = ⊥
Stores Rearm e v = ⊥
Stores Skip e v = ⊥
Stores Unknown e v = ⊥

abbrev pub signal_at : Lists → ℕ → Signal
signal_at T s = slice_index_or T.signals s absent

abbrev pub class_at : Lists → ℕ → Class
class_at T s = class_of (signal_at T s).class

abbrev pub Holds : Lists → Edge → Flaw → Type 0
Holds T e (NoProcess p) = (p ≡ e.process) × (length T.processes ≤ p)
Holds T e (NoLocation l) = ((l ≡ e.from) ⊎ (l ≡ e.to)) × HasNo T e (λ r. r.locations) l
Holds T e (NoSignal s) = IsTrue (uses_signal (kind_of e.kind)) × ((s ≡ e.first) × (length T.signals ≤ s))
Holds T e (NoVariable v) = Stores (kind_of e.kind) e v × HasNo T e (λ r. r.variables) v
Holds T e (NoTimer t) = IsTrue (uses_timer (kind_of e.kind)) × ((t ≡ e.first) × HasNo T e (λ r. r.timers) t)
Holds T e (NotTaken s) =
    (kind_of e.kind ≡ Input) × ((s ≡ e.first) × ((class_at T s ≢ Class.Internal) × (class_at T s ≢ Class.Inbound)))
Holds T e (Elsewhere s p) =
    (kind_of e.kind ≡ Input) × ((s ≡ e.first) × (((signal_at T s).destination ≡ p) × (p ≢ e.process)))
Holds T e (NotGiven s) =
    (kind_of e.kind ≡ Output) × ((s ≡ e.first) × ((class_at T s ≢ Class.Internal) × (class_at T s ≢ Class.Outbound)))
Holds T e (UnknownKind k) = (k ≡ e.kind) × (kind_of k ≡ Unknown)
Holds T e (HighRearm n) = (kind_of e.kind ≡ Rearm) × ((n ≡ e.second) × (15 < n))
Holds T e (UnusedFirst n) = (kind_of e.kind ≡ Skip) × ((n ≡ e.first) × (0 < n))
Holds T e (UnusedSecond n) =
    ((kind_of e.kind ≢ Input) × ((kind_of e.kind ≢ Rearm) × (kind_of e.kind ≢ Unknown))) × ((n ≡ e.second) × (0 < n))
Holds T e (UnknownMode m) = (m ≡ e.mode) × (mode_of m ≡ Mode.Unknown)
Holds T e (Guarded m) = (m ≡ e.mode) × ((mode_of m ≢ Mode.Unguarded) × (guardable (kind_of e.kind) ≡ false))
Holds T e UnusedGuard = (mode_of e.mode ≢ Mode.Expression) × (empty e.guard ≡ false)
Holds T e UnusedValue = (valued (kind_of e.kind) ≡ false) × (empty e.value ≡ false)
Holds T e (ValueStart n) = (n ≡ e.value.start) × ((0 < n) × (e.value.count ≡ 0))
Holds T e (Guard w) = (mode_of e.mode ≡ Mode.Expression) × Misses (proc_at T e).variables T.terms e.guard w
Holds T e (Value w) = (0 < e.value.count) × Misses (proc_at T e).variables T.terms e.value w

abbrev pub side : Bool → Edge → Bool
side true = acts
side false = waits
