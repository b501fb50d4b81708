-- The examination of a table: which refusal it comes to, told with what looked and where, the one that is looked for earliest.
--   answer_at f i o      what f answers of the element o with the number i, if it is there
--   first_at f i xs      the first answer that f gives in xs, whose first element has the number i
--   first_from h i n     the first of the n numbers from i on that h hits
--   too_many T           a list beyond its limit
--   bad_process p        a count beyond its limit, no location, or a first location or timer that cannot be
--   bad_signal n s       in a table of n processes: a class beyond the known ones, a missing destination, or an unused one not zero
--   leaves p l f e       the edge e leaves location l of process p and passes f
--   acts, waits, frees   an edge that makes its location acting; one that does not; one that is unguarded or else
--   some T f p l         some edge that passes f leaves location l of process p
--   mixed, stuck         the two tests of a location
--   first_location h ps  the first location that h hits, process by process
--   examined T           the first refusal of the limits, else of the edges, else of the locations
use Rattle.std.specs.Prelude.{ℕ, zero, suc, ◌+◌, Bool, true, false, cond, not, ◌&&◌, ◌||◌, List, [], ◌∷◌, length, Some, None, Option, ◌==◌, nat_le, nat_lt}
use Rattle.std.specs.Option.{option_or, option_map}
use Rattle.table.specs.Edges.{edge_fault}
use Rattle.std.specs.List.{list_any}
use Rattle.table.specs.Lists.{Lists, Proc}
use Rattle.table.specs.Records.{kind_of, class_of, mode_of}
use Rattle.refusal.specs.Refusals.{refusal}
use Rattle.table.specs.declared.record.Class.{Class}
use Rattle.table.specs.declared.record.Edge.{Edge}
use Rattle.table.specs.declared.record.Kind.{Kind}
use Rattle.table.specs.declared.record.Kind.TheVariants.{Input, Output, Assignment, Set, Reset, Timeout, Rearm, Skip, Unknown}
use Rattle.table.specs.declared.record.Mode.{Mode}
use Rattle.table.specs.declared.record.Signal.{Signal}
use Rattle.table.specs.declared.record.Timer.{Timer}
use Rattle.table.specs.declared.record.Timer.TheVariants.{Off, On}
use Rattle.refusal.specs.declared.fault.Layer.{Layer}
use Rattle.refusal.specs.declared.fault.Place.{Place}
use Rattle.refusal.specs.declared.fault.Refusal.{Refusal}

abbrev pub answer_at : {A R : Type 0} → (ℕ → A → Option R) → ℕ → Option A → Option R
answer_at f i None = None
answer_at f i (Some x) = f i x

unfoldable pub first_at : {A R : Type 0} → (ℕ → A → Option R) → ℕ → List A → Option R
first_at f i [] = None
first_at f i (x ∷ xs) = option_or (f i x) (first_at f (i + 1) xs)

abbrev pub too_long : Timer → Bool
too_long Off = false
too_long (On n) = nat_lt 32767 n

abbrev pub bad_process : Proc → Bool
bad_process p =
    not (nat_le 1 p.locations && nat_le p.locations 16) || (nat_lt 8 p.variables || (nat_lt 8 p.timers || (nat_le p.locations p.first || list_any too_long p.settings)))

abbrev destination_bad : ℕ → Class → ℕ → Bool
destination_bad n Class.Internal d = nat_le n d
destination_bad n Class.Inbound d = nat_le n d
destination_bad n Class.Outbound d = not (d == 0)
destination_bad n Class.Absent d = not (d == 0)
destination_bad n Class.Unknown d = true

abbrev pub bad_signal : ℕ → Signal → Bool
bad_signal n s = destination_bad n (class_of s.class) s.destination

abbrev pub too_many : Lists → Bool
too_many T =
    nat_lt 8 (length T.processes) || (nat_lt 64 (length T.signals) || (nat_lt 2048 (length T.edges) || nat_lt 4096 (length T.terms)))

abbrev pub limited : {A : Type 0} → (A → Bool) → ℕ → A → Option Refusal
limited bad i x = cond (bad x) (Some (refusal 3 Layer.Table (Place.At i))) None

abbrev pub edge_refused : Lists → ℕ → Edge → Option Refusal
edge_refused T k e = option_map (λ n. refusal n Layer.Edge (Place.At k)) (edge_fault T e)

abbrev pub leaves : ℕ → ℕ → (Edge → Bool) → Edge → Bool
leaves p l f e = (e.process == p && e.from == l) && f e

abbrev pub acting : Kind → Bool
acting Input = false
acting Output = true
acting Assignment = true
acting Set = true
acting Reset = true
acting Timeout = false
acting Rearm = false
acting Skip = true
acting Unknown = false

abbrev pub acts : Edge → Bool
acts e = acting (kind_of e.kind)

abbrev pub waits : Edge → Bool
waits e = not (acts e)

abbrev pub freely : Mode → Bool
freely Mode.Unguarded = true
freely Mode.Expression = false
freely Mode.Else = true
freely Mode.Unknown = false

-- an unguarded or else edge
abbrev pub frees : Edge → Bool
frees e = freely (mode_of e.mode)

abbrev pub some : Lists → (Edge → Bool) → ℕ → ℕ → Bool
some T f p l = list_any (leaves p l f) T.edges

abbrev pub mixed : Lists → ℕ → ℕ → Bool
mixed T p l = some T acts p l && some T waits p l

abbrev pub stuck : Lists → ℕ → ℕ → Bool
stuck T p l = some T acts p l && not (some T frees p l)

unfoldable pub first_from : (ℕ → Bool) → ℕ → ℕ → Option ℕ
first_from h i zero = None
first_from h i (suc n) = cond (h i) (Some i) (first_from h (i + 1) n)

abbrev pub location_in : (ℕ → ℕ → Bool) → ℕ → Proc → Option (ℕ × ℕ)
location_in h p r = option_map (λ l. (p, l)) (first_from (h p) 0 r.locations)

abbrev pub first_location : (ℕ → ℕ → Bool) → List Proc → Option (ℕ × ℕ)
first_location h ps = first_at (location_in h) 0 ps

abbrev pub location_refused : ℕ → (ℕ → ℕ → Bool) → List Proc → Option Refusal
location_refused number h ps = option_map (λ at. refusal number Layer.Table (Place.Pair at.0 at.1)) (first_location h ps)

-- refusal 3: the lists, then the processes, then the signals
abbrev pub lists_refused : Lists → Option Refusal
lists_refused T = cond (too_many T) (Some (refusal 3 Layer.Table (Place.At 0))) None

abbrev pub processes_refused : Lists → Option Refusal
processes_refused T = first_at (limited bad_process) 0 T.processes

abbrev pub signals_refused : Lists → Option Refusal
signals_refused T = first_at (limited (bad_signal (length T.processes))) 0 T.signals

abbrev pub edges_refused : Lists → Option Refusal
edges_refused T = first_at (edge_refused T) 0 T.edges

unfoldable pub limits_refused : Lists → Option Refusal
limits_refused T = option_or (lists_refused T) (option_or (processes_refused T) (signals_refused T))

unfoldable pub locations_refused : Lists → Option Refusal
locations_refused T = option_or (location_refused 11 (mixed T) T.processes) (location_refused 12 (stuck T) T.processes)

unfoldable pub examined : Lists → Option Refusal
examined T = option_or (limits_refused T) (option_or (edges_refused T) (locations_refused T))
