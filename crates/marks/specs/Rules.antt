-- The rules of marking, for a table of lists T and marks M. The names that end in As take the kind or the class as an argument.
--   Marking              marks: of each variable and each timer, by process, location and index
--   indices              the numbers that a variable may have
--   is_output k          edges of kind k are outputs
--   class_at T s         the class of signal s, absent where there is none
--   marked T M e s       the expression s of edge e mentions a variable that is marked where e begins
--   signal_marked T M s  some output of signal s has a marked value
--   arrives T M s        an input of signal s brings a marked value: s is inbound, or internal and marked
--   stores e v           the edge e stores variable v: an input, unless it drops its value, or an assignment
--   turns e n            the edge e sets, resets, times out or rearms timer n
--   EdgeObeys T M e      M obeys the rules at edge e: what it receives, assigns or sets, and what it leaves as it is
--   Obeys T M            M obeys the rules at every edge
--   Within M N           M has no mark that N lacks
--   Least T M            M obeys the rules, and is within all marks that do
use Rattle.std.specs.Prelude.{◌≡◌, ℕ, Bool, true, false, not, ◌&&◌, List, Some, ◌==◌, ◌≢◌, slice_index_or}
use Rattle.std.specs.List.{slice_get, range_with_len, list_any}
use Rattle.table.specs.Edges.{absent}
use Rattle.table.specs.Expressions.{part, mentions}
use Rattle.table.specs.Lists.{Lists}
use Rattle.table.specs.Records.{kind_of, class_of}
use Rattle.table.specs.declared.record.Class.{Class}
use Rattle.table.specs.declared.record.Class.TheVariants.{Internal, Inbound, Outbound, Absent}
use Rattle.table.specs.declared.record.Edge.{Edge}
use Rattle.table.specs.declared.record.Kind.{Kind}
use Rattle.table.specs.declared.record.Kind.TheVariants.{Input, Output, Assignment, Set, Reset, Timeout, Rearm, Skip, Unknown}
use Rattle.table.specs.declared.record.Span.{Span}

pub record Marking : Type 0 where
  pub variable : ℕ → ℕ → ℕ → Bool
  pub timer : ℕ → ℕ → ℕ → Bool

unfoldable pub indices : List ℕ
indices = range_with_len 0 8

unfoldable pub marked : Lists → Marking → Edge → Span → Bool
marked T M e s = list_any (λ v. M.variable e.process e.from v && mentions (part T.terms s) v) indices

abbrev pub is_output : Kind → Bool
is_output Input = false
is_output Output = true
is_output Assignment = false
is_output Set = false
is_output Reset = false
is_output Timeout = false
is_output Rearm = false
is_output Skip = false
is_output Unknown = false

unfoldable pub signal_marked : Lists → Marking → ℕ → Bool
signal_marked T M s = list_any (λ e. is_output (kind_of e.kind) && (e.first == s && marked T M e e.value)) T.edges

abbrev pub class_at : Lists → ℕ → Class
class_at T s = class_of (slice_index_or T.signals s absent).class

abbrev pub arrives_as : Class → Bool → Bool
arrives_as Internal m = m
arrives_as Inbound m = true
arrives_as Outbound m = false
arrives_as Absent m = false
arrives_as Class.Unknown m = false

abbrev pub arrives : Lists → Marking → ℕ → Bool
arrives T M s = arrives_as (class_at T s) (signal_marked T M s)

-- the second field of an input that drops its value is 15
abbrev pub stores_as : Kind → Edge → ℕ → Bool
stores_as Input e v = not (e.second == 15) && e.second == v
stores_as Output e v = false
stores_as Assignment e v = e.first == v
stores_as Set e v = false
stores_as Reset e v = false
stores_as Timeout e v = false
stores_as Rearm e v = false
stores_as Skip e v = false
stores_as Unknown e v = false

abbrev pub stores : Edge → ℕ → Bool
stores e v = stores_as (kind_of e.kind) e v

abbrev pub turns_as : Kind → Edge → ℕ → Bool
turns_as Input e n = false
turns_as Output e n = false
turns_as Assignment e n = false
turns_as Set e n = e.first == n
turns_as Reset e n = e.first == n
turns_as Timeout e n = e.first == n
turns_as Rearm e n = e.first == n
turns_as Skip e n = false
turns_as Unknown e n = false

abbrev pub turns : Edge → ℕ → Bool
turns e n = turns_as (kind_of e.kind) e n

pub record EdgeObeys (T : Lists) (M : Marking) (e : Edge) : Type 0 where
  pub received : kind_of e.kind ≡ Input → arrives T M e.first ≡ true → (e.second ≢ 15) → M.variable e.process e.to e.second ≡ true
  pub assigned : kind_of e.kind ≡ Assignment → marked T M e e.value ≡ true → M.variable e.process e.to e.first ≡ true
  pub timed : kind_of e.kind ≡ Set → marked T M e e.value ≡ true → M.timer e.process e.to e.first ≡ true
  pub variables : (v : ℕ) → stores e v ≡ false → M.variable e.process e.from v ≡ true → M.variable e.process e.to v ≡ true
  pub timers : (n : ℕ) → turns e n ≡ false → M.timer e.process e.from n ≡ true → M.timer e.process e.to n ≡ true

abbrev pub Obeys : Lists → Marking → Type 0
Obeys T M = (k : ℕ) (e : Edge) → slice_get T.edges k ≡ Some e → EdgeObeys T M e

pub record Within (M N : Marking) : Type 0 where
  pub variables : (p l v : ℕ) → M.variable p l v ≡ true → N.variable p l v ≡ true
  pub timers : (p l n : ℕ) → M.timer p l n ≡ true → N.timer p l n ≡ true

pub record Least (T : Lists) (M : Marking) : Type 0 where
  pub obeys : Obeys T M
  pub least : (N : Marking) → Obeys T N → Within M N
