-- States of a running table, and what its edges are like to one who runs it.
--   Running            a process as it runs: its location, variables, timers, and the messages of its queue, oldest first
--   World              the processes of a state, and how many places its queue memory has
--   idle, at W p       no process; process p of the world W
--   padded n d xs      the first n of xs, filled up with d
--   begun r            a process at its start: eight variables and eight timers, those that it does not have 0 and off
--   started T room     the world after a start
--   lacking room p     the memory has fewer than the 16 × (p + 1) places that reach to the end of queue p
--   places_refused T room   18 at the first process whose queue places are missing
--   start_refused T room   why a start is refused: the examination, then 18
--   is_inbound, is_internal, is_outbound   of a class
--   goal T s           the destination of signal s
--   due t              the timer t is at on(0)
--   waiting T p l      location l of process p is waiting: no acting edge leaves it
--   handles n e        the edge e is a timeout or a rearm of timer n
--   takes_signal s e   the edge e is an input of signal s
--   numbered f i xs    f of each of xs with its number, the first being number i
use Rattle.std.specs.Prelude.{ℕ, ◌+◌, ◌*◌, Bool, true, false, not, ◌&&◌, List, [], ◌∷◌, ◌++◌, map, length, get_or, take, replicate, ℤ, pos, Option, ◌==◌, nat_lt, slice_index_or}
use Rattle.std.specs.Option.{option_or, option_map}
use Rattle.refusal.specs.Refusals.{refusal}
use Rattle.refusal.specs.declared.fault.Layer.{Layer}
use Rattle.refusal.specs.declared.fault.Place.{Place}
use Rattle.refusal.specs.declared.fault.Refusal.{Refusal}
use Rattle.rules.specs.declared.step.Message.{Message}
use Rattle.table.specs.Edges.{absent}
use Rattle.table.specs.Examination.{first_from, acts, some, examined}
use Rattle.table.specs.Lists.{Lists, Proc}
use Rattle.table.specs.Records.{kind_of}
use Rattle.table.specs.declared.record.Class.{Class}
use Rattle.table.specs.declared.record.Class.TheVariants.{Internal, Inbound, Outbound, Absent}
use Rattle.table.specs.declared.record.Edge.{Edge}
use Rattle.table.specs.declared.record.Kind.{Kind}
use Rattle.table.specs.declared.record.Kind.TheVariants.{Input, Output, Assignment, Set, Reset, Timeout, Rearm, Skip, Unknown}
use Rattle.table.specs.declared.record.Timer.{Timer}
use Rattle.table.specs.declared.record.Timer.TheVariants.{Off, On}

pub record Running : Type 0 where
  pub location : ℕ
  pub variables : List ℤ
  pub timers : List Timer
  pub queue : List Message

pub record World : Type 0 where
  pub processes : List Running
  pub room : ℕ

abbrev pub idle : Running
idle = record { location = 0; variables = []; timers = []; queue = [] }

abbrev pub at : World → ℕ → Running
at W p = slice_index_or W.processes p idle

unfoldable pub padded : {A : Type 0} → ℕ → A → List A → List A
padded n d xs = take n (xs ++ replicate n d)

abbrev pub begun : Proc → Running
begun r = record { location = r.first; variables = padded 8 (pos 0) r.values; timers = padded 8 Off r.settings; queue = [] }

abbrev pub started : Lists → ℕ → World
started T room = record { processes = map begun T.processes; room = room }

abbrev pub lacking : ℕ → ℕ → Bool
lacking room p = nat_lt room (16 * (p + 1))

abbrev pub places_refused : Lists → ℕ → Option Refusal
places_refused T room = option_map (λ p. refusal 18 Layer.State (Place.At p)) (first_from (lacking room) 0 (length T.processes))

unfoldable pub start_refused : Lists → ℕ → Option Refusal
start_refused T room = option_or (examined T) (places_refused T room)

abbrev pub is_inbound : Class → Bool
is_inbound Internal = false
is_inbound Inbound = true
is_inbound Outbound = false
is_inbound Absent = false
is_inbound Class.Unknown = false

abbrev pub is_internal : Class → Bool
is_internal Internal = true
is_internal Inbound = false
is_internal Outbound = false
is_internal Absent = false
is_internal Class.Unknown = false

abbrev pub is_outbound : Class → Bool
is_outbound Internal = false
is_outbound Inbound = false
is_outbound Outbound = true
is_outbound Absent = false
is_outbound Class.Unknown = false

abbrev pub goal : Lists → ℕ → ℕ
goal T s = (get_or T.signals s absent).destination

abbrev pub due : Timer → Bool
due Off = false
due (On n) = n == 0

abbrev pub waiting : Lists → ℕ → ℕ → Bool
waiting T p l = not (some T acts p l)

abbrev pub is_input : Kind → Bool
is_input Input = true
is_input Output = false
is_input Assignment = false
is_input Set = false
is_input Reset = false
is_input Timeout = false
is_input Rearm = false
is_input Skip = false
is_input Unknown = false

abbrev pub watches : Kind → Bool
watches Input = false
watches Output = false
watches Assignment = false
watches Set = false
watches Reset = false
watches Timeout = true
watches Rearm = true
watches Skip = false
watches Unknown = false

abbrev pub takes_signal : ℕ → Edge → Bool
takes_signal s e = is_input (kind_of e.kind) && e.first == s

abbrev pub handles : ℕ → Edge → Bool
handles n e = watches (kind_of e.kind) && e.first == n

unfoldable pub numbered : {A B : Type 0} → (ℕ → A → B) → ℕ → List A → List B
numbered f i [] = []
numbered f i (x ∷ xs) = f i x ∷ numbered f (i + 1) xs
