-- What opening a sheet answers, for every byte string.
--   process_bits p     how many bits a process takes
--   processes_bits ps  how many the processes ps take
--   edges_bit T        the bit at which the edge records begin
--   edge_refused_at T b k e   the refusal of edge k, if it is wrong, where the records begin at bit b
--   bad_edge T         the refusal of the first wrong edge, with the first bit of its record
--   names_byte T       the byte at which the names begin
--   placed a ts        the names ts with the bytes at which their characters begin, the first length byte being byte a
--   Opened             an opened sheet: its table, and the names of its processes and of its signals, each with its place
--   split T names      the names of the processes come first
--   names_in o         its names, those of its processes first
--   unless o x         x, but for a refusal o
--   judged a           what a reading of the whole sheet comes to once the edges have been looked at
--   opened bs          what the sheet bs holds, or its refusal: by the earliest bit, and if all bits are good by the lowest edge
use Rattle.std.specs.Prelude.{ℕ, ◌+◌, ◌*◌, ◌/◌, List, [], ◌∷◌, ◌++◌, map, length, take, drop, Some, None, Ok, Err, Option, Result}
use Rattle.std.specs.List.{sum_by}
use Rattle.std.specs.Option.{option_map}
use Rattle.reading.specs.Formats.{Answer, got, bad}
use Rattle.reading.specs.Layout.{Contents, sheet_format}
use Rattle.table.specs.Edges.{edge_fault}
use Rattle.table.specs.Examination.{first_at}
use Rattle.table.specs.Lists.{Lists, Proc}
use Rattle.table.specs.declared.record.Edge.{Edge}
use Rattle.refusal.specs.declared.fault.Layer.{Layer}
use Rattle.refusal.specs.declared.fault.Place.{Place}
use Rattle.refusal.specs.declared.fault.Refusal.{Refusal}

abbrev pub process_bits : Proc → ℕ
process_bits p = 16 + 16 * p.variables + 16 * p.timers

abbrev pub processes_bits : List Proc → ℕ
processes_bits ps = sum_by process_bits ps

abbrev pub edges_bit : Lists → ℕ
edges_bit T = 44 + processes_bits T.processes + 6 * length T.signals

abbrev pub edge_refused_at : Lists → ℕ → ℕ → Edge → Option Refusal
edge_refused_at T start k e =
    option_map (λ n. record { number = n; layer = Layer.Edge; place = Place.At k; sheet = Some (start + 60 * k) }) (edge_fault T e)

abbrev pub bad_edge : Lists → Option Refusal
bad_edge T = first_at (edge_refused_at T (edges_bit T)) 0 T.edges

abbrev pub names_byte : Lists → ℕ
names_byte T = (edges_bit T + 60 * length T.edges + 20 * length T.terms + 7) / 8

unfoldable pub placed : ℕ → List (List ℕ) → List (ℕ × List ℕ)
placed a [] = []
placed a (t ∷ ts) = (a + 1, t) ∷ placed (a + 1 + length t) ts

pub record Opened : Type 0 where
  pub lists : Lists
  pub process_names : List (ℕ × List ℕ)
  pub signal_names : List (ℕ × List ℕ)

abbrev pub split : Lists → List (ℕ × List ℕ) → Opened
split T names = record {
  lists = T;
  process_names = take (length T.processes) names;
  signal_names = drop (length T.processes) names;
}

abbrev pub names_in : Opened → List (List ℕ)
names_in o = map (λ n. n.1) (o.process_names ++ o.signal_names)

abbrev pub unless : {A : Type 0} → Option Refusal → A → Result A Refusal
unless None x = Ok x
unless (Some r) x = Err r

abbrev pub judged : Answer Contents → Result Opened Refusal
judged (got c e) = unless (bad_edge c.lists) (split c.lists (placed (names_byte c.lists) c.names))
judged (bad r) = Err r

unfoldable pub opened : List ℕ → Result Opened Refusal
opened bs = judged (sheet_format.reads bs 0)
