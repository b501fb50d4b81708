-- The layout of a sheet, field by field in the order of the bits. A field is given by its width, the least
-- and the most that it may hold, and the number of its refusal.
--   counts_of T         how many processes, signals, edges and terms, as the header says it
--   Contents            what a sheet holds: its table, and its names, those of the processes first
--   header_format, timer_format, head_format (of a process), process_format, signal_format n (in a sheet of n processes), span_format,
--   edge_format, term_format, name_format
--   destination m c     the destination of a signal of class c in a sheet of m processes
--   sheet_format        the whole sheet
use Rattle.std.specs.Prelude.{ℕ, ◌+◌, ◌-◌, cond, List, length, ◌==◌, nat_le}
use Rattle.reading.specs.Formats.{Format, field, plain, signed, then, done, many, filled, ended}
use Rattle.reading.specs.declared.records.Counts.{Counts}
use Rattle.reading.specs.declared.records.Head.{Head}
use Rattle.table.specs.Lists.{Lists, Proc}
use Rattle.table.specs.Records.{timer_of, timer_number, timer_ticks}
use Rattle.table.specs.declared.record.Edge.{Edge}
use Rattle.table.specs.declared.record.Signal.{Signal}
use Rattle.table.specs.declared.record.Span.{Span}
use Rattle.table.specs.declared.record.Term.{Term}
use Rattle.table.specs.declared.record.Timer.{Timer}

pub record Contents : Type 0 where
  pub lists : Lists
  pub names : List (List ℕ)

abbrev pub counts_of : Lists → Counts
counts_of T = record {
  processes = length T.processes;
  signals = length T.signals;
  edges = length T.edges;
  terms = length T.terms;
}

unfoldable pub header_format : Format Counts
header_format =
    then (field 8 1 1 2) (λ _. 1) (λ _.
    then (field 4 1 8 3) (λ c. c.processes) (λ processes.
    then (field 7 0 64 3) (λ c. c.signals) (λ signals.
    then (field 12 0 2048 3) (λ c. c.edges) (λ edges.
    then (field 13 0 4096 3) (λ c. c.terms) (λ terms.
    done (record { processes = processes; signals = signals; edges = edges; terms = terms }))))))

-- a timer that is off has the number 0
unfoldable pub timer_format : Format Timer
timer_format =
    then (plain 1) timer_number (λ on.
    then (cond (on == 0) (field 15 0 0 4) (plain 15)) timer_ticks (λ n.
    done (timer_of on n)))

-- the first four fields of a process
unfoldable pub head_format : Format Head
head_format =
    then (plain 4) (λ h. h.last) (λ last.
    then (field 4 0 8 3) (λ h. h.variables) (λ variables.
    then (field 4 0 8 3) (λ h. h.timers) (λ timers.
    then (field 4 0 last 3) (λ h. h.first) (λ first.
    done (record { last = last; variables = variables; timers = timers; first = first })))))

unfoldable pub process_format : Format Proc
process_format =
    then (plain 4) (λ p. p.locations - 1) (λ last.
    then (field 4 0 8 3) (λ p. p.variables) (λ variables.
    then (field 4 0 8 3) (λ p. p.timers) (λ timers.
    then (field 4 0 last 3) (λ p. p.first) (λ first.
    then (many variables signed) (λ p. p.values) (λ values.
    then (many timers timer_format) (λ p. p.settings) (λ settings.
    done (record { locations = last + 1; first = first; variables = variables; timers = timers; values = values; settings = settings })))))))

-- classes 0 and 1 name one of the processes, of which a sheet has at least one; the others have destination 0
abbrev pub destination : ℕ → ℕ → Format ℕ
destination processes class = cond (nat_le class 1) (field 3 0 (processes - 1) 3) (field 3 0 0 4)

unfoldable pub signal_format : ℕ → Format Signal
signal_format processes =
    then (field 3 0 3 3) (λ s. s.class) (λ class.
    then (destination processes class) (λ s. s.destination) (λ destination.
    done (record { class = class; destination = destination })))

unfoldable pub span_format : Format Span
span_format =
    then (plain 12) (λ s. s.start) (λ start.
    then (plain 5) (λ s. s.count) (λ count.
    done (record { start = start; count = count })))

unfoldable pub edge_format : Format Edge
edge_format =
    then (plain 3) (λ e. e.process) (λ process.
    then (plain 4) (λ e. e.from) (λ from.
    then (plain 4) (λ e. e.to) (λ to.
    then (plain 3) (λ e. e.kind) (λ kind.
    then (plain 6) (λ e. e.first) (λ first.
    then (plain 4) (λ e. e.second) (λ second.
    then (plain 2) (λ e. e.mode) (λ mode.
    then span_format (λ e. e.guard) (λ guard.
    then span_format (λ e. e.value) (λ value.
    done (record {
      process = process;
      from = from;
      to = to;
      kind = kind;
      first = first;
      second = second;
      mode = mode;
      guard = guard;
      value = value;
    }))))))))))

unfoldable pub term_format : Format Term
term_format =
    then (plain 4) (λ t. t.operation) (λ operation.
    then signed (λ t. t.argument) (λ argument.
    done (record { operation = operation; argument = argument })))

unfoldable pub name_format : Format (List ℕ)
name_format =
    then (field 8 1 15 6) length (λ n.
    many n (field 8 33 126 6))

unfoldable pub sheet_format : Format Contents
sheet_format =
    then header_format (λ s. counts_of s.lists) (λ counts.
    then (many counts.processes process_format) (λ s. s.lists.processes) (λ processes.
    then (many counts.signals (signal_format counts.processes)) (λ s. s.lists.signals) (λ signals.
    then (many counts.edges edge_format) (λ s. s.lists.edges) (λ edges.
    then (many counts.terms term_format) (λ s. s.lists.terms) (λ terms.
    then filled (λ _. 0) (λ _.
    then (many (counts.processes + counts.signals) name_format) (λ s. s.names) (λ names.
    then ended (λ _. 0) (λ _.
    done (record { lists = record { processes = processes; signals = signals; edges = edges; terms = terms }; names = names })))))))))
