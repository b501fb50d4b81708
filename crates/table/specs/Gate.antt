-- The worked example: a receiver rx gets requests from the surroundings and passes them to a transmitter tx.
--   span s n, edge .., term o z, signal c d    records by their fields
--   gate_table                                 its four lists
use Rattle.std.specs.Prelude.{ℕ, [], ◌∷◌, ℤ, pos}
use Rattle.table.specs.Lists.{Lists}
use Rattle.table.specs.declared.record.Edge.{Edge}
use Rattle.table.specs.declared.record.Signal.{Signal}
use Rattle.table.specs.declared.record.Span.{Span}
use Rattle.table.specs.declared.record.Term.{Term}
use Rattle.table.specs.declared.record.Timer.TheVariants.{Off}

abbrev pub span : ℕ → ℕ → Span
span s n = record { start = s; count = n }

abbrev pub edge : ℕ → ℕ → ℕ → ℕ → ℕ → ℕ → ℕ → Span → Span → Edge
edge p l m k a b g u v =
    record { process = p; from = l; to = m; kind = k; first = a; second = b; mode = g; guard = u; value = v }

abbrev pub term : ℕ → ℤ → Term
term o z = record { operation = o; argument = z }

abbrev pub signal : ℕ → ℕ → Signal
signal c d = record { class = c; destination = d }

unfoldable pub gate_table : Lists
gate_table = record {
  processes =
      record { locations = 3; first = 0; variables = 2; timers = 1; values = pos 0 ∷ pos 7 ∷ []; settings = Off ∷ [] } ∷
      record { locations = 2; first = 0; variables = 1; timers = 1; values = pos 0 ∷ []; settings = Off ∷ [] } ∷ [];
  signals = signal 1 0 ∷ signal 0 1 ∷ signal 2 0 ∷ [];
  edges =
      edge 0 0 1 0 0 0 0 (span 0 0) (span 0 0) ∷
      edge 0 1 2 1 1 0 0 (span 0 0) (span 0 1) ∷
      edge 0 2 0 3 0 0 0 (span 0 0) (span 1 1) ∷
      edge 0 0 0 5 0 0 0 (span 0 0) (span 0 0) ∷
      edge 1 0 1 0 1 0 0 (span 0 0) (span 0 0) ∷
      edge 1 1 0 3 0 0 1 (span 2 3) (span 0 1) ∷
      edge 1 1 0 1 2 0 2 (span 0 0) (span 0 1) ∷ [];
  terms = term 1 (pos 0) ∷ term 1 (pos 1) ∷ term 0 (pos 0) ∷ term 1 (pos 0) ∷ term 5 (pos 0) ∷ [];
}
