-- The edges that leave one location, or take one signal, one after another in a list of edges.
--   leaving p l e        the edge e leaves location l of process p
--   taking s e           the edge e is an input of signal s
--   ahead f xs           how many of xs stand before the first that passes f, or how many there are where none does
--   next_of f xs i       the number of the first of xs, from number i on, that passes f; where none does, the length of xs (or i, where
--                        i is beyond the end)
--   next_at es p l i     the number of the first edge of es, from number i on, that leaves the location, or the like
use Rattle.std.specs.Prelude.{ℕ, suc, ◌+◌, Bool, true, false, cond, ◌&&◌, List, [], ◌∷◌, drop, ◌==◌}
use Rattle.table.specs.Records.{kind_of}
use Rattle.table.specs.declared.record.Edge.{Edge}
use Rattle.table.specs.declared.record.Kind.{Kind}
use Rattle.table.specs.declared.record.Kind.TheVariants.{Input}

abbrev pub leaving : ℕ → ℕ → Edge → Bool
leaving p l e = e.process == p && e.from == l

abbrev pub is_input : Kind → Bool
is_input Input = true
is_input _ = false

abbrev pub taking : ℕ → Edge → Bool
taking s e = is_input (kind_of e.kind) && e.first == s

unfoldable pub ahead : {A : Type 0} → (A → Bool) → List A → ℕ
ahead f [] = 0
ahead f (x ∷ xs) = cond (f x) 0 (suc (ahead f xs))

unfoldable pub next_of : {A : Type 0} → (A → Bool) → List A → ℕ → ℕ
next_of f xs i = i + ahead f (drop i xs)

unfoldable pub next_at : List Edge → ℕ → ℕ → ℕ → ℕ
next_at es p l i = next_of (leaving p l) es i
