-- What is wrong with an expression.
--   values_after n ts d   how many values there are after the terms ts where d were before, in a process of n variables; None where
--                         a term is unfit or lacks operands
--   before n ts s i       how many there are before term i of the span s
--   Stops n t i d w       the flaw w is that of the term t with the number i, where d values are before it
--   StopsAt n ts s i w    term i of the list ts lies in the span s, all before it is well formed, and w is the flaw of term i
--   Misses n ts s w       the flaw w is one of the span s, in a process of n variables
use Rattle.std.specs.Prelude.{◌≡◌, ◌≢◌, ℕ, false, ◌+◌, ◌-◌, ◌<◌, ◌≤◌, List, [], ◌∷◌, length, take, drop, Some, Option, ◌⊎◌, IsSomeAnd}
use Rattle.std.specs.List.{slice_get}
use Rattle.std.specs.Option.{option_and_then}
use Rattle.reasons.specs.declared.flaw.Wrong.{Wrong}
use Rattle.reasons.specs.declared.flaw.Wrong.TheVariants.{Count, Beyond, Unknown, NoVariable, Argument, Lacking, Left}
use Rattle.table.specs.Expressions.{depth_after, fitting, operands}
use Rattle.table.specs.Records.{operation_of}
use Rattle.table.specs.declared.record.Operation.{Operation}
use Rattle.table.specs.declared.record.Span.{Span}
use Rattle.table.specs.declared.record.Term.{Term}

unfoldable pub values_after : ℕ → List Term → ℕ → Option ℕ
values_after n [] d = Some d
values_after n (t ∷ ts) d = option_and_then (values_after n ts) (depth_after n t d)

abbrev pub before : ℕ → List Term → Span → ℕ → Option ℕ
before n ts s i = values_after n (take (i - s.start) (drop s.start ts)) 0

abbrev pub Stops : ℕ → Term → ℕ → ℕ → Wrong → Type 0
Stops n t i d (Count c) = ⊥
Stops n t i d Beyond = ⊥
Stops n t i d (Unknown k o) = (k ≡ i) × ((t.operation ≡ o) × (operation_of o ≡ Operation.Unknown))
Stops n t i d (NoVariable k v) =
    (k ≡ i) × ((operation_of t.operation ≡ Operation.Variable) × ((t.argument ≡ v) × (fitting n t ≡ false)))
Stops n t i d (Argument k a) =
    (k ≡ i) × ((0 < operands (operation_of t.operation)) × ((t.argument ≡ a) × (fitting n t ≡ false)))
Stops n t i d (Lacking k) = (k ≡ i) × (d < operands (operation_of t.operation))
Stops n t i d (Left k) = ⊥

-- there is a term i in the span, and before it so many values that it stops there with w
abbrev pub StopsAt : ℕ → List Term → Span → ℕ → Wrong → Type 0
StopsAt n ts s i w =
    (s.start ≤ i) × ((i < s.start + s.count) × IsSomeAnd (slice_get ts i) (λ t. IsSomeAnd (before n ts s i) (λ d. Stops n t i d w)))

abbrev pub Misses : ℕ → List Term → Span → Wrong → Type 0
Misses n ts s (Count c) = (c ≡ s.count) × ((c ≡ 0) ⊎ (16 < c))
Misses n ts s Beyond = length ts < s.start + s.count
Misses n ts s (Unknown i o) = StopsAt n ts s i (Unknown i o)
Misses n ts s (NoVariable i v) = StopsAt n ts s i (NoVariable i v)
Misses n ts s (Argument i a) = StopsAt n ts s i (Argument i a)
Misses n ts s (Lacking i) = StopsAt n ts s i (Lacking i)
Misses n ts s (Left d) = (d ≢ 1) × (before n ts s (s.start + s.count) ≡ Some d)
