-- An edge that passes its check fits its fields.
use Rattle.std.proofs.Common.{◌≡◌, ℕ, ◌<◌, ◌≤◌, ◌⊎◌, inl, inr, Bool, true, false, not, ◌&&◌, ◌||◌, ltb, eqb, List, [], ◌∷◌, ◌++◌, length, None, refl, ap, arith}
use Rattle.std.proofs.lemmas.Bool.{cases_lt, or_parts}
use Rattle.std.proofs.lemmas.Bool.Decides.{nat_tests}
use Rattle.std.proofs.lemmas.List.{get_or_past}
use Rattle.reading.specs.Formats.{Field, bits, fill}
use Rattle.reading.specs.Layout.{edge_format, span_format}
use Rattle.refusal.specs.Refusals.{first}
use Rattle.table.specs.Edges.{blank, proc_at, missing, missing_in, numbers_bad, guard_bad, value_bad, malformed, untrue, unfit, empty, edge_fault}
use Rattle.table.specs.Expressions.{sound}
use Rattle.table.specs.Lists.{Lists, Proc}
use Rattle.table.specs.Records.{kind_of, mode_of}
use Rattle.table.specs.declared.record.Edge.{Edge}
use Rattle.table.specs.declared.record.Kind.{Kind}
use Rattle.table.specs.declared.record.Kind.TheVariants.{Input, Output, Assignment, Set, Reset, Timeout, Rearm, Skip, Unknown}
use Rattle.table.specs.declared.record.Mode.{Mode}
use Rattle.table.specs.declared.record.Span.{Span}
use Rattle.table.specs.declared.record.Term.{Term}
use Rattle.writing.specs.Writes.{AreNarrow}

passed : (a b c d : Bool) → first {R = ℕ} ((a, 7) ∷ (b, 8) ∷ (c, 10) ∷ (d, 9) ∷ []) ≡ None → (a ≡ false) × (c ≡ false) × (d ≡ false)
passed a b c d e = grind arith

module _ (signals : ℕ) (p : Proc) (e : Edge) (few : signals ≤ 64) (variables : p.variables ≤ 8) (timers : p.timers ≤ 8) (there : missing_in signals p e ≡ false) where
  narrow-numbers : (k : Kind) → kind_of e.kind ≡ k → numbers_bad k e.first e.second ≡ false → (e.first < 64) × (e.second < 16)
  narrow-numbers Input q h = let j = rw q at there in (grind (arith, nat_tests), grind (arith, nat_tests))
  narrow-numbers Output q h = let j = rw q at there in (grind (arith, nat_tests), grind (arith, nat_tests))
  narrow-numbers Assignment q h = let j = rw q at there in (grind (arith, nat_tests), grind (arith, nat_tests))
  narrow-numbers Set q h = let j = rw q at there in (grind (arith, nat_tests), grind (arith, nat_tests))
  narrow-numbers Reset q h = let j = rw q at there in (grind (arith, nat_tests), grind (arith, nat_tests))
  narrow-numbers Timeout q h = let j = rw q at there in (grind (arith, nat_tests), grind (arith, nat_tests))
  narrow-numbers Rearm q h = let j = rw q at there in (grind (arith, nat_tests), grind (arith, nat_tests))
  narrow-numbers Skip q h = (grind (arith, nat_tests), grind (arith, nat_tests))
  narrow-numbers Unknown q h = absurd (grind (arith, nat_tests))

narrow-kind : (n : ℕ) (a b : ℕ) → numbers_bad (kind_of n) a b ≡ false → n < 8
narrow-kind n a b h = grind (arith, nat_tests)

narrow-mode : (n : ℕ) (k : Kind) (s : Span) → guard_bad (mode_of n) k s ≡ false → n < 4
narrow-mode n k s h = grind (arith, nat_tests)

narrow-empty : (s : Span) → empty s ≡ true → AreNarrow (span_format.writes s)
unfolding span_format
narrow-empty s h = (grind (arith, nat_tests), (grind (arith, nat_tests), tt))

narrow-sound : (n : ℕ) (ts : List Term) (s : Span) → length ts ≤ 4096 → sound n ts s ≡ true → AreNarrow (span_format.writes s)
unfolding span_format sound
narrow-sound n ts s few h = (grind (arith, nat_tests), (grind (arith, nat_tests), tt))

narrow-append : (fs gs : List Field) → AreNarrow fs → AreNarrow gs → AreNarrow (fs ++ gs)
narrow-append [] gs h k = k
narrow-append (bits w v ∷ fs) gs h k = (h.0, narrow-append fs gs h.1 k)
narrow-append (fill ∷ fs) gs h k = narrow-append fs gs h k

narrow-guard : (n : ℕ) (ts : List Term) (m : ℕ) (k : Kind) (s : Span) → length ts ≤ 4096 → guard_bad (mode_of m) k s ≡ false → (eqb m 1 && not (sound n ts s)) ≡ false → AreNarrow (span_format.writes s)
narrow-guard n ts m k s few g u = go (mode_of m) refl g
  where
    go : (v : Mode) → mode_of m ≡ v → guard_bad v k s ≡ false → AreNarrow (span_format.writes s)
    go Mode.Unguarded q h = narrow-empty s (grind arith)
    go Mode.Expression q h = narrow-sound n ts s few (grind (arith, nat_tests))
    go Mode.Else q h = narrow-empty s (grind arith)
    go Mode.Unknown q h = absurd (grind arith)

narrow-value : (n : ℕ) (ts : List Term) (k : Kind) (s : Span) → length ts ≤ 4096 → value_bad k s ≡ false → (ltb 0 s.count && not (sound n ts s)) ≡ false → AreNarrow (span_format.writes s)
narrow-value n ts k s few v u = go (empty s) refl
  where
    go : (b : Bool) → empty s ≡ b → AreNarrow (span_format.writes s)
    go true e = narrow-empty s e
    go false e = narrow-sound n ts s few (grind arith)

module _ (T : Lists) (processes : length T.processes ≤ 8) (signals : length T.signals ≤ 64) (terms : length T.terms ≤ 4096) (e : Edge) (locations : (proc_at T e).locations ≤ 16) where
  present : e.from < (proc_at T e).locations → e.process < 8
  present h = go (cases_lt e.process (length T.processes))
    where
      go : (e.process < length T.processes) ⊎ (length T.processes ≤ e.process) → e.process < 8
      go (inl lt) = omega arith
      go (inr past) = absurd (omega (arith, ap (λ p. p.locations) (get_or_past T.processes e.process blank past)))

  pub narrow-edge : (proc_at T e).variables ≤ 8 → (proc_at T e).timers ≤ 8 → edge_fault T e ≡ None → AreNarrow (edge_format.writes e)
  unfolding edge_format edge_fault
  narrow-edge variables timers none =
      let p = proc_at T e in
      let h = passed (missing T e) (unfit T e) (malformed e) (untrue T e) none in
      let from : e.from < p.locations = let m = h.0 in grind (arith, nat_tests) in
      let to : e.to < p.locations = let m = h.0 in grind (arith, nat_tests) in
      let form = or_parts (numbers_bad (kind_of e.kind) e.first e.second) (guard_bad (mode_of e.mode) (kind_of e.kind) e.guard || value_bad (kind_of e.kind) e.value) h.1 in
      let spans = or_parts (guard_bad (mode_of e.mode) (kind_of e.kind) e.guard) (value_bad (kind_of e.kind) e.value) form.1 in
      let true = or_parts (eqb e.mode 1 && not (sound p.variables T.terms e.guard)) (ltb 0 e.value.count && not (sound p.variables T.terms e.value)) h.2 in
      let numbers = narrow-numbers (length T.signals) p e signals variables timers h.0 (kind_of e.kind) refl form.0 in
      let guard = narrow-guard p.variables T.terms e.mode (kind_of e.kind) e.guard terms spans.0 true.0 in
      let value = narrow-value p.variables T.terms (kind_of e.kind) e.value terms spans.1 true.1 in
      let process = present from in
      let kind = narrow-kind e.kind e.first e.second form.0 in
      let mode = narrow-mode e.mode (kind_of e.kind) e.guard spans.0 in
      (process, (omega arith, (omega arith, (kind, (numbers.0, (numbers.1, (mode, narrow-append (span_format.writes e.guard) _ guard (narrow-append (span_format.writes e.value) [] value tt))))))))
