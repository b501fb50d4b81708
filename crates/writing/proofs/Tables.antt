-- The records of a table that passes its checks fit their fields.
use Rattle.std.proofs.Common.{◌≡◌, ℕ, ◌+◌, ◌<◌, ◌≤◌, ◌⊎◌, inl, inr, false, length, get_or, Some, None, Option, refl, arith}
use Rattle.std.specs.Option.{option_map}
use Rattle.std.proofs.lemmas.Bool.{cases_lt}
use Rattle.std.proofs.lemmas.Bool.Decides.{nat_tests}
use Rattle.std.proofs.lemmas.List.{get_or_past}
use Rattle.std.proofs.lemmas.Option.{slice_get-get_or}
use Rattle.examination.proofs.Nearest.{first_passes, passes-parts}
use Rattle.examination.proofs.Placed.{few-processes, not-refused, sound-process}
use Rattle.reading.specs.Layout.{edge_format, header_format, counts_of}
use Rattle.reading.specs.Rows.{no_edge}
use Rattle.refusal.specs.Refusals.{refusal}
use Rattle.refusal.specs.declared.fault.Layer.{Layer}
use Rattle.refusal.specs.declared.fault.Place.{Place}
use Rattle.table.specs.Edges.{absent, blank, edge_fault}
use Rattle.table.specs.Examination.{too_many, limited, bad_process, bad_signal, edge_refused, edges_refused, limits_refused, lists_refused, processes_refused, signals_refused}
use Rattle.table.specs.Lists.{Lists, Proc}
use Rattle.writing.specs.Writes.{AreNarrow}
use Rattle.writing.proofs.Edges.{narrow-edge}
use Rattle.writing.proofs.Processes.{good_process}

mapped-none : {A B : Type 0} (f : A → B) (o : Option A) → option_map f o ≡ None → o ≡ None
mapped-none f None e = refl
mapped-none f (Some x) e = cc

record Few (p : Proc) : Type 0 where
  pub locations : p.locations ≤ 16
  pub variables : p.variables ≤ 8
  pub timers : p.timers ≤ 8

module _ (T : Lists) (limits : limits_refused T ≡ None) where
  parts : (lists_refused T ≡ None) × ((processes_refused T ≡ None) × (signals_refused T ≡ None))
  unfolding limits_refused
  parts = passes-parts (lists_refused T) (processes_refused T) (signals_refused T) limits

  counts : too_many T ≡ false
  counts = not-refused (too_many T) (refusal 3 Layer.Table (Place.At 0)) parts.0

  pub few-signals : length T.signals ≤ 64
  few-signals = let n = counts in grind (arith, nat_tests)

  pub few-edges : length T.edges ≤ 2048
  few-edges = let n = counts in grind (arith, nat_tests)

  pub few-terms : length T.terms ≤ 4096
  few-terms = let n = counts in grind (arith, nat_tests)

  pub process-good : (p : ℕ) → p < length T.processes → bad_process (get_or T.processes p blank) ≡ false
  process-good p h = sound-process T limits p (get_or T.processes p blank) (slice_get-get_or T.processes p blank h)

  pub narrow-signal : (s : ℕ) → s < length T.signals → ((get_or T.signals s absent).class < 8) × ((get_or T.signals s absent).destination < 8)
  narrow-signal s h =
      let x = get_or T.signals s absent in
      let n = few-processes T limits in
      let b = not-refused (bad_signal (length T.processes) x) (refusal 3 Layer.Table (Place.At (0 + s))) (first_passes (limited (bad_signal (length T.processes))) T.signals 0 parts.1.1 s x (slice_get-get_or T.signals s absent h)) in
      (grind (arith, nat_tests), grind (arith, nat_tests))

  few : (p : ℕ) → Few (get_or T.processes p blank)
  few p = go (cases_lt p (length T.processes))
    where
      go : (p < length T.processes) ⊎ (length T.processes ≤ p) → Few (get_or T.processes p blank)
      go (inl h) = let g = good_process (get_or T.processes p blank) (process-good p h) in record { locations = g.locations; variables = g.variables; timers = g.timers }
      go (inr h) = rw (get_or_past T.processes p blank h) (record { locations = omega arith; variables = omega arith; timers = omega arith })

  pub narrow-edge-at : edges_refused T ≡ None → (k : ℕ) → k < length T.edges → AreNarrow (edge_format.writes (get_or T.edges k no_edge))
  narrow-edge-at none k h =
      let e = get_or T.edges k no_edge in
      let fine = mapped-none (λ n. refusal n Layer.Edge (Place.At (0 + k))) (edge_fault T e) (first_passes (edge_refused T) T.edges 0 none k e (slice_get-get_or T.edges k no_edge h)) in
      let f = few e.process in
      narrow-edge T (few-processes T limits) few-signals few-terms e f.locations f.variables f.timers fine

  pub narrow-header : AreNarrow (header_format.writes (counts_of T))
  unfolding header_format
  narrow-header =
      let p = few-processes T limits in
      let s = few-signals in
      let e = few-edges in
      let t = few-terms in
      (omega arith, (omega arith, (omega arith, (omega arith, (omega arith, tt)))))

-- how many records a table has that passes its checks
pub ruleset few_records = (few-processes, few-signals, few-edges, few-terms)
