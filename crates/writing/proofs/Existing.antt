-- A table with names that may be written has a sheet.
--   IsFit fs      each of the fields fs has at most 16 bits, and they hold the number that it writes
--   Put fs s old  bytes to which the fields fs are written from bit s on
use Rattle.std.proofs.Common.{◌≡◌, ℕ, zero, suc, ◌+◌, ◌-◌, ◌*◌, ◌/◌, ◌%◌, ◌^◌, ◌<◌, ◌≤◌, false, List, [], ◌∷◌, ◌++◌, map, length, get_or, set, replicate, pos, sym, ap, ◌∙◌, subst, arith}
use Rattle.std.specs.List.{flat_map, list_any}
use Rattle.std.proofs.lemmas.Bool.{both_ways, false_from_ne_true}
use Rattle.std.proofs.lemmas.Bool.Decides.{nat_tests}
use Rattle.std.proofs.lemmas.Int.{ints}
use Rattle.std.proofs.lemmas.List.{length-replicate}
use Rattle.std.proofs.lemmas.List.Folds.{list_any_at}
use Rattle.std.proofs.lemmas.Nat.{mod_below, pow_pos}
use Rattle.reading.proofs.Sizes.{before_fill, ends-before_fill}
use Rattle.reading.proofs.Spelled.{ends-append}
use Rattle.reading.specs.Formats.{Field, bits, fill, signed}
use Rattle.reading.specs.Layout.{Contents, counts_of, header_format, process_format, timer_format, signal_format, edge_format, span_format, term_format, sheet_format}
use Rattle.reading.specs.Opening.{names_byte}
use Rattle.reading.specs.Readings.{window}
use Rattle.reading.specs.Rows.{no_edge, no_term}
use Rattle.reading.specs.Spelling.{AreBytes, FitsProcess, FitsTerm, IsSheet, IsWritable, area_of, ends}
use Rattle.reading.specs.declared.records.Counts.{Counts}
use Rattle.table.specs.Edges.{absent, blank}
use Rattle.table.specs.Examination.{bad_process, too_long}
use Rattle.table.specs.Lists.{Proc}
use Rattle.table.specs.declared.record.Edge.{Edge}
use Rattle.table.specs.declared.record.Signal.{Signal}
use Rattle.table.specs.declared.record.Term.{Term}
use Rattle.table.specs.declared.record.Timer.{Timer}
use Rattle.table.specs.declared.record.Timer.TheVariants.{Off, On}
use Rattle.writing.specs.Writes.{AreNarrow, Writes, patched}
use Rattle.writing.specs.Written.{needed}
use Rattle.writing.proofs.Copies.{ends-bytes}
use Rattle.writing.proofs.Joins.{writes_fill, writes_more, writes_none}
use Rattle.writing.proofs.Places.{after_put, stored, third, writes_put}
use Rattle.writing.proofs.Processes.{good_process}
use Rattle.writing.proofs.Rows.{signal-writes}
use Rattle.writing.proofs.Sheets.{sheet-fields}
use Rattle.writing.proofs.Tables.{narrow-edge-at, narrow-header, narrow-signal, process-good}
use Rattle.writing.proofs.Writable.{area-small}

-- fields that are put one behind the other

abbrev IsFit : List Field → Type 0
IsFit [] = Unit {0}
IsFit (bits w v ∷ fs) = ((w ≤ 16) × (v < 2 ^ w)) × IsFit fs
IsFit (fill ∷ fs) = IsFit fs

record Put (fs : List Field) (s : ℕ) (old : List ℕ) : Type 0 where
  pub bytes : List ℕ
  pub writes : Writes fs s (ends s fs) old bytes
  pub small : AreBytes bytes

small-set : (xs : List ℕ) (i v : ℕ) → v < 256 → AreBytes xs → AreBytes (set xs i v)
small-set [] i v s h j = h j
small-set (x ∷ xs) zero v s h zero = s
small-set (x ∷ xs) zero v s h (suc j) = h (suc j)
small-set (x ∷ xs) (suc i) v s h zero = h 0
small-set (x ∷ xs) (suc i) v s h (suc j) = small-set xs i v s (λ k. h (suc k)) j

small-zeros : (n : ℕ) → AreBytes (replicate n 0)
small-zeros zero i = omega arith
small-zeros (suc n) zero = omega arith
small-zeros (suc n) (suc i) = small-zeros n i

small-third : (n k : ℕ) → third n k < 256
small-third n k = mod_below (n / 2 ^ (8 * (2 - k))) 256 (omega arith)

small-stored : (xs : List ℕ) (f n : ℕ) → AreBytes xs → AreBytes (stored xs f n)
small-stored xs f n h =
    small-set (set (set xs f (third n 0)) (f + 1) (third n 1)) (f + 2) (third n 2) (small-third n 2)
    (small-set (set xs f (third n 0)) (f + 1) (third n 1) (small-third n 1) (small-set xs f (third n 0) (small-third n 0) h))

put-field : (w v s : ℕ) (old : List ℕ) → w ≤ 16 → v < 2 ^ w → AreBytes old → Put (bits w v ∷ []) s old
unfolding ends
put-field w v s old few narrow h =
    let r = 24 - s % 8 - w in
    record {
      bytes = after_put old s w v r;
      writes = writes_put old s w v r (λ k lt. h (s / 8 + k)) (omega arith) narrow few;
      small = small-stored old (s / 8) (patched (window old s) r w v) h;
    }

put-all : (fs : List Field) → IsFit fs → (s : ℕ) (old : List ℕ) → AreBytes old → Put fs s old
unfolding ends
put-all [] f s old h = record { bytes = old; writes = writes_none s old; small = h }
put-all (bits w v ∷ fs) f s old h =
    let one = put-field w v s old f.0.0 f.0.1 h in
    let rest = put-all fs f.1 (s + w) one.bytes one.small in
    record { bytes = rest.bytes; writes = writes_more one.writes rest.writes; small = rest.small }
put-all (fill ∷ fs) f s old h =
    let w = (8 - s % 8) % 8 in
    let one = put-field w 0 s old (omega arith) (pow_pos w) h in
    let rest = put-all fs f (s + w) one.bytes one.small in
    record { bytes = rest.bytes; writes = writes_more (writes_fill one.writes) rest.writes; small = rest.small }

-- the fields of a sheet

fit-append : (fs gs : List Field) → IsFit fs → IsFit gs → IsFit (fs ++ gs)
fit-append [] gs h k = k
fit-append (bits w v ∷ fs) gs h k = (h.0, fit-append fs gs h.1 k)
fit-append (fill ∷ fs) gs h k = fit-append fs gs h k

fit-row : {A : Type 0} (g : A → List Field) (d : A) (xs : List A) → ((k : ℕ) → k < length xs → IsFit (g (get_or xs k d))) → IsFit (flat_map g xs)
fit-row g d [] h = tt
fit-row g d (x ∷ xs) h = fit-append (g x) (flat_map g xs) (h 0 (omega arith)) (fit-row g d xs (λ k lt. h (suc k) (omega arith)))

fit-bytes : (xs : List ℕ) → AreBytes xs → IsFit (map (bits 8) xs)
fit-bytes [] h = tt
fit-bytes (x ∷ xs) h = ((omega arith, h 0), fit-bytes xs (λ i. h (suc i)))

fit-timer : (t : Timer) → too_long t ≡ false → IsFit (timer_format.writes t)
unfolding timer_format
fit-timer Off e = ((omega arith, omega arith), ((omega arith, omega arith), tt))
fit-timer (On n) e = ((omega arith, omega arith), ((omega arith, grind (arith, nat_tests)), tt))

none-long : (ts : List Timer) → list_any too_long ts ≡ false → (k : ℕ) → k < length ts → too_long (get_or ts k Off) ≡ false
none-long ts h k l = false_from_ne_true (too_long (get_or ts k Off)) (λ e. both_ways (list_any too_long ts) h (list_any_at too_long ts k Off l e))

fit-process : (p : Proc) → bad_process p ≡ false → FitsProcess p → IsFit (process_format.writes p)
unfolding process_format
fit-process p h f =
    let g = good_process p h in
    let vs = flat_map signed.writes p.values in
    let ts = flat_map timer_format.writes p.settings in (
      (omega arith, omega (arith, g.some, g.locations)),
      (
        (omega arith, omega (arith, g.variables)),
        (
          (omega arith, omega (arith, g.timers)),
          (
            (omega arith, omega (arith, g.first, g.locations)),
            fit-append vs (ts ++ []) (fit-row signed.writes (pos 0) p.values (λ k l. let z = f.words k (pos 0) l in ((omega arith, omega (arith, ints)), tt)))
                (fit-append ts [] (fit-row timer_format.writes Off p.settings (λ k l. fit-timer (get_or p.settings k Off) (none-long p.settings g.short k l))) tt),
          ),
        ),
      ),
    )

fit-header : (n : Counts) → AreNarrow (header_format.writes n) → IsFit (header_format.writes n)
unfolding header_format
fit-header n h = ((omega arith, h.0), ((omega arith, h.1.0), ((omega arith, h.1.1.0), ((omega arith, h.1.1.1.0), ((omega arith, h.1.1.1.1.0), tt)))))

fit-signal : (n : ℕ) (s : Signal) → (s.class < 8) × (s.destination < 8) → IsFit ((signal_format n).writes s)
fit-signal n s h = rw signal-writes ((omega arith, h.0), ((omega arith, h.1), tt))

fit-edge : (e : Edge) → AreNarrow (edge_format.writes e) → IsFit (edge_format.writes e)
unfolding edge_format span_format
fit-edge e (a, (b, (c, (d, (f, (g, (h, (i, (j, (k, (l, m))))))))))) =
    ((omega arith, a), ((omega arith, b), ((omega arith, c), ((omega arith, d), ((omega arith, f), ((omega arith, g), ((omega arith, h), ((omega arith, i), ((omega arith, j), ((omega arith, k), ((omega arith, l), tt)))))))))))

fit-term : (t : Term) → FitsTerm t → IsFit (term_format.writes t)
unfolding term_format
fit-term t f = let z = f.argument in ((omega arith, omega (arith, f.operation)), ((omega arith, omega (arith, ints)), tt))

module _ (c : Contents) (w : IsWritable c) where
  fit-sheet : IsFit (sheet_format.writes c)
  unfolding before_fill
  fit-sheet =
      let T = c.lists in
      let ps = flat_map process_format.writes T.processes in
      let ss = flat_map (signal_format (length T.processes)).writes T.signals in
      let es = flat_map edge_format.writes T.edges in
      let ts = flat_map term_format.writes T.terms in
      let terms = fit-row term_format.writes no_term T.terms (λ k l. fit-term (get_or T.terms k no_term) (w.records.terms k no_term l)) in
      let edges = fit-row edge_format.writes no_edge T.edges (λ k l. fit-edge (get_or T.edges k no_edge) (narrow-edge-at T w.limits w.edges k l)) in
      let signals = fit-row (signal_format (length T.processes)).writes absent T.signals (λ k l. fit-signal (length T.processes) (get_or T.signals k absent) (narrow-signal T w.limits k l)) in
      let processes = fit-row process_format.writes blank T.processes (λ k l. fit-process (get_or T.processes k blank) (process-good T w.limits k l) (w.records.processes k blank l)) in
      let header = fit-header (counts_of T) (narrow-header T w.limits) in
      subst IsFit (sym (sheet-fields T c.names))
      (fit-append (before_fill T) (fill ∷ map (bits 8) (area_of c.names))
      (fit-append (header_format.writes (counts_of T)) (ps ++ (ss ++ (es ++ ts))) header (fit-append ps (ss ++ (es ++ ts)) processes (fit-append ss (es ++ ts) signals (fit-append es ts edges terms))))
      (fit-bytes (area_of c.names) (area-small c.names w.names)))

  end : ends 0 (sheet_format.writes c) ≡ 8 * needed c.lists (area_of c.names)
  unfolding ends
  end =
      let front = before_fill c.lists in
      let back = map (bits 8) (area_of c.names) in
      let p = ends 0 front in
      let at : p + (8 - p % 8) % 8 ≡ 8 * names_byte c.lists = let z = ends-before_fill c.lists w.records.processes in omega arith in
      ap (ends 0) (sheet-fields c.lists c.names) ∙ ends-append 0 front (fill ∷ back) ∙ ap (λ n. ends n back) at ∙ ends-bytes (area_of c.names) (names_byte c.lists)

  pub sheet-of : (bs : List ℕ) × (IsSheet c bs × (length bs ≡ needed c.lists (area_of c.names)))
  sheet-of =
      let n = needed c.lists (area_of c.names) in
      let old : List ℕ = replicate n 0 in
      let l : length old ≡ n = length-replicate n 0 in
      let p = put-all (sheet_format.writes c) fit-sheet 0 old (small-zeros n) in (
        p.bytes,
        (record { writable = w; size = omega (arith, p.writes.size, end); fields = p.writes.fields (omega (arith, end)) }, omega (arith, p.writes.size)),
      )
