-- The parts of a sheet, joined.
use Rattle.std.proofs.Common.{◌≡◌, ℕ, ◌+◌, ◌-◌, ◌*◌, ◌/◌, ◌%◌, ◌≤◌, min, List, length, take, drop, None, Ok, Result, sym, refl, ap, ◌∙◌, subst, arith, length-take}
use Rattle.std.proofs.lemmas.List.{length-map}
use Rattle.reading.proofs.Chains.{after-got, read}
use Rattle.reading.specs.Formats.{Answer, got, many, filled, ended}
use Rattle.reading.specs.Layout.{header_format, process_format, signal_format, edge_format, term_format, name_format, sheet_format}
use Rattle.reading.proofs.Inverse.{read-limits}
use Rattle.reading.proofs.Viewing.{length-row}
use Rattle.reading.specs.Opening.{Opened, processes_bits, edges_bit, names_byte, placed, split}
use Rattle.reading.specs.Readings.{Reads, read_at}
use Rattle.reading.specs.Rows.{no_edge, no_term, named_at, processes_at, signals_from, edges_from, terms_from, texts_at}
use Rattle.sheet.specs.Views.{names_of, opened_of, contents_of, lists_of}
use Rattle.reading.specs.declared.fault.SheetFault.{SheetFault}
use Rattle.reading.specs.declared.reader.Reader.{Reader}
use Rattle.sheet.specs.declared.view.Sheet.{Sheet}
use Rattle.reading.specs.declared.records.Counts.{Counts}
use Rattle.table.specs.Examination.{limits_refused}
use Rattle.table.specs.Edges.{absent, blank}
use Rattle.table.specs.Lists.{Proc}
use Rattle.table.specs.declared.record.Edge.{Edge}
use Rattle.table.specs.declared.record.Signal.{Signal}
use Rattle.table.specs.declared.record.Term.{Term}

whole : (bs : List ℕ) (p : ℕ) {p1 p2 p3 p4 p5 p6 p7 p8 fill end : ℕ} {n : Counts} {ps : List Proc} {ss : List Signal} {es : List Edge} {ts : List Term} {names : List (List ℕ)} →
    header_format.reads bs p ≡ got n p1 →
    (many n.processes process_format).reads bs p1 ≡ got ps p2 →
    (many n.signals (signal_format n.processes)).reads bs p2 ≡ got ss p3 →
    (many n.edges edge_format).reads bs p3 ≡ got es p4 →
    (many n.terms term_format).reads bs p4 ≡ got ts p5 →
    filled.reads bs p5 ≡ got fill p6 →
    (many (n.processes + n.signals) name_format).reads bs p6 ≡ got names p7 →
    ended.reads bs p7 ≡ got end p8 →
    sheet_format.reads bs p ≡ got (record { lists = record { processes = ps; signals = ss; edges = es; terms = ts }; names = names }) p8
unfolding sheet_format
whole bs p e1 e2 e3 e4 e5 e6 e7 e8 =
    rw (e1, after-got, e2, after-got, e3, after-got, e4, after-got, e5, after-got, e6, after-got, e7, after-got, e8, after-got)

-- a value that is told of other bytes, which are the same
elsewhere : {A : Type 0} (means : List ℕ → A) {a : Answer A} {q : ℕ} (bs cs : List ℕ) → bs ≡ cs → a ≡ got (means bs) q → a ≡ got (means cs) q
elsewhere means {q} bs cs e h = h ∙ ap (λ b. got (means b) q) e

length-processes : (bs : List ℕ) (n : ℕ) (ps : List ℕ) → length (processes_at bs (take n ps)) ≡ min n (length ps)
length-processes bs n ps = length-map (take n ps) (λ p. read_at process_format blank bs p) ∙ length-take n ps

module _ {s0 s1 s2 s3 s4 s5 s6 s7 s8 : Reader} {n : Counts} (ps : List ℕ) {r1 : Result Counts SheetFault} {r2 r3 r4 r5 r7 r8 : Result Unit SheetFault} {r6 : Result ℕ SheetFault} {x2 x3 x4 x5 x7 x8 : Unit} {x6 m : ℕ}
    (h1 : Reads header_format.reads (λ c. c) s0 r1 s1) (e1 : r1 ≡ Ok n)
    (h2 : Reads (many n.processes process_format).reads (λ _. processes_at s1.bytes.now (take n.processes ps)) s1 r2 s2) (e2 : r2 ≡ Ok x2)
    (h3 : Reads (many n.signals (signal_format n.processes)).reads (λ _. signals_from s2.bytes.now s2.place n.processes n.signals) s2 r3 s3) (e3 : r3 ≡ Ok x3)
    (h4 : Reads (many n.edges edge_format).reads (λ _. edges_from s3.bytes.now s3.place n.edges) s3 r4 s4) (e4 : r4 ≡ Ok x4)
    (h5 : Reads (many n.terms term_format).reads (λ _. terms_from s4.bytes.now s4.place n.terms) s4 r5 s5) (e5 : r5 ≡ Ok x5)
    (h6 : Reads filled.reads (λ v. v) s5 r6 s6) (e6 : r6 ≡ Ok x6)
    (em : m ≡ n.processes + n.signals)
    (h7 : Reads (many m name_format).reads (λ _. texts_at s6.bytes.now (s6.place / 8) m) s6 r7 s7) (e7 : r7 ≡ Ok x7)
    (h8 : Reads ended.reads (λ _. 0) s7 r8 s8) (e8 : r8 ≡ Ok x8) where
  abbrev made : Sheet
  made = record { bytes = s8.bytes; counts = n; processes_at = ps; signals_at = s2.place; edges_at = s3.place; terms_at = s4.place; names_at = s6.place / 8 }

  pub sheet-read : Reads sheet_format.reads contents_of s0
      (Ok made) s8
  unfolding contents_of lists_of
  sheet-read =
      let bs = s0.bytes.now in
      let end = s8.bytes.now in
      let b1 : s1.bytes.now ≡ bs = h1.same in
      let b2 : s2.bytes.now ≡ bs = h2.same ∙ b1 in
      let b3 : s3.bytes.now ≡ bs = h3.same ∙ b2 in
      let b4 : s4.bytes.now ≡ bs = h4.same ∙ b3 in
      let b5 : s5.bytes.now ≡ bs = h5.same ∙ b4 in
      let b6 : s6.bytes.now ≡ bs = h6.same ∙ b5 in
      let b7 : s7.bytes.now ≡ bs = h7.same ∙ b6 in
      let b8 : s8.bytes.now ≡ bs = h8.same ∙ b7 in
      record {
        value = sym (whole bs s0.place
            (read bs h1 e1 refl)
            (elsewhere (λ b. processes_at b (take n.processes ps)) s1.bytes.now end (b1 ∙ sym b8) (read bs h2 e2 b1))
            (elsewhere (λ b. signals_from b s2.place n.processes n.signals) s2.bytes.now end (b2 ∙ sym b8) (read bs h3 e3 b2))
            (elsewhere (λ b. edges_from b s3.place n.edges) s3.bytes.now end (b3 ∙ sym b8) (read bs h4 e4 b3))
            (elsewhere (λ b. terms_from b s4.place n.terms) s4.bytes.now end (b4 ∙ sym b8) (read bs h5 e5 b4))
            (read bs h6 e6 b5)
            (subst (λ (k : ℕ). (many k name_format).reads bs s6.place ≡ got (texts_at end (s6.place / 8) k) s7.place) em (elsewhere (λ b. texts_at b (s6.place / 8) m) s6.bytes.now end (b6 ∙ sym b8) (read bs h7 e7 b6)))
            (read bs h8 e8 b7));
        same = b8;
        stays = tt;
      }

  pub sheet-edges : s0.place ≡ 0 → s1.place ≡ s0.place + 44 → s2.place ≡ s1.place + processes_bits (processes_at s1.bytes.now (take n.processes ps)) → s3.place ≡ s2.place + 6 * n.signals →
      s3.place ≡ edges_bit (lists_of made)
  unfolding lists_of
  sheet-edges m0 m1 m2 m3 =
      let b : s1.bytes.now ≡ s8.bytes.now = sym (h8.same ∙ h7.same ∙ h6.same ∙ h5.same ∙ h4.same ∙ h3.same ∙ h2.same) in
      let l = length-row (signal_format n.processes) absent s8.bytes.now s2.place 6 n.signals in
      omega (arith, ap (λ bs. processes_bits (processes_at bs (take n.processes ps))) b)

  pub sheet-names_at : s3.place ≡ edges_bit (lists_of made) →
      n.processes ≤ 8 → length ps ≡ 8 → s4.place ≡ s3.place + 60 * n.edges → s5.place ≡ s4.place + 20 * n.terms → s6.place ≡ s5.place + (8 - s5.place % 8) % 8 →
      s6.place / 8 ≡ names_byte (lists_of made)
  unfolding lists_of
  sheet-names_at edges few long m4 m5 m6 =
      let bs = s8.bytes.now in
      let l = length-processes bs n.processes ps in
      let e = length-row edge_format no_edge bs s3.place 60 n.edges in
      let t = length-row term_format no_term bs s4.place 20 n.terms in
      omega arith

  pub sheet-opened : s3.place ≡ edges_bit (lists_of made) →
      n.processes ≤ 8 → length ps ≡ 8 → s4.place ≡ s3.place + 60 * n.edges → s5.place ≡ s4.place + 20 * n.terms → s6.place ≡ s5.place + (8 - s5.place % 8) % 8 →
      placed (s6.place / 8) (texts_at s6.bytes.now (s6.place / 8) m) ≡ named_at s6.bytes.now (s6.place / 8) m →
      opened_of made ≡ split (lists_of made) (placed (names_byte (lists_of made)) (contents_of made).names)
  unfolding lists_of contents_of opened_of names_of
  sheet-opened edges few long m4 m5 m6 laid =
      let s : Sheet = made in
      let bs = s8.bytes.now in
      let T = lists_of s in
      let texts = texts_at bs (s6.place / 8) (n.processes + n.signals) in
      let b : s6.bytes.now ≡ bs = sym (h8.same ∙ h7.same) in
      let l : length T.processes ≡ n.processes = omega (arith, length-processes bs n.processes ps) in
      let a : names_byte T ≡ s6.place / 8 = sym (sheet-names_at edges few long m4 m5 m6) in
      let laid2 : placed (s6.place / 8) (texts_at bs (s6.place / 8) m) ≡ named_at bs (s6.place / 8) m =
      subst (λ (ys : List ℕ). placed (s6.place / 8) (texts_at ys (s6.place / 8) m) ≡ named_at ys (s6.place / 8) m) b laid in
      let names : placed (s6.place / 8) texts ≡ names_of s =
      subst (λ (k : ℕ). placed (s6.place / 8) (texts_at bs (s6.place / 8) k) ≡ named_at bs (s6.place / 8) k) em laid2 in
      let with : ℕ → Opened = λ k. record { lists = T; process_names = take k (names_of s); signal_names = drop k (names_of s) } in
      sym (ap (λ k. split T (placed k texts)) a ∙ ap (split T) names ∙ ap with l)

-- what was read is within its limits
pub sheet-limits : {s t : Reader} {r : Result Sheet SheetFault} {x : Sheet} → Reads sheet_format.reads contents_of s r t → r ≡ Ok x → s.place ≡ 0 → limits_refused (lists_of x) ≡ None
unfolding contents_of
sheet-limits {s} {t} {r} {x} h e z =
    let bs = s.bytes.now in
    read-limits bs (contents_of x) t.place (ap (sheet_format.reads bs) (sym z) ∙ read bs h e refl)

pub length-edges : (s : Sheet) → length (lists_of s).edges ≡ s.counts.edges
unfolding lists_of
length-edges s = length-row edge_format no_edge s.bytes.now s.edges_at 60 s.counts.edges
