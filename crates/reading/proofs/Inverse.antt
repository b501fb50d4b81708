-- Opening a sheet is the inverse of writing one.
use Rattle.std.proofs.Common.{◌≡◌, ℕ, ◌+◌, ◌*◌, ◌≤◌, false, List, length, get_or, Some, None, Ok, Option, sym, refl, ap, ◌∙◌, arith}
use Rattle.std.proofs.lemmas.Bool.Decides.{nat_tests}
use Rattle.std.specs.List.{All}
use Rattle.std.specs.Option.{option_or}
use Rattle.reading.specs.Formats.{Answer, got, bad}
use Rattle.reading.specs.Layout.{Contents, counts_of, sheet_format}
use Rattle.reading.specs.Opening.{Opened, edges_bit, bad_edge, unless, judged, opened}
use Rattle.reading.specs.Spelling.{FitsTerm, IsName, IsWritable, Inverse, meaning}
use Rattle.reading.specs.declared.records.Counts.{Counts}
use Rattle.reading.proofs.Exact.{Exact, behind, exact-like, exact-then, exact-many, exact-filled, exact-ended}
use Rattle.reading.proofs.ExactRecords.{SheetCounts, SheetProcess, SheetSignal, exact-header, exact-process, exact-signal, exact-edge, exact-term, exact-name, good-signal, signal-good}
use Rattle.refusal.specs.Refusals.{refusal}
use Rattle.refusal.specs.declared.fault.Layer.{Layer}
use Rattle.refusal.specs.declared.fault.Place.{Place}
use Rattle.refusal.specs.declared.fault.Refusal.{Refusal}
use Rattle.table.proofs.Passing.{none-parts, parts_none, cond-none, limit-all, all-limit, told-none}
use Rattle.table.specs.Edges.{edge_fault}
use Rattle.table.specs.Examination.{bad_process, bad_signal, too_many, lists_refused, processes_refused, signals_refused, edges_refused, limits_refused}
use Rattle.table.specs.Lists.{Lists}

pub record SheetContents (c : Contents) : Type 0 where
  pub counts : SheetCounts (counts_of c.lists)
  pub processes : All SheetProcess c.lists.processes
  pub signals : All (SheetSignal (length c.lists.processes)) c.lists.signals
  pub terms : All FitsTerm c.lists.terms
  pub named : length c.names ≡ length c.lists.processes + length c.lists.signals
  pub names : All IsName c.names

counts-same : (n m : Counts) → n.processes ≡ m.processes → n.signals ≡ m.signals → n.edges ≡ m.edges → n.terms ≡ m.terms → n ≡ m
counts-same n m a b c d =
    let made : ℕ → ℕ → ℕ → ℕ → Counts = λ p s e t. record { processes = p; signals = s; edges = e; terms = t } in
    ap (λ k. made k n.signals n.edges n.terms) a ∙ ap (λ k. made m.processes k n.edges n.terms) b
    ∙ ap (λ k. made m.processes m.signals k n.terms) c ∙ ap (λ k. made m.processes m.signals m.edges k) d

pub exact-sheet : Exact behind sheet_format SheetContents
unfolding sheet_format
exact-sheet =
    exact-like SheetContents
    (λ c g. record { counts = g.0; processes = g.1.0.1; signals = g.1.1.0.1; terms = g.1.1.1.1.0.1; named = g.1.1.1.1.1.1.0.0; names = g.1.1.1.1.1.1.0.1 })
    (λ c g. (g.counts, ((refl, g.processes), ((refl, g.signals), ((refl, λ _ _ _. tt), ((refl, g.terms), (refl, ((g.named, g.names), refl))))))))
    (exact-then exact-header (λ counts.
    exact-then (exact-many exact-process counts.processes) (λ processes.
    exact-then (exact-many (exact-signal counts.processes) counts.signals) (λ signals.
    exact-then (exact-many exact-edge counts.edges) (λ edges.
    exact-then (exact-many exact-term counts.terms) (λ terms.
    exact-then exact-filled (λ _.
    exact-then (exact-many exact-name (counts.processes + counts.signals)) (λ names.
    exact-ended (record { lists = record { processes = processes; signals = signals; edges = edges; terms = terms }; names = names }))
    (λ n c f g. ap (λ c. c.names) g))
    (λ n c f g. sym f))
    (λ n c f g. ap (λ c. c.lists.terms) g.1.1))
    (λ n c f g. ap (λ c. c.lists.edges) g.1.1.1))
    (λ n c f g. ap (λ c. c.lists.signals) g.1.1.1.1))
    (λ n c f g. ap (λ c. c.lists.processes) g.1.1.1.1.1))
    (λ n c f g. counts-same (counts_of c.lists) n g.0.0 g.1.0.0 g.1.1.0.0 g.1.1.1.0.0))

-- what the sheet's table keeps to

module _ (c : Contents) where
  counts-limited : SheetCounts (counts_of c.lists) → too_many c.lists ≡ false
  counts-limited h = let p = h.processes in let s = h.signals in let e = h.edges in let t = h.terms in grind (arith, nat_tests)

  counts-fit : 1 ≤ length c.lists.processes → too_many c.lists ≡ false → SheetCounts (counts_of c.lists)
  counts-fit some h = record { some = some; processes = grind (arith, nat_tests); signals = grind (arith, nat_tests); edges = grind (arith, nat_tests); terms = grind (arith, nat_tests) }

  good-limits : SheetContents c → limits_refused c.lists ≡ None
  unfolding limits_refused
  good-limits g =
      let T = c.lists in
      let n = length T.processes in
      let processes = all-limit bad_process T.processes (λ k d l. (g.processes k d l).limits) in
      let signals = all-limit (bad_signal n) T.signals (λ k d l. good-signal n g.counts.some (get_or T.signals k d) (g.signals k d l)) in
      parts_none (lists_refused T) (option_or (processes_refused T) (signals_refused T)) (rw (counts-limited g.counts)) (parts_none (processes_refused T) (signals_refused T) processes signals)

  pub good_writable : SheetContents c → edges_refused c.lists ≡ None → IsWritable c
  good_writable g edges =
      record {
        some = g.counts.some;
        limits = good-limits g;
        edges = edges;
        records = record { processes = λ k d l. (g.processes k d l).fits; terms = g.terms };
        named = g.named;
        names = g.names;
      }

  pub writable-good : IsWritable c → SheetContents c
  unfolding limits_refused
  writable-good w =
      let T = c.lists in
      let n = length T.processes in
      let a = none-parts (lists_refused T) (option_or (processes_refused T) (signals_refused T)) w.limits in
      let b = none-parts (processes_refused T) (signals_refused T) a.1 in
      record {
        counts = counts-fit w.some (cond-none (too_many T) (refusal 3 Layer.Table (Place.At 0)) a.0);
        processes = λ k d l. record { limits = limit-all bad_process T.processes b.0 k d l; fits = w.records.processes k d l };
        signals = λ k d l. signal-good n w.some (get_or T.signals k d) (limit-all (bad_signal n) T.signals b.1 k d l);
        terms = w.records.terms;
        named = w.named;
        names = w.names;
      }

-- the table that a sheet's fields give is within its limits
pub read-limits : (bs : List ℕ) (c : Contents) (q : ℕ) → sheet_format.reads bs 0 ≡ got c q → limits_refused c.lists ≡ None
read-limits bs c q e = good-limits c (exact-sheet.back bs 0 q c (omega arith) e).fact

module _ (T : Lists) where
  abbrev edge_at : ℕ → ℕ → Refusal
  edge_at k n = record { number = n; layer = Layer.Edge; place = Place.At k; sheet = Some (edges_bit T + 60 * k) }

  abbrev edge_alone : ℕ → ℕ → Refusal
  edge_alone k n = refusal n Layer.Edge (Place.At k)

  edges_good : bad_edge T ≡ None → edges_refused T ≡ None
  edges_good = told-none edge_at edge_alone (edge_fault T) T.edges

  good_edges : edges_refused T ≡ None → bad_edge T ≡ None
  good_edges = told-none edge_alone edge_at (edge_fault T) T.edges

-- the whole

record Judged (a : Answer Contents) (o : Opened) : Type 0 where
  pub contents : Contents
  pub end : ℕ
  pub read : a ≡ got contents end
  pub edges : bad_edge contents.lists ≡ None
  pub means : o ≡ meaning contents

unless-parts : {A : Type 0} (r : Option Refusal) (x y : A) → unless r x ≡ Ok y → (r ≡ None) × (y ≡ x)
unless-parts None x y e = (refl, cc)
unless-parts (Some r) x y e = cc

judged-parts : (a : Answer Contents) (o : Opened) → judged a ≡ Ok o → Judged a o
judged-parts (got c q) o e =
    let u = unless-parts (bad_edge c.lists) (meaning c) o e in
    record { contents = c; end = q; read = refl; edges = u.0; means = u.1 }
judged-parts (bad r) o e = cc

pub inverse : (bs : List ℕ) → Inverse bs
unfolding opened
inverse bs = record {
  opens = λ c s.
      let r = exact-sheet.forth bs 0 c (writable-good c s.writable) s.fields (sym s.size) in
      ap judged r ∙ ap (λ e. unless e (meaning c)) (good_edges c.lists s.writable.edges);
  only = λ o e.
      let j = judged-parts (sheet_format.reads bs 0) o e in
      let t = exact-sheet.back bs 0 j.end j.contents (omega arith) j.read in
      (j.contents, record { writable = good_writable j.contents t.fact (edges_good j.contents.lists j.edges); size = sym t.stops ∙ t.end; fields = t.fields }, j.means);
}
