-- How many bits the fields of a sheet take, and where its names begin.
--   before_fill c   the fields of the sheet of c up to the fill
use Rattle.std.proofs.Common.{◌≡◌, ℕ, ◌+◌, ◌-◌, ◌*◌, ◌%◌, Bool, true, false, cond, eqb, leb, List, [], ◌∷◌, ◌++◌, map, length, drop, sym, refl, ap, ◌∙◌, subst, arith}
use Rattle.std.proofs.lemmas.List.{append-nil, append_assoc, drop_all, drop_more, map-append}
use Rattle.std.proofs.lemmas.List.Elements.{All-head, All-tail}
use Rattle.std.proofs.lemmas.List.Concat.{flat_map_single}
use Rattle.std.proofs.lemmas.List.Sums.{sum_by-cons}
use Rattle.std.specs.List.{All, flat_map}
use Rattle.reading.specs.Formats.{Field, Format, bits, fill, field, plain, signed}
use Rattle.reading.specs.Layout.{Contents, counts_of, header_format, timer_format, process_format, signal_format, span_format, edge_format, term_format, name_format, sheet_format}
use Rattle.reading.specs.Opening.{process_bits, processes_bits, edges_bit, names_byte}
use Rattle.reading.specs.Spelling.{AreBytes, FitsProcess, IsSheet, Spells, area_of, ends}
use Rattle.reading.specs.declared.records.Counts.{Counts}
use Rattle.reading.proofs.Numbers.{number-byte}
use Rattle.reading.proofs.Spelled.{ends-above, ends-append, spells-parts}
use Rattle.table.specs.Lists.{Lists, Proc}
use Rattle.table.specs.Records.{timer_number, timer_ticks}
use Rattle.table.specs.declared.record.Edge.{Edge}
use Rattle.table.specs.declared.record.Signal.{Signal}
use Rattle.table.specs.declared.record.Term.{Term}
use Rattle.table.specs.declared.record.Timer.{Timer}

ends-header : (n : Counts) → ends 0 (header_format.writes n) ≡ 44
unfolding ends header_format
ends-header n = refl

ends-row : {A : Type 0} (f : Format A) (w : ℕ) → ((q : ℕ) (x : A) → ends q (f.writes x) ≡ q + w) → (q : ℕ) (xs : List A) → ends q (flat_map f.writes xs) ≡ q + w * length xs
unfolding ends
ends-row f w h q [] = omega arith
ends-row f w h q (x ∷ xs) =
    omega (arith, ends-append q (f.writes x) (flat_map f.writes xs), ap (λ n. ends n (flat_map f.writes xs)) (h q x), ends-row f w h (q + w) xs)

ends-timer : (q : ℕ) (t : Timer) → ends q (timer_format.writes t) ≡ q + 16
unfolding ends timer_format
ends-timer q t = by (eqb (timer_number t) 0)
  where
    by : (b : Bool) → ends (q + 1) ((cond b (field 15 0 0 4) (plain 15)).writes (timer_ticks t) ++ []) ≡ q + 16
    by true = omega arith
    by false = omega arith

ends-signal : (n q : ℕ) (s : Signal) → ends q ((signal_format n).writes s) ≡ q + 6
unfolding ends signal_format
ends-signal n q s = by (leb s.class 1)
  where
    by : (b : Bool) → ends (q + 3) ((cond b (field 3 0 (n - 1) 3) (field 3 0 0 4)).writes s.destination ++ []) ≡ q + 6
    by true = omega arith
    by false = omega arith

ends-edge : (q : ℕ) (e : Edge) → ends q (edge_format.writes e) ≡ q + 60
unfolding ends edge_format span_format
ends-edge q e = omega arith

ends-term : (q : ℕ) (t : Term) → ends q (term_format.writes t) ≡ q + 20
unfolding ends term_format
ends-term q t = omega arith

ends-process : (q : ℕ) (p : Proc) → FitsProcess p → ends q (process_format.writes p) ≡ q + process_bits p
unfolding ends process_format
ends-process q p h =
    let values = h.values in
    let settings = h.settings in
    let at = q + 4 + 4 + 4 + 4 in
    let vs = flat_map signed.writes p.values in
    let ts = flat_map timer_format.writes p.settings in
    ends-append at vs (ts ++ []) ∙ ends-append (ends at vs) ts [] ∙ ap (λ n. ends n ts) (ends-row signed 16 (λ q x. refl) at p.values)
    ∙ ends-row timer_format 16 ends-timer (at + 16 * length p.values) p.settings ∙ omega arith

ends-processes : (q : ℕ) (ps : List Proc) → All FitsProcess ps → ends q (flat_map process_format.writes ps) ≡ q + processes_bits ps
unfolding ends
ends-processes q [] h = omega arith
ends-processes q (p ∷ ps) h =
    let ws = flat_map process_format.writes ps in
    let r = ends-processes (q + process_bits p) ps (All-tail FitsProcess p ps h) in
    ends-append q (process_format.writes p) ws ∙ ap (λ n. ends n ws) (ends-process q p (All-head FitsProcess p ps h)) ∙ r ∙ omega (arith, sum_by-cons process_bits p ps)

-- up to the names

unfoldable pub before_fill : Lists → List Field
before_fill T =
    header_format.writes (counts_of T) ++ (flat_map process_format.writes T.processes ++ (flat_map (signal_format (length T.processes)).writes T.signals
    ++ (flat_map edge_format.writes T.edges ++ flat_map term_format.writes T.terms)))

pub sheet-writes : (c : Contents) → sheet_format.writes c ≡ before_fill c.lists ++ fill ∷ flat_map name_format.writes c.names
unfolding sheet_format before_fill
sheet-writes c = simp (append_assoc, append-nil)

pub ends-before_fill : (T : Lists) → All FitsProcess T.processes → ends 0 (before_fill T) ≡ edges_bit T + 60 * length T.edges + 20 * length T.terms
unfolding before_fill
ends-before_fill T h =
    let n = length T.processes in
    let ps = flat_map process_format.writes T.processes in
    let ss = flat_map (signal_format n).writes T.signals in
    let es = flat_map edge_format.writes T.edges in
    let ts = flat_map term_format.writes T.terms in
    let p1 = 44 + processes_bits T.processes in
    let p2 = p1 + 6 * length T.signals in
    let p3 = p2 + 60 * length T.edges in
    ends-append 0 (header_format.writes (counts_of T)) (ps ++ (ss ++ (es ++ ts))) ∙ ap (λ n. ends n (ps ++ (ss ++ (es ++ ts)))) (ends-header (counts_of T))
    ∙ ends-append 44 ps (ss ++ (es ++ ts)) ∙ ap (λ n. ends n (ss ++ (es ++ ts))) (ends-processes 44 T.processes h)
    ∙ ends-append p1 ss (es ++ ts) ∙ ap (λ n. ends n (es ++ ts)) (ends-row (signal_format n) 6 (ends-signal n) p1 T.signals)
    ∙ ends-append p2 es ts ∙ ap (λ n. ends n ts) (ends-row edge_format 60 ends-edge p2 T.edges)
    ∙ ends-row term_format 20 ends-term p3 T.terms

-- the names

pub names-writes : (ts : List (List ℕ)) → flat_map name_format.writes ts ≡ map (bits 8) (area_of ts)
unfolding name_format
names-writes [] = refl
names-writes (t ∷ ts) =
    ap (λ fs. bits 8 (length t) ∷ (flat_map (λ v. bits 8 v ∷ []) t ++ fs)) (names-writes ts)
    ∙ ap (λ fs. bits 8 (length t) ∷ (fs ++ map (bits 8) (area_of ts))) (flat_map_single (bits 8) t)
    ∙ ap (λ fs. bits 8 (length t) ∷ fs) (sym (map-append (bits 8) t (area_of ts)))

-- whole bytes up to the end
bytes-left : (bs : List ℕ) → AreBytes bs → (a : ℕ) (vs : List ℕ) → 8 * length bs ≡ ends (8 * a) (map (bits 8) vs) → Spells bs (8 * a) (map (bits 8) vs) → drop a bs ≡ vs
unfolding Spells ends
bytes-left bs b a [] e h = drop_all a bs (omega arith)
bytes-left bs b a (v ∷ vs) e h =
    let z : 8 * a + 8 ≡ 8 * (a + 1) = omega arith in
    let above = ends-above (8 * a + 8) (map (bits 8) vs) in
    drop_more bs a 0 (omega arith) ∙ ap (λ x. x ∷ drop (a + 1) bs) (sym (number-byte bs a (b a)) ∙ h.0)
    ∙ ap (λ xs. v ∷ xs)
    (bytes-left bs b (a + 1) vs (e ∙ ap (λ n. ends n (map (bits 8) vs)) z) (subst (λ (n : ℕ). Spells bs n (map (bits 8) vs)) z h.1))

-- the names lie behind the fill, and nothing but they
pub sheet-names : (c : Contents) (bs : List ℕ) → AreBytes bs → IsSheet c bs → drop (names_byte c.lists) bs ≡ area_of c.names
unfolding Spells ends
sheet-names c bs b s =
    let front = before_fill c.lists in
    let back = flat_map name_format.writes c.names in
    let p = ends 0 front in
    let at : p + (8 - p % 8) % 8 ≡ 8 * names_byte c.lists = let z = ends-before_fill c.lists s.writable.records.processes in omega arith in
    let parts = spells-parts bs 0 front (fill ∷ back) (subst (Spells bs 0) (sheet-writes c) s.fields) in
    let fields = subst (λ (n : ℕ). Spells bs n back) at parts.1.1 in
    let size : 8 * length bs ≡ ends (8 * names_byte c.lists) back = s.size ∙ ap (ends 0) (sheet-writes c) ∙ ends-append 0 front (fill ∷ back) ∙ ap (λ n. ends n back) at in
    bytes-left bs b (names_byte c.lists) (area_of c.names)
    (size ∙ ap (ends (8 * names_byte c.lists)) (names-writes c.names))
    (subst (Spells bs (8 * names_byte c.lists)) (names-writes c.names) fields)
