-- Marks read off the words: of a marking, a marked expression and a marked signal.
use Rattle.std.proofs.Common.{◌≡◌, ℕ, ◌+◌, ◌*◌, ◌<◌, Bool, true, false, cond, ◌&&◌, eqb, ltb, List, get_or, Some, refl, ap, ◌∙◌, arith}
use Rattle.std.proofs.lemmas.Bool.Decides.{nat_tests}
use Rattle.std.proofs.lemmas.Bool.{and_parts, and_from, lt-ltb, ltb-true, eqb-true, eq-eqb, both_ways, cond-true}
use Rattle.std.specs.List.{slice_get}
use Rattle.table.specs.Expressions.{part, mentions}
use Rattle.table.specs.Lists.{Lists}
use Rattle.table.specs.Records.{kind_of}
use Rattle.table.specs.declared.record.Edge.{Edge}
use Rattle.table.specs.declared.record.Kind.{Kind}
use Rattle.table.specs.declared.record.Kind.TheVariants.{Input, Output, Assignment, Set, Reset, Timeout, Rearm, Skip, Unknown}
use Rattle.table.specs.declared.record.Span.{Span}
use Rattle.marks.specs.Rules.{Marking, indices, marked, is_output, signal_marked}
use Rattle.marks.specs.Words.{bit, word_at, marks_in}
use Rattle.marks.proofs.Bitwise.{bit-zero}
use Rattle.marking.proofs.Finding.{any_found, found-any, index_at}

-- the bit b of a location is set: then there is such a location
pub record Here (ws : List ℕ) (p l b : ℕ) : Type 0 where
  pub process : p < 8
  pub location : l < 16
  pub is_set : bit (get_or ws (16 * p + l) 0) b ≡ true

module _ (ws : List ℕ) (p l b : ℕ) where
  word-here : bit (word_at ws p l) b ≡ true → Here ws p l b
  word-here e = by (ltb p 8 && ltb l 16) refl e
    where
      by : (t : Bool) → (ltb p 8 && ltb l 16) ≡ t → bit (cond t (get_or ws (16 * p + l) 0) 0) b ≡ true → Here ws p l b
      by true q k = record { process = grind (arith, nat_tests); location = grind (arith, nat_tests); is_set = k }
      by false q k = absurd (both_ways (bit 0 b) (bit-zero b) k)

  here-word : Here ws p l b → bit (word_at ws p l) b ≡ true
  here-word s =
      ap (λ w. bit w b) (cond-true (ltb p 8 && ltb l 16) (get_or ws (16 * p + l) 0) 0 (and_from (ltb p 8) (ltb l 16) (lt-ltb p 8 s.process) (lt-ltb l 16 s.location)))
      ∙ s.is_set

module _ (ws : List ℕ) (p l n : ℕ) where
  pub variable-here : (marks_in ws).variable p l n ≡ true → (n < 8) × Here ws p l n
  variable-here e =
      let x = and_parts (ltb n 8) (bit (word_at ws p l) n) e in
      (ltb-true n 8 x.0, word-here ws p l n x.1)

  pub timer-here : (marks_in ws).timer p l n ≡ true → (n < 8) × Here ws p l (8 + n)
  timer-here e =
      let x = and_parts (ltb n 8) (bit (word_at ws p l) (8 + n)) e in
      (ltb-true n 8 x.0, word-here ws p l (8 + n) x.1)

  pub here-variable : n < 8 → Here ws p l n → (marks_in ws).variable p l n ≡ true
  here-variable h s = and_from (ltb n 8) (bit (word_at ws p l) n) (lt-ltb n 8 h) (here-word ws p l n s)

  pub here-timer : n < 8 → Here ws p l (8 + n) → (marks_in ws).timer p l n ≡ true
  here-timer h s = and_from (ltb n 8) (bit (word_at ws p l) (8 + n)) (lt-ltb n 8 h) (here-word ws p l (8 + n) s)

module _ (T : Lists) (M : Marking) where
  -- a variable that makes an expression a marked one
  pub record Mentioned (e : Edge) (s : Span) : Type 0 where
    pub index : ℕ
    pub is_marked : M.variable e.process e.from index ≡ true
    pub is_mentioned : mentions (part T.terms s) index ≡ true

  pub marked-mentions : (e : Edge) (s : Span) → marked T M e s ≡ true → Mentioned e s
  unfolding marked
  marked-mentions e s h =
      let x = any_found (λ v. M.variable e.process e.from v && mentions (part T.terms s) v) indices h in
      let y = and_parts (M.variable e.process e.from x.item) (mentions (part T.terms s) x.item) x.holds in
      record { index = x.item; is_marked = y.0; is_mentioned = y.1 }

  pub mentions-marked : (e : Edge) (s : Span) (v : ℕ) → v < 8 → M.variable e.process e.from v ≡ true → mentions (part T.terms s) v ≡ true → marked T M e s ≡ true
  unfolding marked
  mentions-marked e s v h a b =
      found-any (λ v. M.variable e.process e.from v && mentions (part T.terms s) v) indices v v (index_at v h)
      (and_from (M.variable e.process e.from v) (mentions (part T.terms s) v) a b)

  output-kind : (k : Kind) → is_output k ≡ true → k ≡ Output
  output-kind Input e = absurd (both_ways false refl e)
  output-kind Output e = refl
  output-kind Assignment e = absurd (both_ways false refl e)
  output-kind Set e = absurd (both_ways false refl e)
  output-kind Reset e = absurd (both_ways false refl e)
  output-kind Timeout e = absurd (both_ways false refl e)
  output-kind Rearm e = absurd (both_ways false refl e)
  output-kind Skip e = absurd (both_ways false refl e)
  output-kind Unknown e = absurd (both_ways false refl e)

  -- an output that makes a signal a marked one
  pub record Sent (s : ℕ) : Type 0 where
    pub place : ℕ
    pub edge : Edge
    pub stands : slice_get T.edges place ≡ Some edge
    pub kind : kind_of edge.kind ≡ Output
    pub signal : edge.first ≡ s
    pub value : marked T M edge edge.value ≡ true

  pub signal-sent : (s : ℕ) → signal_marked T M s ≡ true → Sent s
  unfolding signal_marked
  signal-sent s h =
      let x = any_found (λ e. is_output (kind_of e.kind) && (eqb e.first s && marked T M e e.value)) T.edges h in
      let e = x.item in
      let y = and_parts (is_output (kind_of x.item.kind)) (eqb x.item.first s && marked T M x.item x.item.value) x.holds in
      let z = and_parts (eqb x.item.first s) (marked T M x.item x.item.value) y.1 in
      record {
        place = x.place;
        edge = x.item;
        stands = x.stands;
        kind = output-kind (kind_of x.item.kind) y.0;
        signal = eqb-true x.item.first s z.0;
        value = z.1;
      }

  pub sent-signal : (k : ℕ) (e : Edge) → slice_get T.edges k ≡ Some e → kind_of e.kind ≡ Output → marked T M e e.value ≡ true → signal_marked T M e.first ≡ true
  unfolding signal_marked
  sent-signal k e h q v =
      found-any (λ x. is_output (kind_of x.kind) && (eqb x.first e.first && marked T M x x.value)) T.edges k e h
      (and_from (is_output (kind_of e.kind)) (eqb e.first e.first && marked T M e e.value) (ap is_output q)
      (and_from (eqb e.first e.first) (marked T M e e.value) (eq-eqb e.first e.first refl) v))
