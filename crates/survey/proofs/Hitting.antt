-- An expression is marked just where one of its terms reads a marked variable.
use Rattle.std.proofs.Common.{◌≡◌, ℕ, ◌<◌, true, false, ◌&&◌, eqb, ltb, ℤ, pos, negsuc, refl, ap, ◌∙◌, arith}
use Rattle.std.specs.Cmp.{both_ways as both_imply}
use Rattle.std.proofs.lemmas.Bool.{both_ways, and_parts, and_from, eqb-true, eq-eqb, ltb-true}
use Rattle.marks.specs.Rules.{indices, marked}
use Rattle.marks.specs.Words.{bit, word_at, marking}
use Rattle.marks.specs.declared.marks.Marks.{Marks}
use Rattle.rules.proofs.Lists.{counting-in, any-in, in-any}
use Rattle.survey.specs.Surveys.{hits}
use Rattle.table.specs.Expressions.{part, names, reads, mentions}
use Rattle.std.specs.List.{list_any}
use Rattle.table.specs.Lists.{Lists}
use Rattle.table.specs.declared.record.Edge.{Edge}
use Rattle.table.specs.declared.record.Span.{Span}
use Rattle.table.specs.declared.record.Term.{Term}

module _ (m : Marks) (e : Edge) where
  read-hit : (v : ℕ) (t : Term) → (marking m).variable e.process e.from v ≡ true → reads v t ≡ true → hits (marking m) e t ≡ true
  read-hit v t h r =
      let a = and_parts (eqb t.operation 1) (names v t.argument) r in
      by t.argument a.0 a.1
    where
      by : (z : ℤ) → eqb t.operation 1 ≡ true → names v z ≡ true → hits (marking m) e (record { operation = t.operation; argument = z }) ≡ true
      by (pos n) o k =
          and_from (eqb t.operation 1) ((marking m).variable e.process e.from n) o (ap ((marking m).variable e.process e.from) (eqb-true n v k) ∙ h)
      by (negsuc n) o k = absurd (both_ways false refl k)

  hit-read : (t : Term) → hits (marking m) e t ≡ true → (v : ℕ) × ((v < 8) × (((marking m).variable e.process e.from v ≡ true) × (reads v t ≡ true)))
  hit-read t h = by t.argument h
    where
      by : (z : ℤ) → hits (marking m) e (record { operation = t.operation; argument = z }) ≡ true → (v : ℕ) × ((v < 8) × (((marking m).variable e.process e.from v ≡ true) × (reads v (record { operation = t.operation; argument = z }) ≡ true)))
      by (pos n) k =
          let a = and_parts (eqb t.operation 1) ((marking m).variable e.process e.from n) k in
          let b = and_parts (ltb n 8) (bit (word_at m.words e.process e.from) n) a.1 in
          (n, (ltb-true n 8 b.0, (a.1, and_from (eqb t.operation 1) (eqb n n) a.0 (eq-eqb n n refl))))
      by (negsuc n) k =
          let a = and_parts (eqb t.operation 1) false k in
          absurd (both_ways false refl a.1)

  pub marked-hits : (T : Lists) (s : Span) → marked T (marking m) e s ≡ list_any (hits (marking m) e) (part T.terms s)
  unfolding marked indices
  marked-hits T s =
      both_imply (list_any (λ v. (marking m).variable e.process e.from v && mentions (part T.terms s) v) indices) (list_any (hits (marking m) e) (part T.terms s))
      (λ h.
      let a = in-any (λ v. (marking m).variable e.process e.from v && mentions (part T.terms s) v) indices h in
      let b = and_parts ((marking m).variable e.process e.from a.0) (mentions (part T.terms s) a.0) a.1.1 in
      let c = in-any (reads a.0) (part T.terms s) b.1 in
      any-in (hits (marking m) e) c.0 (part T.terms s) c.1.0 (read-hit a.0 c.0 b.0 c.1.1))
      (λ h.
      let a = in-any (hits (marking m) e) (part T.terms s) h in
      let b = hit-read a.0 a.1.1 in
      any-in (λ v. (marking m).variable e.process e.from v && mentions (part T.terms s) v) b.0 indices (counting-in b.0 0 8 (omega arith) (omega (arith, b.1.0)))
      (and_from ((marking m).variable e.process e.from b.0) (mentions (part T.terms s) b.0) b.1.1.0 (any-in (reads b.0) a.0 (part T.terms s) a.1.0 b.1.1.1)))
