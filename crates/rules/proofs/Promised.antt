-- The promises of the test and of closing, from marks that are the least and what was answered; and both together.
use Rattle.std.proofs.Common.{◌≡◌, ℕ, IfOk, is_some, Some, None, Ok, Option, Result, refl, ap, ◌∙◌, subst}
use Rattle.std.proofs.lemmas.Bool.{cond-false}
use Rattle.marks.proofs.Unique.{least-unique}
use Rattle.marks.specs.Rules.{Marking}
use Rattle.refusal.specs.declared.fault.Refusal.{Refusal}
use Rattle.rules.proofs.Examined.{table-passes}
use Rattle.rules.proofs.Runs.{stands-in, verdict}
use Rattle.rules.specs.Closing.{closed, closed_by, closed_count, test_refused}
use Rattle.rules.specs.Promise.{Marked, Measured, Tests, Closes, ClosedBy}
use Rattle.rules.specs.Steps.{answer}
use Rattle.table.specs.Lists.{Lists}

module _ (T : Lists) (M : Marking) (least : Marked T M) where
  pub tests : (o : Result ℕ Refusal) → o ≡ answer (test_refused T M) (closed_count T M) → Tests T o
  tests o h = record {
    marks = M;
    least = least;
    says = h;
    stands_in = λ t. stands-in T M t (least (table-passes T M t)).obeys;
    verdict = λ t. verdict T M t (least (table-passes T M t)).obeys;
  }

  pub closes : (C : Lists) → C ≡ closed_by T M → Closes T C
  closes C h = record {
    marks = M;
    least = least;
    meaning = h;
    stands_in = λ t. stands-in T M t (least (table-passes T M t)).obeys;
    verdict = λ t. verdict T M t (least (table-passes T M t)).obeys;
  }

answered : {A : Type 0} (o : Option Refusal) (n x : A) → Ok n ≡ answer o x → o ≡ None
answered None n x h = refl
answered (Some r) n x h = cc

-- both speak of the same marks: where the test answers a count, what closing means is the closed table
pub closed-by : (T C : Lists) (n : ℕ) → Tests T (Ok n) → Closes T C → ClosedBy T C
closed-by T C n t c =
    let M = t.marks in
    let N = c.marks in
    let passed = answered (test_refused T M) n (closed_count T M) t.says in
    let examined = table-passes T M passed in
    let same = least-unique T M N (t.least examined) (c.least examined) in
    let passes : test_refused T N ≡ None = subst (λ K. test_refused T K ≡ None) same passed in
    record {
      marks = N;
      least = c.least examined;
      passes = passes;
      meaning = c.meaning ∙ cond-false (is_some (test_refused T N)) T (closed T N) (ap is_some passes);
      stands_in = c.stands_in passes;
      verdict = c.verdict passes;
    }

-- where measuring answers marks, closing by them means the closed table
pub closed-measured : (T C : Lists) (M : Marking) (n : ℕ) → Measured T (Ok (M, n)) → C ≡ closed_by T M → ClosedBy T C
closed-measured T C M n m h =
    let N = m.marks in
    let passes = answered (test_refused T N) (M, n) (N, closed_count T N) m.says in
    let told = m.says ∙ ap (λ (o : Option Refusal). answer o (N, closed_count T N)) passes in
    let same : M ≡ N = subst (λ (x : Result (Marking × ℕ) Refusal). IfOk x (λ y. M ≡ y.0)) told refl in
    let least = m.least (table-passes T N passes) in
    record {
      marks = N;
      least = least;
      passes = passes;
      meaning = h ∙ ap (closed_by T) same ∙ cond-false (is_some (test_refused T N)) T (closed T N) (ap is_some passes);
      stands_in = stands-in T N passes least.obeys;
      verdict = verdict T N passes least.obeys;
    }
