-- From what closing and describing promise to what the summary says.
use Rattle.std.proofs.Common.{◌≡◌, ℕ, List, IfOk, is_some, Ok, Option, Result, refl, ap, ◌∙◌, subst}
use Rattle.std.proofs.lemmas.Bool.{cond-false}
use Rattle.marks.specs.Rules.{Marking}
use Rattle.reading.specs.Opening.{opened}
use Rattle.refusal.specs.declared.fault.Refusal.{Refusal}
use Rattle.rules.proofs.Examined.{table-passes}
use Rattle.rules.specs.Closing.{closed, closed_by, closed_count, test_refused}
use Rattle.rules.specs.Promise.{Measured}
use Rattle.rules.specs.Steps.{answer}
use Rattle.sealing.specs.Summary.{Summarised, summary_text}
use Rattle.sealing.proofs.Sealing.{going}
use Rattle.sheet.specs.Views.{lists_of, opened_of}
use Rattle.sheet.specs.declared.view.Sheet.{Sheet}
use Rattle.table.specs.Lists.{Lists}

pub summarised : (bs text : List ℕ) (s : Sheet) (C : Lists) (M : Marking) (n : ℕ) → opened bs ≡ Ok (opened_of s) → Measured (lists_of s) (Ok (M, n)) → C ≡ closed_by (lists_of s) M → text ≡ summary_text (opened_of s) C M → Summarised bs text
unfolding opened_of
summarised bs text s C M n opens m means h =
    let T = lists_of s in
    let N = m.marks in
    let passes = going (test_refused T N) (N, closed_count T N) (M, n) m.says in
    let told = m.says ∙ ap (λ (o : Option Refusal). answer o (N, closed_count T N)) passes in
    let same : M ≡ N = subst (λ (x : Result (Marking × ℕ) Refusal). IfOk x (λ y. M ≡ y.0)) told refl in
    let closes : C ≡ closed T N = means ∙ ap (closed_by T) same ∙ cond-false (is_some (test_refused T N)) T (closed T N) (ap is_some passes) in
    record {
      holds = opened_of s;
      opens = opens;
      marks = N;
      least = m.least (table-passes T N passes);
      says = h ∙ ap (λ (c : Lists). summary_text (opened_of s) c M) closes ∙ ap (λ (k : Marking). summary_text (opened_of s) (closed T N) k) same;
    }
