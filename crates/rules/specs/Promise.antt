-- What the test and closing promise, of the table T.
--   Marked T M       M are the least marks of T, if it passes its examination
--   Tests T o        o is what the test answers: the closed edge count or the refusal, by the least marks; and where it passes, the
--                    closed table stands in for T, and verdicts carry over
--   Measured T r     r is the least marks of T and its closed edge count if it passes the test, and else the refusal
--   ClosedBy T C     T passes the test, and C is its closed table by its least marks, which stands in for it
--   Closes T C       C is what closing T means, by the least marks: the closed table, which stands in for T, so that verdicts carry
--                    over; or T itself where the test refuses
use Rattle.std.specs.Prelude.{◌≡◌, ℕ, None, Result}
use Rattle.marks.specs.Rules.{Marking, Least}
use Rattle.refusal.specs.declared.fault.Refusal.{Refusal}
use Rattle.rules.specs.Closing.{closed, closed_by, closed_count, test_refused}
use Rattle.rules.specs.Matching.{StandsIn, Verdict}
use Rattle.rules.specs.Steps.{answer}
use Rattle.table.specs.Examination.{examined}
use Rattle.table.specs.Lists.{Lists}

abbrev pub Marked : Lists → Marking → Type 0
Marked T M = examined T ≡ None → Least T M

pub record Tests (T : Lists) (o : Result ℕ Refusal) : Type 0 where
  pub marks : Marking
  pub least : Marked T marks
  pub says : o ≡ answer (test_refused T marks) (closed_count T marks)
  pub stands_in : test_refused T marks ≡ None → StandsIn T marks
  pub verdict : test_refused T marks ≡ None → Verdict T marks

pub record Measured (T : Lists) (r : Result (Marking × ℕ) Refusal) : Type 0 where
  pub marks : Marking
  pub least : Marked T marks
  pub says : r ≡ answer (test_refused T marks) (marks, closed_count T marks)

pub record Closes (T C : Lists) : Type 0 where
  pub marks : Marking
  pub least : Marked T marks
  pub meaning : C ≡ closed_by T marks
  pub stands_in : test_refused T marks ≡ None → StandsIn T marks
  pub verdict : test_refused T marks ≡ None → Verdict T marks

pub record ClosedBy (T C : Lists) : Type 0 where
  pub marks : Marking
  pub least : Least T marks
  pub passes : test_refused T marks ≡ None
  pub meaning : C ≡ closed T marks
  pub stands_in : StandsIn T marks
  pub verdict : Verdict T marks
