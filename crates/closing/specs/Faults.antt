-- The number, layer and place of every refusal of the test.
--   test_refusal f     a table's refusal stays as it is
--   measuring r        what measuring answers, as the rules say it: marks and the closed edge count
--   testing r          what the test answers, as the rules say it
use Rattle.std.specs.Prelude.{ℕ, Result}
use Rattle.std.specs.Result.{result_map_both}
use Rattle.closing.specs.declared.fault.TestFault.{TestFault}
use Rattle.closing.specs.declared.fault.TestFault.TheVariants.{Table, NinthTimer, Edges}
use Rattle.marks.specs.Rules.{Marking}
use Rattle.marks.specs.Words.{marking}
use Rattle.marks.specs.declared.marks.Marks.{Marks}
use Rattle.refusal.specs.Refusals.{table_refusal}
use Rattle.refusal.specs.declared.fault.Refusal.{Refusal}
use Rattle.rules.specs.Closing.{test_at}

abbrev pub test_refusal : TestFault → Refusal
test_refusal (Table f) = table_refusal f
test_refusal (NinthTimer p) = test_at 13 p
test_refusal (Edges n) = test_at 14 n

abbrev pub testing : Result ℕ TestFault → Result ℕ Refusal
testing r = result_map_both (λ n. n) test_refusal r

abbrev pub measuring : Result (Marks × ℕ) TestFault → Result (Marking × ℕ) Refusal
measuring r = result_map_both (λ x. (marking x.0, x.1)) test_refusal r
