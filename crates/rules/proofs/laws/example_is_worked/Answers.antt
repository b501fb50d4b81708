use Rattle.rules.proofs.Worked.{worked}
use Rattle.rules.proofs.laws.example_is_worked.Goals as goal

pub returns : goal.returns
returns c = worked
