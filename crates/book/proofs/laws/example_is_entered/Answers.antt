use Rattle.book.proofs.Example.{example_is_entered}
use Rattle.book.proofs.laws.example_is_entered.Goals as goal

pub returns : goal.returns
returns c = example_is_entered
