use Rattle.examination.proofs.Raised.{none-raised}
use Rattle.examination.proofs.flags.Locations.none.Goals as goal

pub returns : goal.returns
returns c = none-raised 128
