use Rattle.std.proofs.Common.{refl}
use Rattle.rules.specs.States.{numbered}
use Rattle.stepping.specs.Worlds.{world}
use Rattle.stepping.proofs.state.State.new.Goals as goal

pub returns : goal.returns
unfolding world numbered
returns c m = refl
