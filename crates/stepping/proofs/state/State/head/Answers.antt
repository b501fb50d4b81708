use Rattle.std.proofs.Common.{ap, ◌∙◌}
use Rattle.std.specs.List.{slice_get}
use Rattle.rules.specs.States.{Running}
use Rattle.stepping.proofs.Worlds.{at_lent}
use Rattle.stepping.proofs.state.State.head.Goals as goal

pub returns : goal.returns
returns c =
    c.front.ensures.value ∙ ap (λ (r : Running). slice_get r.queue 0) (at_lent c.args.self.now c.args.memory.now c.args.p c.index-self-p.result c.requires.there)
