use Rattle.std.proofs.Common.{get_or, ap, sym, ◌∙◌}
use Rattle.rules.specs.States.{Running, due}
use Rattle.stepping.proofs.Worlds.{at-world_of}
use Rattle.table.specs.declared.record.Timer.TheVariants.{Off}
use Rattle.stepping.proofs.state.State.is_due.Goals as goal

pub returns : goal.returns
returns c m =
    c.is_due.ensures ∙ ap (λ (r : Running). due (get_or r.timers c.args.timer Off)) (sym (at-world_of c.args.self.now m c.args.p c.index-self-p.result c.requires))
