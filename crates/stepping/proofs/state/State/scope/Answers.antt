use Rattle.std.proofs.Common.{take, ap, sym, ◌∙◌}
use Rattle.rules.specs.States.{Running, at}
use Rattle.stepping.specs.Worlds.{world_of}
use Rattle.stepping.proofs.Limits.{variables_within}
use Rattle.stepping.proofs.Worlds.{at-world_of}
use Rattle.table.specs.Lists.{Proc}
use Rattle.stepping.proofs.state.State.scope.Goals as goal

pub scope-requires : goal.scope-requires
scope-requires g c = variables_within (g.T.Table.lists c.args.table.now) c.args.p c.process_or_blank-count.result c.requires.limits c.process_or_blank-count.ensures

pub returns : goal.returns
returns g c m =
    c.scope.ensures
    ∙ ap (λ (r : Running). take c.process_or_blank-count.result.variables r.variables) (sym (at-world_of c.args.self.now m c.args.p c.index-self-p.result c.requires.there))
    ∙ ap (λ n. take n (at (world_of c.args.self.now m) c.args.p).variables) (ap (λ (r : Proc). r.variables) c.process_or_blank-count.ensures)
