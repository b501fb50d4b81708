use Rattle.std.proofs.Common.{◌||◌, not, ap, ◌∙◌, rules}
use Rattle.rules.specs.States.{handles}
use Rattle.table.specs.Examination.{acts}
use Rattle.stepping.proofs.Leaving.{waiting_and_none}
use Rattle.stepping.proofs.conditions.waits_without_timeout.Goals as goal

pub returns : goal.returns
returns g c =
    let T = g.T.Table.lists c.args.table.now in
    let s = c.args.site in
    ap not (c.any_leaving.ensures (λ e. acts e || handles c.args.timer e) (λ e b k. search rules)) ∙ waiting_and_none T (handles c.args.timer) s.process s.location
