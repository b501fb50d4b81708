use Rattle.std.proofs.Common.{◌||◌, not, ap, ◌∙◌, rules}
use Rattle.rules.specs.States.{takes_signal}
use Rattle.table.specs.Examination.{acts}
use Rattle.stepping.proofs.Leaving.{waiting_and_none}
use Rattle.stepping.proofs.conditions.waits_without_input.Goals as goal

pub returns : goal.returns
returns g c =
    let T = g.T.Table.lists c.args.table.now in
    let s = c.args.site in
    ap not (c.any_leaving.ensures (λ e. acts e || takes_signal c.args.signal e) (λ e b k. search rules)) ∙ waiting_and_none T (takes_signal c.args.signal) s.process s.location
