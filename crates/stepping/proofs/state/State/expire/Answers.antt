use Rattle.std.proofs.Common.{arith}
use Rattle.std.proofs.lemmas.Bool.Decides.{nat_tests}
use Rattle.rules.specs.Steps.{call_refused}
use Rattle.stepping.proofs.Limits.{same-count}
use Rattle.stepping.proofs.state.State.expire.Goals as goal

pub returns-then-p-self-clause-refused : goal.returns-then-p-self-clause-refused
unfolding call_refused
returns-then-p-self-clause-refused g c =
    let n = same-count (g.T.Table.lists c.args.table.now) c.args.self.now c.args.memory.now c.requires in
    grind (arith, nat_tests)

pub returns-then-timer-from-clause-refused : goal.returns-then-timer-from-clause-refused
unfolding call_refused
returns-then-timer-from-clause-refused g c =
    let n = same-count (g.T.Table.lists c.args.table.now) c.args.self.now c.args.memory.now c.requires in
    grind (arith, nat_tests)
