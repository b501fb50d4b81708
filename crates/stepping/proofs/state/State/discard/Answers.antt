use Rattle.std.proofs.Common.{arith}
use Rattle.std.proofs.lemmas.Bool.Decides.{nat_tests}
use Rattle.rules.specs.Steps.{call_refused}
use Rattle.stepping.proofs.Limits.{has-places, same-count}
use Rattle.stepping.proofs.state.State.discard.Goals as goal

pub returns-then-p-self-clause-refused : goal.returns-then-p-self-clause-refused
unfolding call_refused
returns-then-p-self-clause-refused g c =
    let n = same-count (g.T.Table.lists c.args.table.now) c.args.self.now c.args.memory.now c.requires in
    grind (arith, nat_tests)

pub can_discard-requires-clause-places : goal.can_discard-requires-clause-places
can_discard-requires-clause-places g c = has-places (g.T.Table.lists c.args.table.now) c.args.self.now c.args.memory.now c.requires c.from-p.result c.if-p-self.false

pub pop-requires-clause-room : goal.pop-requires-clause-room
pop-requires-clause-room g c = has-places (g.T.Table.lists c.args.table.now) c.args.self.now c.args.memory.now c.requires c.from-p.result c.if-p-self.false

pub returns-then-not-can_discard-clause-refused : goal.returns-then-not-can_discard-clause-refused
unfolding call_refused
returns-then-not-can_discard-clause-refused g c =
    let n = same-count (g.T.Table.lists c.args.table.now) c.args.self.now c.args.memory.now c.requires in
    grind (arith, nat_tests)

pub returns-clause-refused : goal.returns-clause-refused
unfolding call_refused
returns-clause-refused g c =
    let n = same-count (g.T.Table.lists c.args.table.now) c.args.self.now c.args.memory.now c.requires in
    grind (arith, nat_tests)
