use Rattle.reasons.proofs.expression.depth_after.Goals as goal

pub returns-in-Some-clause-holds : goal.returns-in-Some-clause-holds
returns-in-Some-clause-holds c = c.in-Some.ensures.holds c.args.depth
