use Rattle.reasons.proofs.finding.find_flaw.Goals as goal

pub returns-in-Some-find_malformed-clause-holds : goal.returns-in-Some-find_malformed-clause-holds
returns-in-Some-find_malformed-clause-holds g c = c.in-Some-find_malformed.ensures.holds (g.T.Table.lists c.args.table.now)
