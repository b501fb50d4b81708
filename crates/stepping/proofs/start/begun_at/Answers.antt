use Rattle.stepping.proofs.Limits.{timers_within, variables_within}
use Rattle.stepping.proofs.start.begun_at.Goals as goal

pub begun-requires-clause-variables : goal.begun-requires-clause-variables
begun-requires-clause-variables g c = variables_within (g.T.Table.lists c.args.table.now) c.args.p c.process_or_blank.result c.requires c.process_or_blank.ensures

pub begun-requires-clause-timers : goal.begun-requires-clause-timers
begun-requires-clause-timers g c = timers_within (g.T.Table.lists c.args.table.now) c.args.p c.process_or_blank.result c.requires c.process_or_blank.ensures
