use Rattle.std.proofs.Common.{rules}
use Rattle.stepping.proofs.start.all_begun.Goals as goal

pub returns-clause-each : goal.returns-clause-each
returns-clause-each g c p d ps h = let w = c.from_fn.ensures.items.at p d h in search (rules, w.2)
