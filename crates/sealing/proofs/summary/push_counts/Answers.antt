use Rattle.std.proofs.Common.{rules, sym}
use Rattle.sealing.proofs.summary.push_counts.Goals as goal

pub returns : goal.returns
returns g c = rw (sym c.edge_count-before.ensures, sym c.edge_count-after.ensures) (search rules)
