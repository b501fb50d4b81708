use Rattle.std.proofs.Common.{rules, sym}
use Rattle.sealing.proofs.summary.push_parts.Goals as goal

pub returns : goal.returns
returns g c = rw (sym c.process_count-processes.ensures, sym c.signal_count-signals.ensures) (search rules)
