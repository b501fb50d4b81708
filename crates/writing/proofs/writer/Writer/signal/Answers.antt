use Rattle.writing.proofs.Joins.{writes_join}
use Rattle.writing.proofs.Rows.{signal-writes}
use Rattle.writing.proofs.writer.Writer.signal.Goals as goal

pub returns-clause-writes : goal.returns-clause-writes
returns-clause-writes c n = rw (signal-writes n c.args.signal) (writes_join c.put.ensures.writes c.put-2.ensures.writes)
