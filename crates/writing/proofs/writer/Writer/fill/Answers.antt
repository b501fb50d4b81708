use Rattle.writing.proofs.Joins.{writes_fill}
use Rattle.writing.proofs.writer.Writer.fill.Goals as goal

pub returns-clause-writes : goal.returns-clause-writes
returns-clause-writes c = writes_fill c.put.ensures.writes
