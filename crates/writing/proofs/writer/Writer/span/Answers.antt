use Rattle.reading.specs.Layout.{span_format}
use Rattle.writing.proofs.Joins.{writes_join}
use Rattle.writing.proofs.writer.Writer.span.Goals as goal

pub returns-clause-writes : goal.returns-clause-writes
unfolding span_format
returns-clause-writes c = writes_join c.put.ensures.writes c.put-2.ensures.writes
