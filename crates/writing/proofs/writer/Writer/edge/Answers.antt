use Rattle.reading.specs.Layout.{edge_format, span_format}
use Rattle.writing.proofs.Joins.{writes_join}
use Rattle.writing.proofs.writer.Writer.edge.Goals as goal

pub returns-clause-writes : goal.returns-clause-writes
unfolding edge_format span_format
returns-clause-writes c =
    writes_join c.put.ensures.writes (writes_join c.put-2.ensures.writes (writes_join c.put-3.ensures.writes (writes_join c.put-4.ensures.writes (writes_join c.put-5.ensures.writes (writes_join c.put-6.ensures.writes (writes_join c.put-7.ensures.writes (writes_join c.span.ensures.writes c.span-2.ensures.writes)))))))
