use Rattle.reading.specs.Layout.{header_format}
use Rattle.writing.proofs.Joins.{writes_join}
use Rattle.writing.proofs.writer.Writer.header.Goals as goal

pub returns-clause-writes : goal.returns-clause-writes
unfolding header_format
returns-clause-writes c =
    writes_join c.put.ensures.writes (writes_join c.put-2.ensures.writes (writes_join c.put-3.ensures.writes (writes_join c.put-4.ensures.writes c.put-5.ensures.writes)))
