use Rattle.reading.specs.Layout.{timer_format}
use Rattle.writing.proofs.Joins.{writes_join}
use Rattle.writing.proofs.writer.Writer.timer.Goals as goal
use Rattle.writing.proofs.writer.Writer.timer.Goals.{in-Off, in-On}

pub returns-clause-writes : goal.returns-clause-writes
unfolding timer_format
returns-clause-writes c =
    let h = writes_join c.put.ensures.writes c.put-2.ensures.writes in
    elim c.match-timer.branch [
      | in-Off w ↦ rw w.in-Off.is (rw w.on-is at h)
      | in-On w ↦ rw w.in-On.is (rw w.on-is at h)
    ]
