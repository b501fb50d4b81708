use Rattle.marks.specs.Words.{marking}
use Rattle.std.proofs.Common.{rules}
use Rattle.sheet.specs.Views.{opened_of}
use Rattle.bridge.proofs.judging.mark_count.Goals as goal

pub returns-in-Ok : goal.returns-in-Ok
unfolding opened_of
returns-in-Ok c =
    let h = c.in-Ok.ensures in
    rw (← h.refused) (opened_of c.in-Ok.field-0-0, h.opens, marking c.in-Ok.marks, h.least, search rules)
