use Rattle.std.proofs.Common.{take}
use Rattle.table.specs.Examination.{acts, waits, frees}
use Rattle.examination.specs.Locations.{Raised}
use Rattle.examination.proofs.location.Ways.of.Given as goal

-- the edges so far
abbrev pub invariant-loop-k : goal.invariant-loop-k
invariant-loop-k g l =
    let es = take l.k (g.T.Table.lists l.table).edges in
    Raised l.found.acting.flags acts es × Raised l.found.waiting.flags waits es × Raised l.found.free.flags frees es
