use Rattle.std.proofs.Common.{◌≤◌, length}
use Rattle.loading.specs.Indexing.{Built}
use Rattle.loading.proofs.index.Index.of.Given as goal

-- the index of the edges from k on
abbrev pub invariant-loop-k : goal.invariant-loop-k
invariant-loop-k g l =
    let es = (g.T.Table.lists l.table).edges in
    length es ≤ 2048 → Built l.index.first l.index.next es l.k
