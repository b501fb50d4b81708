use Rattle.std.proofs.Common.{◌≤◌, length}
use Rattle.loading.specs.Indexing.{Chained}
use Rattle.loading.proofs.index.Inputs.of.Given as goal

-- the index of the inputs from k on
abbrev pub invariant-loop-k : goal.invariant-loop-k
invariant-loop-k g l =
    let es = (g.T.Table.lists l.table).edges in
    length es ≤ 2048 → Chained l.inputs.first l.inputs.next es l.k
