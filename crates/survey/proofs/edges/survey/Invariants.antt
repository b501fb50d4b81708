use Rattle.std.proofs.Common.{take}
use Rattle.marks.specs.Words.{marking}
use Rattle.survey.specs.Surveys.{Surveyed}
use Rattle.survey.proofs.edges.survey.Given as goal

abbrev pub invariant-loop-k : goal.invariant-loop-k
invariant-loop-k g l =
    Surveyed (g.T.Table.lists l.table) (marking l.marks) (take l.k (g.T.Table.lists l.table).edges) l.seen.spots l.seen.chaotic
