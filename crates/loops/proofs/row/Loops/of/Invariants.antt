use Rattle.std.proofs.Common.{◌≡◌, ◌*◌, ◌≤◌}
use Rattle.arrayvec.specs.ArrayVec.{array_vec_len}
use Rattle.loops.specs.Rows.{edges_of, added_by}
use Rattle.marks.specs.Words.{marking}
use Rattle.loops.proofs.row.Loops.of.Given as goal

abbrev pub invariant-loop-p : goal.invariant-loop-p
invariant-loop-p g l =
    (edges_of l.loops ≡ added_by (marking l.marks) l.survey.spots l.survey.chaotic (g.T.Table.lists l.table).processes l.p)
    × (array_vec_len l.loops.items ≤ 272 * l.p)
