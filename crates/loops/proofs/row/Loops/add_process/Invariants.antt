use Rattle.std.proofs.Common.{◌≡◌, ◌+◌, ◌*◌, ◌≤◌, ◌++◌}
use Rattle.arrayvec.specs.ArrayVec.{array_vec_len}
use Rattle.loops.specs.Rows.{edges_of, shape, of_process}
use Rattle.marks.specs.Words.{marking}
use Rattle.table.specs.Lists.{meant}
use Rattle.loops.proofs.row.Loops.add_process.Given as goal

abbrev pub invariant-loop-location : goal.invariant-loop-location
invariant-loop-location l =
    (edges_of l.self ≡ edges_of l.initial.self ++ of_process (marking l.marks) l.survey.spots l.survey.chaotic (shape (meant l.process)) l.p l.location)
    × (array_vec_len l.self.items ≤ array_vec_len l.initial.self.items + 17 * l.location)
