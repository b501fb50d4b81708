use Rattle.std.proofs.Common.{◌≡◌, ◌+◌, ◌*◌, ◌≤◌, ◌++◌}
use Rattle.arrayvec.specs.ArrayVec.{array_vec_len}
use Rattle.loops.specs.Rows.{edges_of, spot_timers}
use Rattle.marks.specs.Words.{marking}
use Rattle.loops.proofs.row.Loops.add_timers.Given as goal

abbrev pub invariant-loop-timer : goal.invariant-loop-timer
invariant-loop-timer l =
    (edges_of l.self ≡ edges_of l.initial.self ++ spot_timers (marking l.marks) l.spot l.place.process l.place.location l.timer)
    × (array_vec_len l.self.items ≤ array_vec_len l.initial.self.items + 2 * l.timer)
