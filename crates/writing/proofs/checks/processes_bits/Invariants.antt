use Rattle.std.proofs.Common.{◌≡◌, ◌*◌, ◌≤◌, take}
use Rattle.reading.specs.Opening.{processes_bits}
use Rattle.writing.proofs.checks.processes_bits.Given as goal

-- 16 bits, and 16 for each variable and timer, of which a record counts no more than 255
abbrev pub invariant-loop-p : goal.invariant-loop-p
invariant-loop-p g l = record {
  sum : l.bits ≡ processes_bits (take l.p (g.T.Table.lists l.table).processes);
  bound : l.bits ≤ 8192 * l.p;
}
