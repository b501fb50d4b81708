use Rattle.std.proofs.Common.{◌≡◌, ◌<◌}
use Rattle.bridge.specs.Sums.{sum_to}
use Rattle.bridge.proofs.closed.checksum.Given as goal

abbrev pub invariant-loop-k : goal.invariant-loop-k
invariant-loop-k g l = record {
  value : l.sum ≡ sum_to (g.T.Table.lists l.table).edges l.k;
  bound : l.sum < 144115188075855859;
}
