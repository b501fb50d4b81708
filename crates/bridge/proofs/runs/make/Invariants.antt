use Rattle.std.proofs.Common.{◌≡◌, length}
use Rattle.bridge.specs.Laid.{laid, spelled}
use Rattle.bridge.specs.Traces.{answers, ends}
use Rattle.stepping.specs.Worlds.{world_of}
use Rattle.bridge.proofs.runs.make.Given as goal

abbrev pub invariant-loop-i : goal.invariant-loop-i
invariant-loop-i g l = record {
  world : world_of l.state l.memory ≡ ends (g.T.Table.lists l.table) (world_of l.fn.state l.fn.memory) l.steps l.i;
  out : l.out ≡ laid (spelled (answers (g.T.Table.lists l.table) (world_of l.fn.state l.fn.memory) l.steps l.i)) l.fn.out;
  length : length l.out ≡ length l.fn.out;
}
