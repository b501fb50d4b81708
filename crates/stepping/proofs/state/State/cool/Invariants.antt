use Rattle.std.proofs.Common.{◌≡◌, List}
use Rattle.rules.specs.declared.step.Message.{Message}
use Rattle.stepping.specs.Worlds.{beyond, world_of}
use Rattle.stepping.proofs.Cooling.{ticked_to}
use Rattle.stepping.proofs.state.State.cool.Given as goal

abbrev pub invariant-loop-p : goal.invariant-loop-p
invariant-loop-p g l = record {
  world : (m : List Message) → world_of l.self m ≡ ticked_to (g.T.Table.lists l.table) l.p (world_of l.fn.self m);
  count : l.self.count ≡ l.fn.self.count;
  beyond : beyond l.self ≡ beyond l.fn.self;
}
