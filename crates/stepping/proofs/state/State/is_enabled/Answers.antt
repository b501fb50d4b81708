use Rattle.std.proofs.Common.{◌≡◌, None, is_some, sym}
use Rattle.std.proofs.lemmas.Bool.{not-true}
use Rattle.rules.proofs.Lists.{is_some-none}
use Rattle.stepping.specs.Worlds.{world_of}
use Rattle.stepping.proofs.Limits.{standing, has-places, edge-there}
use Rattle.table.specs.Edges.{edge_fault}
use Rattle.stepping.proofs.state.State.is_enabled.Goals as goal

pub is_ready-requires-clause-there : goal.is_ready-requires-clause-there
is_ready-requires-clause-there g c =
    let T = g.T.Table.lists c.args.table.now in
    let f : edge_fault T c.args.edge.now ≡ None = is_some-none _ (not-true (is_some (edge_fault T c.args.edge.now)) (sym c.if-is_sound.ensures)) in
    edge-there T c.args.self.now c.args.memory.now c.requires c.args.edge.now f

pub is_ready-requires-clause-places : goal.is_ready-requires-clause-places
is_ready-requires-clause-places g c =
    let T = g.T.Table.lists c.args.table.now in
    let f : edge_fault T c.args.edge.now ≡ None = is_some-none _ (not-true (is_some (edge_fault T c.args.edge.now)) (sym c.if-is_sound.ensures)) in
    has-places T c.args.self.now c.args.memory.now c.requires c.args.edge.now.process (edge-there T c.args.self.now c.args.memory.now c.requires c.args.edge.now f)

pub is_ready-requires-clause-limits : goal.is_ready-requires-clause-limits
is_ready-requires-clause-limits g c = (standing (g.T.Table.lists c.args.table.now) (world_of c.args.self.now c.args.memory.now) c.requires).limits
