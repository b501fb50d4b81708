use Rattle.std.proofs.Common.{◌≡◌, false, cond, is_ok, sym, ap, ◌∙◌, SFits, w16, rules}
use Rattle.std.proofs.lemmas.Int.{to_z-of_z}
use Rattle.rules.specs.States.{World, goal}
use Rattle.rules.specs.Steps.{sends, move_effect}
use Rattle.stepping.specs.Worlds.{world_of}
use Rattle.stepping.proofs.Limits.{standing, has-places}
use Rattle.stepping.proofs.Moves.{enabled-there, sends-receives, sent_effect, kept-effect}
use Rattle.stepping.proofs.state.State.go.Goals as goal
use Rattle.table.proofs.Passing.{cond-none}

pub value-value-requires-clause-there : goal.value-value-requires-clause-there
value-value-requires-clause-there g c = enabled-there (g.T.Table.lists c.args.table.now) c.args.self.now c.args.memory.now c.requires.standing c.args.edge.now c.requires.enabled

pub value-value-requires-clause-limits : goal.value-value-requires-clause-limits
value-value-requires-clause-limits g c = (standing (g.T.Table.lists c.args.table.now) (world_of c.args.self.now c.args.memory.now) c.requires.standing).limits

pub send-requires-clause-from : goal.send-requires-clause-from
send-requires-clause-from g c = enabled-there (g.T.Table.lists c.args.table.now) c.args.self.now c.args.memory.now c.requires.standing c.args.edge.now c.requires.enabled

pub send-requires-clause-to : goal.send-requires-clause-to
send-requires-clause-to g c =
    let r = sends-receives (g.T.Table.lists c.args.table.now) c.args.self.now c.args.memory.now c.requires.standing c.args.edge.now c.in-Some.p c.in-Some.ensures in
    r.there

pub send-requires-clause-places : goal.send-requires-clause-places
send-requires-clause-places g c = has-places (g.T.Table.lists c.args.table.now) c.args.self.now c.args.memory.now c.requires.standing

pub follow-requires-clause-there : goal.follow-requires-clause-there
follow-requires-clause-there g c = enabled-there (g.T.Table.lists c.args.table.now) c.args.self.now c.args.memory.now c.requires.standing c.args.edge.now c.requires.enabled

pub follow-requires-clause-room : goal.follow-requires-clause-room
follow-requires-clause-room g c =
    let T = g.T.Table.lists c.args.table.now in
    has-places T c.args.self.now c.args.memory.now c.requires.standing c.args.edge.now.process (enabled-there T c.args.self.now c.args.memory.now c.requires.standing c.args.edge.now c.requires.enabled)

pub returns-in-Some-clause-world : goal.returns-in-Some-clause-world
returns-in-Some-clause-world g c =
    let T = g.T.Table.lists c.args.table.now in
    let e = c.args.edge.now in
    let W = world_of c.args.self.now c.args.memory.now in
    let r = sends-receives T c.args.self.now c.args.memory.now c.requires.standing e c.in-Some.p c.in-Some.ensures in
    let f : SFits w16 c.value-value.result = search rules in
    let is = to_z-of_z w16 c.value-value.result f ∙ c.value-value.ensures c.args.memory.now in
    let x = sent_effect T W e _ is c.in-Some.p r.joins r.goal in
    c.send.ensures.world
    ∙ ap (λ (V : World). cond (is_ok c.send.result) V W) x
    ∙ ap (λ b. cond b (move_effect T W e) W) (sym c.map.ensures.variant)

pub returns-clause-world : goal.returns-clause-world
returns-clause-world g c =
    let T = g.T.Table.lists c.args.table.now in
    let e = c.args.edge.now in
    let W = world_of c.args.self.now c.args.memory.now in
    let out : sends T e ≡ false = cond-none (sends T e) (goal T e.first) (sym c.in_default.ensures) in
    let f : SFits w16 c.value-value.result = search rules in
    c.follow.ensures.world ∙ kept-effect T W e _ (to_z-of_z w16 c.value-value.result f ∙ c.value-value.ensures c.args.memory.now) out
