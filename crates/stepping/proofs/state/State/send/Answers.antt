use Rattle.std.proofs.Common.{◌<◌, Some, None, cond, length, ap, sym, ◌∙◌, arith}
use Rattle.rules.specs.States.{World, at}
use Rattle.rules.specs.Steps.{full, state_at}
use Rattle.stepping.specs.Worlds.{world_of}
use Rattle.stepping.proofs.Moves.{full-put, output-queue}
use Rattle.stepping.proofs.Worlds.{length-world_of}
use Rattle.stepping.proofs.state.State.send.Goals as goal

pub deliver-requires-clause-room : goal.deliver-requires-clause-room
deliver-requires-clause-room c =
    let W = world_of c.args.self.now c.args.memory.now in
    let e = c.args.edge.now in
    let here : e.process < length W.processes = omega (arith, length-world_of c.args.self.now c.args.memory.now, c.requires.from) in
    ap (λ (V : World). full V c.args.p) c.follow.ensures.world
    ∙ full-put W e.process c.args.p _ here (output-queue _ _ e (at W e.process) c.requires.kind)
    ∙ sym (c.if-is_full.ensures c.args.memory.now (c.requires.places c.args.p c.requires.to))

pub returns-clause-refused : goal.returns-clause-refused
returns-clause-refused c =
    ap (λ b. cond b (Some (state_at 21 c.args.p)) None) (c.if-is_full.ensures c.args.memory.now (c.requires.places c.args.p c.requires.to))
