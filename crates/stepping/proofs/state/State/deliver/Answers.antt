use Rattle.std.proofs.Common.{◌<◌, length, sym, subst, arith}
use Rattle.std.proofs.lemmas.Bool.{leb-false}
use Rattle.rules.specs.States.{Running, at}
use Rattle.rules.specs.Steps.{received, deliver}
use Rattle.stepping.specs.Worlds.{world_of}
use Rattle.stepping.proofs.Worlds.{at_lent, world-written, drop-written}
use Rattle.stepping.proofs.state.State.deliver.Goals as goal

pub receive-requires-clause-room : goal.receive-requires-clause-room
receive-requires-clause-room c =
    let s = c.args.self.now in
    let m = c.args.memory.now in
    let p = c.args.p in
    let here = at_lent s m p c.index-self-p.result c.requires.there in
    let room : length (at (world_of s m) p).queue < 16 = leb-false 16 (length (at (world_of s m) p).queue) c.requires.room in
    subst (λ (r : Running). length r.queue < 16) (sym here) room

pub returns-clause-world : goal.returns-clause-world
unfolding deliver
returns-clause-world c =
    let s = c.args.self.now in
    world-written s c.args.memory.now c.args.p c.index-self-p.result c.requires.there c.receive.new.self (received c.args.message) c.receive.new.places c.requires.places (omega arith) c.receive.ensures

pub returns-clause-after : goal.returns-clause-after
returns-clause-after c =
    drop-written c.args.p c.args.self.now.count c.args.memory.now c.receive.new.places c.requires.there c.requires.places (omega arith)
