use Rattle.std.proofs.Common.{◌+◌, ◌*◌, ◌<◌, ◌≤◌, length, arith, w16, SFits, rules}
use Rattle.std.proofs.lemmas.Int.{to_z-of_z}
use Rattle.ring.proofs.Slots.{slot-unwritten}
use Rattle.rules.specs.Steps.{moved}
use Rattle.stepping.proofs.Worlds.{world-written}
use Rattle.table.specs.Records.{kind_of}
use Rattle.stepping.proofs.state.State.follow.Goals as goal

pub returns-clause-world : goal.returns-clause-world
returns-clause-world c =
    let s = c.args.self.now in
    let e = c.args.edge.now in
    let f : SFits w16 c.args.value = search rules in
    let here : c.from-p.result < s.count = omega (arith, c.from-p.ensures) in
    let room : 16 * c.from-p.result + 16 ≤ length c.args.memory.now = omega (arith, c.from-p.ensures) in
    let is = rw (to_z-of_z w16 c.args.value f) at c.follow.ensures.process in
    let w = world-written s c.args.memory.now c.from-p.result c.index-self-p.result here c.follow.new.self (moved (kind_of e.kind) c.args.value e) c.follow.new.places room (omega arith) is in
    rw c.from-p.ensures (rw c.from-p.ensures at w)

pub returns-clause-memory : goal.returns-clause-memory
returns-clause-memory c = slot-unwritten 16 c.from-p.result c.args.memory.now c.follow.new.places c.follow.ensures.places
