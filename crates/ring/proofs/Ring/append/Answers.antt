use Rattle.std.proofs.Common.{arith, rules}
use Rattle.std.proofs.lemmas.Bool.Decides.{nat_tests}
use Rattle.ring.proofs.Held.{held-longer}
use Rattle.ring.proofs.Ring.append.Goals as goal

pub returns : goal.returns
returns g c =
    let h = held-longer c.args.self.now c.args.places.now c.place.result c.args.item (grind (arith, nat_tests)) (grind (arith, nat_tests)) c.place.ensures.value in
    search (rules, nat_tests)
