use Rattle.std.proofs.Common.{sym, arith}
use Rattle.std.proofs.lemmas.Bool.Decides.{nat_tests}
use Rattle.ring.proofs.Held.{held_at, held_past}
use Rattle.ring.proofs.Ring.get.Goals as goal

pub returns-then-i-self-clause-value : goal.returns-then-i-self-clause-value
returns-then-i-self-clause-value g c =
    sym (held_at c.args.self.now c.args.places.now c.args.i c.index-places-place.result (grind (arith, nat_tests)) c.if-i-self.true (grind (arith, nat_tests)))

pub returns-else-fits-clause-value : goal.returns-else-fits-clause-value
returns-else-fits-clause-value g c =
    sym (held_past c.args.self.now c.args.places.now c.args.i (grind (arith, nat_tests)))
