use Rattle.std.proofs.Common.{arith}
use Rattle.std.proofs.lemmas.Bool.Decides.{nat_tests}
use Rattle.stepping.proofs.Worlds.{length-queue}
use Rattle.stepping.proofs.state.Local.receive.Goals as goal

pub prove-unreachable-requires : goal.prove-unreachable-requires
prove-unreachable-requires c =
    let l = c.args.self.now in
    let n = length-queue l c.args.places.now c.requires.places in
    let f = l.queue_places in
    grind (arith, nat_tests)
