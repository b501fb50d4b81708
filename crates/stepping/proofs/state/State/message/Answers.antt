use Rattle.std.proofs.Common.{◌≡◌, false, length, ap, ◌∙◌, arith}
use Rattle.std.proofs.lemmas.Bool.Decides.{nat_tests}
use Rattle.std.specs.List.{slice_get}
use Rattle.ring.specs.Queue.{held}
use Rattle.ring.proofs.Slots.{slot_lent}
use Rattle.rules.specs.States.{lacking}
use Rattle.stepping.proofs.Asking.{asked-some}
use Rattle.stepping.proofs.state.State.message.Goals as goal

pub returns : goal.returns
returns c =
    let l = c.in_ok-local.local.now in
    let m = c.args.memory.now in
    let q = asked-some c.args.self.now m c.args.p l c.in_ok-local.ensures in
    let e : lacking (length m) c.args.p ≡ false = grind (arith, nat_tests) in
    rw (e, q) (c.get.ensures.value ∙ ap (λ ps. slice_get (held l.queue ps) c.args.i) (slot_lent 16 c.args.p m))
