use Rattle.std.proofs.Common.{Some, ap, sym, ◌∙◌}
use Rattle.ring.proofs.Slots.{length-slot}
use Rattle.ring.specs.Slots.{slot}
use Rattle.stepping.proofs.Asking.{asked-some}
use Rattle.stepping.proofs.Worlds.{length-queue}
use Rattle.stepping.proofs.state.State.message_count.Goals as goal

pub returns : goal.returns
returns c m room =
    let l = c.in_ok-local.field-0.now in
    let q = asked-some c.args.self.now m c.args.p l c.in_ok-local.ensures in
    rw q (ap (λ n. Some n) (c.len.ensures.value ∙ sym (length-queue l (slot 16 c.args.p m) (length-slot 16 c.args.p m room))))
