use Rattle.stepping.proofs.Asking.{asked-some}
use Rattle.stepping.proofs.state.State.variable.Goals as goal

pub returns : goal.returns
returns c m =
    let q = asked-some c.args.self.now m c.args.p c.in_ok-local.field-0.now c.in_ok-local.ensures in
    rw q c.variable.ensures
