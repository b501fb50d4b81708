use Rattle.std.proofs.Common.{arith}
use Rattle.loading.proofs.Chaining.{input_chained, unknown_chained}
use Rattle.loading.proofs.index.Inputs.link.Goals as goal

pub returns-then-signal-lt-SIGNALS : goal.returns-then-signal-lt-SIGNALS
returns-then-signal-lt-SIGNALS c es e there takes so =
    let i = c.args.self.now in
    input_chained i.first i.next es c.args.k e there so c.args.signal takes c.if-signal-lt-SIGNALS.true i.first_places (omega (arith, i.next_places, c.requires))

pub returns-else-signal-lt-SIGNALS : goal.returns-else-signal-lt-SIGNALS
returns-else-signal-lt-SIGNALS c es e there takes so =
    let i = c.args.self.now in
    unknown_chained i.first i.next es c.args.k e there so c.args.signal takes c.if-signal-lt-SIGNALS.false
