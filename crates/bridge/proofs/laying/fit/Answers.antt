use Rattle.std.proofs.Common.{[], refl, sym, ◌∙◌}
use Rattle.bridge.proofs.Overlays.{fitted-room, laid-none}
use Rattle.bridge.proofs.laying.fit.Goals as goal

pub returns-then-bytes-out-clause-fitted : goal.returns-then-bytes-out-clause-fitted
returns-then-bytes-out-clause-fitted c =
    c.put.ensures.laid [] c.args.out.now refl (laid-none c.args.out.now) ∙ sym (fitted-room c.args.bytes.now c.args.out.now c.if-bytes-out.true)
