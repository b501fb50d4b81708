use Rattle.std.proofs.Common.{inl, ap, ◌∙◌}
use Rattle.bridge.proofs.Sealings.{in-front, not-closed, only-refused}
use Rattle.bridge.specs.Codes.{packed}
use Rattle.bridge.proofs.closed.close.Goals as goal

pub returns-in-Ok-clause-sealing : goal.returns-in-Ok-clause-sealing
returns-in-Ok-clause-sealing c =
    let h = c.in-Ok.ensures.sealed in
    inl (h.0, h.1, (h.2, in-front h.0 c.args.out.now c.seal_into.new.output h.3))

pub returns-in-Ok-clause-told : goal.returns-in-Ok-clause-told
returns-in-Ok-clause-told c r k = absurd (not-closed c.seal_into.result c.in-Ok.size r c.in-Ok.is (c.seal_into.ensures.told r k))

pub returns-in-Err-clause-told : goal.returns-in-Err-clause-told
returns-in-Err-clause-told c r k =
    c.packed.ensures.value ∙ ap packed (only-refused c.seal_into.result c.in-Err.refusal r c.in-Err.is (c.seal_into.ensures.told r k))
