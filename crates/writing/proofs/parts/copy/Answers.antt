use Rattle.std.proofs.Common.{◌+◌, ◌-◌, length, arith}
use Rattle.writing.proofs.Copies.{writes_copy}
use Rattle.writing.proofs.parts.copy.Goals as goal

pub returns : goal.returns
returns c =
    let at = c.args.at in
    let xs = c.args.names.now in
    rw c.copy_from_slice.ensures.after (writes_copy c.args.bytes.now xs at (at + length xs - at) (omega arith) (omega arith) (λ i. omega (arith, c.type_inv.names i)))
