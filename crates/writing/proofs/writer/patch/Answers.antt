use Rattle.std.proofs.Common.{arith}
use Rattle.writing.proofs.Windows.{shifted}
use Rattle.writing.proofs.writer.patch.Goals as goal

pub overflow_add-result : goal.overflow_add-result
overflow_add-result c =
    let s = shifted c.args.window c.args.below c.args.width c.args.value _ c.from.ensures (omega arith) (omega arith) (omega arith) in
    omega arith

pub overflow_add-result-2 : goal.overflow_add-result-2
overflow_add-result-2 c =
    let s = shifted c.args.window c.args.below c.args.width c.args.value _ c.from.ensures (omega arith) (omega arith) (omega arith) in
    omega arith

pub returns : goal.returns
returns c =
    let s = shifted c.args.window c.args.below c.args.width c.args.value _ c.from.ensures (omega arith) (omega arith) (omega arith) in
    record { value = s.0; bound = s.1 }
