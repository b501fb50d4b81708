use Rattle.std.proofs.Common.{w16, sym, ap, ◌∙◌}
use Rattle.std.proofs.lemmas.Int.{to_z-of_z}
use Rattle.table.specs.Expressions.{suits}
use Rattle.table.specs.declared.record.Operation.TheVariants.{Variable}
use Rattle.marking.proofs.Masks.{no-name}
use Rattle.marking.proofs.flow.variable.Goals as goal

pub returns-else-is_variable : goal.returns-else-is_variable
returns-else-is_variable c b h =
    let e = to_z-of_z w16 c.args.number c.ranges.number in
    no-name b c.args.number (ap (suits 8 Variable) (sym e) ∙ sym c.is_variable.ensures ∙ c.if-is_variable.false)
