use Rattle.std.proofs.Common.{◌∙◌}
use Rattle.marking.proofs.Masks.{unread}
use Rattle.marking.proofs.flow.read_by.Goals as goal

pub returns-in_default : goal.returns-in_default
returns-in_default c = unread c.args.term (λ e. c.in_default.not-Variable (c.does.ensures ∙ e))
