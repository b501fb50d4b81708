use Rattle.std.proofs.Common.{sym, ◌∙◌}
use Rattle.loading.proofs.Chaining.{passed_chained, taken_own}
use Rattle.loading.proofs.index.Inputs.put.Goals as goal

pub returns-in-Input : goal.returns-in-Input
returns-in-Input c es there so = c.link.ensures es c.args.edge.now there (taken_own c.args.edge.now c.into.result c.into.ensures (sym c.does.ensures ∙ c.in-Input.is)) so

pub returns-in_default : goal.returns-in_default
returns-in_default c es there so = passed_chained c.args.self.now.first c.args.self.now.next es c.args.k c.args.edge.now (λ q. c.in_default.not-Input (c.does.ensures ∙ q)) there so
