use Rattle.std.proofs.Common.{sym, ◌∙◌}
use Rattle.marking.proofs.Touching.{dropped-untouched, others-untouched}
use Rattle.marking.proofs.leads.touched.Goals as goal

pub returns-in-None : goal.returns-in-None
returns-in-None c = record { value = dropped-untouched c.args.edge.now (sym c.does.ensures ∙ c.in-Input.is) (sym c.stored.ensures ∙ c.in-None.is) }

pub returns-in_default : goal.returns-in_default
returns-in_default c =
    let d = c.in_default in
    let e = c.does.ensures in
    record {
      value = others-untouched c.args.edge.now (λ q. d.not-Input (e ∙ q)) (λ q. d.not-Assignment (e ∙ q)) (λ q. d.not-Set (e ∙ q)) (λ q. d.not-Reset (e ∙ q)) (λ q. d.not-Timeout (e ∙ q)) (λ q. d.not-Rearm (e ∙ q));
    }
