use Rattle.std.proofs.Common.{not, ap, ◌∙◌}
use Rattle.marking.proofs.Masks.{bit-not}
use Rattle.marking.proofs.flow.Flow.of.Goals as goal

pub returns : goal.returns
returns g c = record {
  to = c.site_at_end.ensures;
  kept = λ b h. bit-not c.touched.result b c.touched.type_inv h ∙ ap not (c.touched.ensures.value b h);
  read = c.mentioned.ensures;
  fed = c.fed.ensures;
  stored = c.received.ensures;
}
