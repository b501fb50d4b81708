use Rattle.std.proofs.Common.{◌≡◌, suc, ◌+◌, refl, ap, ◌∙◌, arith}
use Rattle.bridge.specs.Sums.{joined, sum_to}
use Rattle.bridge.proofs.closed.checksum.Goals as goal

pub loop-k-init : goal.loop-k-init
unfolding sum_to
loop-k-init g c = record { value = refl; bound = omega arith }

pub loop-k-preserved : goal.loop-k-preserved
unfolding sum_to
loop-k-preserved g c =
    let e : c.loop-k.k + 1 ≡ suc c.loop-k.k = omega arith in
    record {
      value = rw e (c.joined-sum.ensures.value ∙ ap (λ s. joined s c.edge.result) c.loop-k.invariant.value ∙ ap (λ o. joined (sum_to (g.T.Table.lists c.args.table.now).edges c.loop-k.k) o) c.edge.ensures);
      bound = c.joined-sum.ensures.bound;
    }
