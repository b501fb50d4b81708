use Rattle.std.proofs.Common.{Ok, sym, ap}
use Rattle.std.specs.Result.{result_map_both}
use Rattle.closing.proofs.Fitting.{tests_measured}
use Rattle.closing.specs.Faults.{test_refusal}
use Rattle.closing.proofs.test.test.Goals as goal

pub returns : goal.returns
returns g c =
    tests_measured (g.T.Table.lists c.args.table.now) c.measure.result (Ok c.in_ok-edges.edges) c.measure.ensures (ap (result_map_both (λ x. x.1) test_refusal) (sym c.in_ok-edges.was))
