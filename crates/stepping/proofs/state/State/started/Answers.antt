use Rattle.std.proofs.Common.{◌≤◌, arith}
use Rattle.stepping.proofs.Limits.{is_limited}
use Rattle.stepping.proofs.Starting.{world-started}
use Rattle.stepping.proofs.state.State.started.Goals as goal

pub invariant_of-result : goal.invariant_of-result
invariant_of-result g c = record { few = omega (arith, (is_limited (g.T.Table.lists c.args.table.now) c.requires).processes, c.process_count.ensures); places = c.all_begun.ensures.length }

pub returns : goal.returns
returns g c =
    let T = g.T.Table.lists c.args.table.now in
    let few : c.process_count.result ≤ 8 = omega (arith, (is_limited T c.requires).processes, c.process_count.ensures) in
    record {
      world = λ m. world-started T c.process_count.result c.all_begun.result m few c.all_begun.ensures.length c.process_count.ensures c.all_begun.ensures.each;
      places = c.all_begun.ensures.each;
    }
