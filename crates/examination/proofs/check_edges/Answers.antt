use Rattle.std.proofs.Common.{◌∙◌, rules}
use Rattle.std.specs.List.{slice_get}
use Rattle.table.specs.Examination.{answer_at, edge_refused}
use Rattle.refusal.specs.Refusals.{table_refusal}
use Rattle.examination.proofs.Firsts.{told-at}
use Rattle.examination.proofs.check_edges.Goals as goal

pub returns : goal.returns
returns g c =
    let T = g.T.Table.lists c.args.table.now in
    let f = edge_refused T in
    c.first_fault.ensures table_refusal (λ i. answer_at f i (slice_get T.edges i)) (λ i r lt k. search rules) ∙ told-at f T.edges c.edge_count.result c.edge_count.ensures
