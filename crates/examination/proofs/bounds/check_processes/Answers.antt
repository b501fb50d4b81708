use Rattle.std.proofs.Common.{◌∙◌, rules}
use Rattle.std.specs.List.{slice_get}
use Rattle.table.specs.Examination.{answer_at, limited, bad_process}
use Rattle.refusal.specs.Refusals.{table_refusal}
use Rattle.examination.proofs.Firsts.{told-at}
use Rattle.examination.proofs.bounds.check_processes.Goals as goal

pub returns : goal.returns
returns g c =
    let T = g.T.Table.lists c.args.table.now in
    let f = limited bad_process in
    c.first_fault.ensures table_refusal (λ i. answer_at f i (slice_get T.processes i)) (λ i r lt k. search rules) ∙ told-at f T.processes c.process_count.result c.process_count.ensures
