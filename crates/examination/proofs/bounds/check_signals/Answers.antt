use Rattle.std.proofs.Common.{length, ◌∙◌, rules}
use Rattle.std.specs.List.{slice_get}
use Rattle.table.specs.Examination.{answer_at, limited, bad_signal}
use Rattle.refusal.specs.Refusals.{table_refusal}
use Rattle.examination.proofs.Firsts.{told-at}
use Rattle.examination.proofs.bounds.check_signals.Goals as goal

pub returns : goal.returns
returns g c =
    let T = g.T.Table.lists c.args.table.now in
    let f = limited (bad_signal (length T.processes)) in
    c.first_fault.ensures table_refusal (λ i. answer_at f i (slice_get T.signals i)) (λ i r lt k. search rules) ∙ told-at f T.signals c.signal_count.result c.signal_count.ensures
