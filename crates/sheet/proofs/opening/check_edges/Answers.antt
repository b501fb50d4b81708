use Rattle.std.proofs.Common.{◌≡◌, length, sym, ap, ◌∙◌, rules}
use Rattle.std.specs.List.{slice_get}
use Rattle.examination.proofs.Firsts.{told-at}
use Rattle.loading.specs.Loading.{kept}
use Rattle.reading.specs.Faults.{edge_at_refusal}
use Rattle.reading.specs.Opening.{edge_refused_at}
use Rattle.sheet.specs.Views.{lists_of}
use Rattle.sheet.proofs.Wholes.{length-edges}
use Rattle.sheet.proofs.opening.check_edges.Goals as goal
use Rattle.table.specs.Examination.{answer_at, first_at}

pub returns : goal.returns
returns c =
    let s = c.args.sheet.now in
    let T = kept c.of-table.result (lists_of c.of-table.result.table.now) in
    let f = edge_refused_at T s.edges_at in
    let n : c.from.result ≡ length T.edges = c.from.ensures ∙ sym (length-edges s) ∙ ap (λ L. length L.edges) (sym c.of-table.ensures) in
    c.first_fault.ensures edge_at_refusal (λ i. answer_at f i (slice_get T.edges i)) (λ i r lt k. search rules) ∙ told-at f T.edges c.from.result n
    ∙ ap (λ L. first_at (edge_refused_at L s.edges_at) 0 L.edges) c.of-table.ensures
