use Rattle.std.proofs.Common.{ℕ, ◌+◌, List, [], Some, sym, ap, ◌∙◌, arith}
use Rattle.reading.specs.Rows.{name_start, text_at}
use Rattle.sheet.specs.Views.{bytes_of, names_of}
use Rattle.reading.proofs.Naming.{nth-part}
use Rattle.sheet.proofs.view.Sheet.name_among.Goals as goal

pub returns : goal.returns
unfolding names_of
returns c =
    let s = c.args.self.now in
    let f : ℕ → ℕ × List ℕ = λ k. (name_start (bytes_of s) s.names_at k + 1, text_at (bytes_of s) (name_start (bytes_of s) s.names_at k)) in
    let e = c.from-2.ensures in
    ap (λ k. Some (k, c.name.result.1.now)) c.name.ensures.place ∙ ap (λ t. Some ((f (c.from-2.result + c.args.k)).0, t)) c.name.ensures.text ∙
    ap (λ k. Some (f (k + c.args.k))) c.from-2.ensures ∙
    sym (nth-part f (0, []) (s.counts.processes + s.counts.signals) c.args.first c.args.count c.args.k c.requires (omega arith))
