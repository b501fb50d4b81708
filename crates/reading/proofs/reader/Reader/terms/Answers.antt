use Rattle.std.proofs.Common.{◌+◌, ◌*◌, length, refl, sym, ◌∙◌, arith, rules}
use Rattle.std.proofs.lemmas.Bool.{leb-true}
use Rattle.reading.specs.Layout.{term_format}
use Rattle.reading.specs.Rows.{no_term}
use Rattle.reading.proofs.Loads.{open-term, passed_row}
use Rattle.reading.proofs.reader.Reader.terms.Goals as goal

pub returns-then-has : goal.returns-then-has
returns-then-has c =
    let s = c.args.self.now in
    let n = c.from-count.ensures in
    let room = leb-true (s.place + 20 * c.from-count.result) (8 * length s.bytes.now) (sym c.has.ensures ∙ c.if-has.true) in
    record { reads = passed_row term_format no_term 20 c.args.count s _ (open-term s.bytes.now) (omega arith) refl (omega arith); moves = omega arith }

pub returns : goal.returns
returns c =
    let row = rw c.from-count.ensures at (c.row.ensures term_format no_term 20 (λ s r t k. search rules)) in
    record { reads = row.reads; moves = row.moves }
