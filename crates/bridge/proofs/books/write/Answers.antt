use Rattle.std.proofs.Common.{◌≡◌, ◌+◌, ◌*◌, ◌++◌, [], length, refl, sym, ◌∙◌, arith}
use Rattle.std.proofs.lemmas.List.{length-append}
use Rattle.bridge.proofs.Overlays.{fitted-none, fitted-room, laid-none}
use Rattle.bridge.proofs.Tabling.{length-table}
use Rattle.bridge.specs.Laid.{spelled}
use Rattle.bridge.specs.Tables.{size_of, words_of}
use Rattle.bridge.proofs.books.write.Goals as goal

pub returns-then-end-out : goal.returns-then-end-out
returns-then-end-out g c =
    let T = g.T.Table.lists c.args.book.now in
    let C = g.C.Table.lists c.args.closed.now in
    let answers = c.args.answers.now in
    let old = c.args.out.now in
    let front = answers ++ spelled (words_of T) in
    let text = front ++ spelled (words_of C) in
    let middle : length front ≡ length answers + 8 * c.size_of.result = omega (arith, length-append answers (spelled (words_of T)), length-table T, c.size_of.ensures) in
    let size : c.size_of-2.result ≡ size_of C = c.size_of-2.ensures in
    let all : length answers + 8 * c.size_of.result + 8 * c.size_of-2.result ≡ length text = omega (arith, middle, size, length-append front (spelled (words_of C)), length-table C) in (
      all,
      c.put_table-then-end-out.ensures.laid front old middle (c.put_table.ensures.laid answers old refl (c.put.ensures.laid [] old refl (laid-none old)))
          ∙ sym (fitted-room text old (omega (arith, all, c.if-end-out.true))),
    )

pub returns-else-end-out : goal.returns-else-end-out
returns-else-end-out g c =
    let T = g.T.Table.lists c.args.book.now in
    let C = g.C.Table.lists c.args.closed.now in
    let answers = c.args.answers.now in
    let front = answers ++ spelled (words_of T) in
    let text = front ++ spelled (words_of C) in
    let middle : length front ≡ length answers + 8 * c.size_of.result = omega (arith, length-append answers (spelled (words_of T)), length-table T, c.size_of.ensures) in
    let size : c.size_of-2.result ≡ size_of C = c.size_of-2.ensures in
    let all : length answers + 8 * c.size_of.result + 8 * c.size_of-2.result ≡ length text = omega (arith, middle, size, length-append front (spelled (words_of C)), length-table C) in
    (all, sym (fitted-none text c.args.out.now (omega (arith, all, c.if-end-out.false))))
