use Rattle.std.proofs.Common.{◌*◌, ◌++◌, take, subst}
use Rattle.book.specs.Books.{lacking, lists_of, pages}
use Rattle.bridge.proofs.Booking.{answers-taken, three-parts}
use Rattle.bridge.proofs.Limits.{few-closed, few-made, few-viewed, few-words, viewed}
use Rattle.bridge.specs.Answers.{Made, Written}
use Rattle.bridge.specs.Laid.{spelled}
use Rattle.bridge.specs.Tables.{words_of}
use Rattle.closing.specs.Layers.{layered}
use Rattle.bridge.proofs.books.run.Goals as goal

pub make_all-requires-clause-lent : goal.make_all-requires-clause-lent
make_all-requires-clause-lent c = (c.new-book.ensures.whole c.args.edges.now c.args.terms.now).lent

pub write-requires-clause-book : goal.write-requires-clause-book
write-requires-clause-book c =
    let m = c.make_all.ensures.made in
    let t = pages c.make_all.new.book c.make_all.new.edges c.make_all.new.terms in
    few-viewed _ _ _ _ _ _ c.view.ensures.book c.view.ensures.edges c.view.ensures.terms (few-made m.0 t m.1.follows)

pub write-requires-clause-closed : goal.write-requires-clause-closed
write-requires-clause-closed c =
    let m = c.make_all.ensures.made in
    let b = c.make_all.new.book in
    let es = c.make_all.new.edges in
    let ts = c.make_all.new.terms in
    few-words _ (few-closed (lacking b es ts) _ (lists_of b es ts) _ c.make_all.ensures.lent c.close-closed.ensures.meaning (few-made m.0 (pages b es ts) m.1.follows))

pub returns : goal.returns
returns c =
    let m = c.make_all.ensures.made in
    let b = c.make_all.new.book in
    let es = c.make_all.new.edges in
    let ts = c.make_all.new.terms in
    let t = pages b es ts in
    let r = c.close-closed.result in
    let v = c.view.result in
    let V = lists_of v.book.now v.edges.now v.terms.now in
    let C = layered r.plan (lists_of r.below.book.now r.below.edges.now r.below.terms.now) in
    let n = c.call_count-count.result in
    let told = take (8 * n) c.make_all.new.answers in
    let w : Written (told ++ spelled (words_of V) ++ spelled (words_of C)) c.write.result c.args.out.now c.write.new.out = c.write.ensures in
    record {
      entries = m.0;
      book = t;
      made = subst (λ k. Made c.args.calls.now k m.0 t) c.call_count-count.ensures m.1;
      closed = C;
      closes = c.close-closed.ensures.law c.make_all.ensures.lent m.0 m.1.follows;
      written = subst (λ xs. Written xs c.write.result c.args.out.now c.write.new.out)
          (three-parts m.0 (lists_of b es ts) C V told
          (answers-taken c.args.calls.now n m.0 t c.make_all.new.answers _ m.1 m.2)
          (viewed v.book.now b v.edges.now es v.terms.now ts c.view.ensures.book c.view.ensures.edges c.view.ensures.terms))
          w;
    }
