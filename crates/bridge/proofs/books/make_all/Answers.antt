use Rattle.std.proofs.Common.{◌≡◌, ◌*◌, ◌++◌, [], ◌∷◌, length, refl, ap, ◌∙◌, subst, arith}
use Rattle.book.specs.Books.{pages, room}
use Rattle.book.specs.Faults.{said}
use Rattle.bridge.proofs.Booking.{answers-laid, answers-length, answers-none, entry, made-more, made-none, room-same}
use Rattle.bridge.proofs.Overlays.{length-spelled}
use Rattle.bridge.specs.Answers.{Made, answers_of}
use Rattle.bridge.specs.Laid.{laid, spelled}
use Rattle.bridge.proofs.books.make_all.Goals as goal

pub loop-n-init : goal.loop-n-init
loop-n-init c = record {
  made = ([], made-none c.args.calls.now _ c.requires.new, answers-none c.args.answers.now);
  lent = c.requires.lent;
  edges = refl;
  terms = refl;
  length = refl;
}

pub loop-n-preserved : goal.loop-n-preserved
loop-n-preserved c =
    let bs = c.args.calls.now in
    let n = c.loop-n.n in
    let i = c.loop-n.invariant in
    let es = i.made.0 in
    let u = pages c.loop-n.book c.loop-n.edges c.loop-n.terms in
    let R = room c.loop-n.edges c.loop-n.terms in
    let r = said c.make-answer.result in
    let t = pages c.make-answer.new.book c.make-answer.new.edges c.make-answer.new.terms in
    let old = c.args.answers.now in
    let done = spelled (answers_of es) in
    let at : length done ≡ 8 * n = length-spelled (answers_of es) ∙ ap (λ k. 8 * k) (answers-length bs n es u i.made.1) in
    let same = room-same c.loop-n.edges c.args.edges.now c.loop-n.terms c.args.terms.now i.edges i.terms ∙ c.requires.room in
    record {
      made = (
        es ++ entry bs n es u R r t ∷ [],
        made-more bs n es u R r t same (c.make-answer.ensures.does i.lent) i.made.1,
        c.put.ensures.laid done old at i.made.2
            ∙ ap (λ ws. laid (done ++ ws) old) c.to_be_bytes.ensures
            ∙ answers-laid es (entry bs n es u R r t) c.number_code.result old c.number_code.ensures,
      );
      lent = c.make-answer.ensures.lent i.lent;
      edges = c.make-answer.ensures.edges ∙ i.edges;
      terms = c.make-answer.ensures.terms ∙ i.terms;
      length = c.put.ensures.length ∙ i.length;
    }

pub returns-clause-made : goal.returns-clause-made
returns-clause-made c =
    let m = c.loop-n.invariant.made in
    let t = pages c.loop-n.book c.loop-n.edges c.loop-n.terms in
    let n : c.loop-n.n ≡ c.args.count = omega (arith, c.loop-n-test.false, c.loop-n.auto.n-end) in
    (m.0, subst (λ k. Made c.args.calls.now k m.0 t) n m.1, m.2)
