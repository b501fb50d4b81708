use Rattle.std.proofs.Common.{◌≡◌, List, length, None}
use Rattle.book.specs.Books.{lacking, pages}
use Rattle.book.specs.Histories.{Entry}
use Rattle.bridge.specs.Answers.{Made, answers_of}
use Rattle.bridge.specs.Laid.{laid, spelled}
use Rattle.bridge.proofs.books.make_all.Given as goal

abbrev pub invariant-loop-n : goal.invariant-loop-n
invariant-loop-n l = record {
  made : (es : List Entry) × Made l.calls l.n es (pages l.book l.edges l.terms) × (l.answers ≡ laid (spelled (answers_of es)) l.fn.answers);
  lent : lacking l.book l.edges l.terms ≡ None;
  edges : length l.edges ≡ length l.fn.edges;
  terms : length l.terms ≡ length l.fn.terms;
  length : length l.answers ≡ length l.fn.answers;
}
