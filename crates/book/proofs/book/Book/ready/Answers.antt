use Rattle.std.proofs.Common.{Ok, Err, rules}
use Rattle.book.specs.Books.{pages}
use Rattle.book.specs.declared.fault.BookFault.TheVariants.{Unmarked}
use Rattle.book.proofs.Histories.{histories, ready_law}
use Rattle.book.proofs.book.Book.ready.Goals as goal

pub returns-then-is_none-clause-histories : goal.returns-then-is_none-clause-histories
returns-then-is_none-clause-histories c = λ edges terms. histories (pages c.args.self.now edges terms)

pub returns-then-is_none-clause-law : goal.returns-then-is_none-clause-law
returns-then-is_none-clause-law c =
    λ edges terms es follows. ready_law (pages c.args.self.now edges terms) (Err Unmarked) (search rules) es follows

pub returns-clause-histories : goal.returns-clause-histories
returns-clause-histories c = λ edges terms. histories (pages c.args.self.now edges terms)

pub returns-clause-law : goal.returns-clause-law
returns-clause-law c = λ edges terms es follows. ready_law (pages c.args.self.now edges terms) (Ok tt) (search rules) es follows
