use Rattle.std.proofs.Common.{Ok, refl, ap, take, arith, length-take, rules}
use Rattle.std.proofs.lemmas.Bool.Decides.{nat_tests}
use Rattle.std.proofs.lemmas.List.{length-map}
use Rattle.book.specs.Books.{plain, lists_of}
use Rattle.book.specs.Calls.{edit_refused, edited}
use Rattle.book.proofs.Dealing.{dealt_ok, lists_with, neither}
use Rattle.book.proofs.Memories.{take_entered}
use Rattle.book.proofs.book.Book.enter_expression.Goals as goal

pub returns-clause-does : goal.returns-clause-does
unfolding lists_of edit_refused edited
returns-clause-does c = dealt_ok (search rules) (neither _ _ (search rules) (grind (arith, nat_tests, length-map, length-take))) (ap Ok (omega (arith, length-map (take c.args.self.now.terms c.args.terms.now) plain, length-take c.args.self.now.terms c.args.terms.now))) (lists_with refl (search (rules, take_entered)))
