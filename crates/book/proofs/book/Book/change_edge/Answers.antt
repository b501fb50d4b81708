use Rattle.std.proofs.Common.{refl, arith, rules}
use Rattle.book.specs.Books.{lists_of}
use Rattle.book.specs.Calls.{edit_refused, edited}
use Rattle.book.proofs.Dealing.{dealt_ok, lists_with}
use Rattle.book.proofs.Memories.{take_changed}
use Rattle.book.proofs.book.Book.change_edge.Goals as goal

pub returns-clause-does : goal.returns-clause-does
unfolding lists_of edit_refused edited
returns-clause-does c = dealt_ok (search rules) (search rules) (search rules) (lists_with (take_changed c.args.self.now.edges c.args.edges.now c.args.k c.args.edge (omega arith)) refl)
