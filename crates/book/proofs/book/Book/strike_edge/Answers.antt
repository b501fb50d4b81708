use Rattle.std.proofs.Common.{◌+◌, ◌-◌, refl, ap, ◌∙◌, take, arith, rules}
use Rattle.std.specs.List.{copy_within}
use Rattle.book.specs.Books.{lists_of}
use Rattle.book.specs.Calls.{edit_refused, edited}
use Rattle.book.proofs.Dealing.{dealt_ok, lists_with}
use Rattle.book.proofs.Memories.{take_struck}
use Rattle.book.proofs.book.Book.strike_edge.Goals as goal

pub returns-clause-does : goal.returns-clause-does
unfolding lists_of edit_refused edited
returns-clause-does c = dealt_ok (search rules) (search rules) (search rules) (lists_with (ap (take (c.args.self.now.edges - 1)) c.copy_within.ensures.after ∙ ap (λ n. take (c.args.self.now.edges - 1) (copy_within c.args.edges.now (c.args.k + 1) n c.args.k)) c.from-count.ensures ∙ take_struck c.args.self.now.edges c.args.edges.now c.args.k (omega arith) (search rules)) refl)
