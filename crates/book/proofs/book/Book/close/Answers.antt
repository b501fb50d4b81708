use Rattle.std.proofs.Common.{refl}
use Rattle.book.specs.Books.{lacking, lists_of, pages}
use Rattle.book.specs.Calls.{Does}
use Rattle.closing.specs.Layers.{layered}
use Rattle.book.proofs.Histories.{histories, closes_as}
use Rattle.book.proofs.book.Book.close.Goals as goal

pub returns-clause-does : goal.returns-clause-does
unfolding Does
returns-clause-does c = record { says = refl; leaves = refl }

pub returns-clause-histories : goal.returns-clause-histories
returns-clause-histories c = histories (pages c.args.self.now c.args.edges.now c.args.terms.now)

pub returns-clause-law : goal.returns-clause-law
returns-clause-law c =
    let s = c.args.self.now in
    let r = c.shut.result in
    let es = c.args.edges.now in
    let ts = c.args.terms.now in
    λ lent. closes_as (pages s es ts) (layered r.plan (lists_of r.below.book.now r.below.edges.now r.below.terms.now)) (lacking s es ts) lent c.shut.ensures.meaning
