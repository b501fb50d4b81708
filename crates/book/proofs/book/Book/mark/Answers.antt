use Rattle.std.proofs.Common.{◌≡◌, Some, None, Ok, ap, sym, subst, rules}
use Rattle.book.specs.Books.{lacking, lists_of, pages, room, Dealt}
use Rattle.book.specs.Calls.{mark}
use Rattle.closing.specs.Faults.{measuring}
use Rattle.marks.specs.Words.{marking}
use Rattle.rules.specs.Promise.{Measured}
use Rattle.book.proofs.Histories.{mark_accepted_as}
use Rattle.book.proofs.Memories.{whole_of}
use Rattle.book.proofs.book.Book.mark.Goals as goal

pub returns-clause-does : goal.returns-clause-does
unfolding lists_of
returns-clause-does c =
    let s = c.args.self.now in
    let es = c.args.edges.now in
    let ts = c.args.terms.now in
    let m : Measured (lists_of s es ts) (measuring c.measure.result) = search rules in
    let ok = subst (Measured (lists_of s es ts)) (ap measuring c.in_ok-marks.was) m in
    let lent : lacking s es ts ≡ None = search rules in
    subst (λ n. Dealt (lacking s es ts) (room es ts) mark (pages s es ts) (Ok n) (record { lists = lists_of s es ts; kept = Some (marking c.in_ok-marks.marks) })) (sym c.total.ensures.value) (mark_accepted_as (lacking s es ts) (room es ts) (pages s es ts) (marking c.in_ok-marks.marks) _ lent ok)

pub returns-clause-whole : goal.returns-clause-whole
returns-clause-whole c = whole_of _ c.args.edges.now c.args.terms.now (search rules) (search rules)
