use Rattle.std.proofs.Common.{◌≡◌, ℕ, Bool, List, true, drop, sym, ap, ◌∙◌, subst}
use Rattle.ring.specs.Queue.{held}
use Rattle.marking.specs.Instances.{holds}
use Rattle.marking.specs.declared.instance.Instance.{Instance}
use Rattle.marking.specs.Searching.{Grew, ObeysButWaiting, state}
use Rattle.marks.specs.Rules.{Obeys}
use Rattle.marks.specs.Words.{marks_in}
use Rattle.marks.proofs.Good.{good}
use Rattle.marking.proofs.Obeying.{still-obeys}
use Rattle.marking.proofs.Settling.{first-marked, step-kept, step-grown}
use Rattle.marking.proofs.flows.Flows.settle.Goals as goal
use Rattle.marking.proofs.flows.Flows.settle.Goals.{After-follow}

pub follow-requires-clause-fits : goal.follow-requires-clause-fits
follow-requires-clause-fits g c =
    let T = g.T.Table.lists c.args.table.now in
    (first-marked T (state c.loop-instance.search) c.in-Some.instance (state c.next.new.self).queue c.in-Some.ensures.cases c.loop-instance.invariant.0).0

pub loop-instance-preserved : goal.loop-instance-preserved
loop-instance-preserved g c =
    let T = g.T.Table.lists c.args.table.now in
    let s = state c.loop-instance.search in
    let rest = held c.next.new.self.waiting c.next.new.self.places in
    let u = state c.follow.new.search in
    let i = c.in-Some.instance in
    let P : List ℕ → Type 0 = λ ws. Grew T (λ N. holds N i ≡ true) (record { words = ws; signals = c.next.new.self.signals; queue = rest }) u in
    let Q : List Bool → Type 0 = λ ss. Grew T (λ N. holds N i ≡ true) (record { words = s.words; signals = ss; queue = rest }) u in
    let a = subst Q c.next.ensures.signals (subst P c.next.ensures.words c.follow.ensures.grew) in (
      step-kept T s i rest c.in-Some.ensures.cases c.loop-instance.invariant.0 u c.follow.ensures.followed a,
      step-grown T s i rest c.in-Some.ensures.cases c.loop-instance.invariant.0 u c.follow.ensures.followed a (state c.args.search.now) c.loop-instance.invariant.1,
    )

pub returns-clause-obeys : goal.returns-clause-obeys
returns-clause-obeys g c =
    let T = g.T.Table.lists c.args.table.now in
    let P : List ℕ → Type 0 = λ ws. Obeys T (marks_in ws) in
    subst P (sym c.next.ensures.words) (still-obeys T (good T c.requires.flowing.good) (state c.loop-instance.search) c.loop-instance.invariant.0 c.in_default.ensures.cases)

pub returns-clause-still : goal.returns-clause-still
returns-clause-still g c = c.next.ensures.queue ∙ ap (drop 1) c.in_default.ensures.cases

pub returns-clause-kept : goal.returns-clause-kept
returns-clause-kept g c =
    let T = g.T.Table.lists c.args.table.now in
    let s = state c.loop-instance.search in
    let n = c.next.new.self in
    let q : held n.waiting n.places ≡ s.queue = c.next.ensures.queue ∙ ap (drop 1) c.in_default.ensures.cases ∙ sym c.in_default.ensures.cases in
    let P : List ℕ → Type 0 = λ ws. ObeysButWaiting T (record { words = ws; signals = n.signals; queue = held n.waiting n.places }) in
    let Q : List Bool → Type 0 = λ ss. ObeysButWaiting T (record { words = s.words; signals = ss; queue = held n.waiting n.places }) in
    let R : List Instance → Type 0 = λ is. ObeysButWaiting T (record { words = s.words; signals = s.signals; queue = is }) in
    subst P (sym c.next.ensures.words) (subst Q (sym c.next.ensures.signals) (subst R (sym q) c.loop-instance.invariant.0))
