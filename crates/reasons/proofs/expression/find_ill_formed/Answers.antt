use Rattle.std.proofs.Common.{◌≡◌, ◌+◌, eqb, refl, sym, ap, ◌∙◌, arith}
use Rattle.reasons.specs.Wrongs.{values_after}
use Rattle.table.specs.Expressions.{formed, part}
use Rattle.table.proofs.Windows.{window, window-whole}
use Rattle.table.proofs.Forms.{formed-window-end, formed-window-none, formed-window-stops, formed-window-goes, depth-bound}
use Rattle.reasons.proofs.Depths.{values-none, values-more, stops-misses, left-none, left-misses, window-past}
use Rattle.reasons.proofs.expression.find_ill_formed.Goals as goal
use Rattle.reasons.proofs.expression.find_ill_formed.Goals.{else-loop-i-test, then-loop-i-test+in_default}

pub loop-i-init : goal.loop-i-init
loop-i-init g c =
    let ts = (g.T.Table.lists c.args.table.now).terms in
    (refl, (omega arith, values-none c.args.variables ts c.from-start.result))

pub loop-i-preserved : goal.loop-i-preserved
loop-i-preserved g c =
    let ts = (g.T.Table.lists c.args.table.now).terms in
    let d = c.loop-i.depth in
    let t = c.in-Some.term in
    let a = formed-window-goes c.args.variables ts c.loop-i.i (c.from-start.result + c.from.result) d t c.in-Ok.after c.loop-i-test.true (sym c.in-Some.ensures.value) (sym c.in-Ok.ensures.value) in
    let k = c.loop-i.invariant.0 in (
      cc,
      (
        omega (arith, depth-bound c.args.variables t d c.in-Ok.after (sym c.in-Ok.ensures.value), c.loop-i.invariant.1.0),
        values-more c.args.variables ts c.from-start.result c.loop-i.i d c.in-Ok.after t (omega arith) (sym c.in-Some.ensures.value) c.loop-i.invariant.1.1 (sym c.in-Ok.ensures.value),
      ),
    )

pub returns-in-Err-clause-test : goal.returns-in-Err-clause-test
returns-in-Err-clause-test g c =
    let ts = (g.T.Table.lists c.args.table.now).terms in
    let a = formed-window-stops c.args.variables ts c.loop-i.i (c.from-start.result + c.from.result) c.loop-i.depth c.in-Some.term c.loop-i-test.true (sym c.in-Some.ensures.value) (sym c.in-Err.ensures.value) in
    let b = window-whole ts c.args.span.start c.args.span.count in
    let k = c.loop-i.invariant.0 in
    cc

pub returns-in-Err-clause-holds : goal.returns-in-Err-clause-holds
returns-in-Err-clause-holds g c =
    let ts = (g.T.Table.lists c.args.table.now).terms in
    let h = rw c.from-start.ensures at c.loop-i.invariant.1.1 in
    stops-misses c.args.variables ts c.args.span c.loop-i.i c.loop-i.depth c.in-Some.term c.in-Err.wrong (omega arith) (omega arith) (sym c.in-Some.ensures.value) h c.in-Err.ensures.holds

pub returns-clause-test : goal.returns-clause-test
returns-clause-test g c =
    let ts = (g.T.Table.lists c.args.table.now).terms in
    let d = c.loop-i.depth in
    let b = window-whole ts c.args.span.start c.args.span.count in
    let k = c.loop-i.invariant.0 in
    let f : formed c.args.variables (part ts c.args.span) 0 ≡ eqb d 1 =
    elim c.loop-i-test.branch [
      | else-loop-i-test w ↦
          let a = formed-window-end c.args.variables ts c.loop-i.i (c.from-start.result + c.from.result) d w.loop-i-test.false in cc
      | then-loop-i-test+in_default w ↦
          let a = formed-window-none c.args.variables ts c.loop-i.i (c.from-start.result + c.from.result) d (cc) in cc
    ] in
    rw c.then_some.ensures (left-none d ∙ sym f)

pub returns-clause-holds : goal.returns-clause-holds
returns-clause-holds g c =
    let ts = (g.T.Table.lists c.args.table.now).terms in
    let s = c.from-start.result in
    let e = s + c.from.result in
    let h = c.loop-i.invariant.1.1 in
    let p : window ts s e ≡ window ts s c.loop-i.i =
    elim c.loop-i-test.branch [
      | else-loop-i-test w ↦ let z : e ≡ c.loop-i.i = omega arith in rw z
      | then-loop-i-test+in_default w ↦ window-past ts s c.loop-i.i e (cc) (omega arith)
    ] in
    rw c.then_some.ensures (left-misses c.args.variables ts c.args.span c.loop-i.depth (rw (← c.from-start.ensures, ← c.from.ensures) (ap (λ w. values_after c.args.variables w 0) p ∙ h)))
