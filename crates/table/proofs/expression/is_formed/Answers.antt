use Rattle.std.proofs.Common.{◌+◌, arith}
use Rattle.table.proofs.Windows.{window-whole}
use Rattle.table.proofs.Forms.{formed-window-end, formed-window-none, formed-window-stops, formed-window-goes, depth-bound}
use Rattle.table.proofs.expression.is_formed.Goals as goal
use Rattle.table.proofs.expression.is_formed.Goals.{else-loop-i-test, then-loop-i-test+in_default}

pub returns-in_default-depth_after : goal.returns-in_default-depth_after
returns-in_default-depth_after g c =
    let ts = (g.T.Table.lists c.args.table.now).terms in
    let a = formed-window-stops c.args.variables ts c.loop-i.i (c.from-start.result + c.from.result) c.loop-i.depth c.in-Some.term c.loop-i-test.true (cc) (cc) in
    let b = window-whole ts c.args.span.start c.args.span.count in
    let k = c.loop-i.invariant.0 in
    cc

pub loop-i-preserved : goal.loop-i-preserved
loop-i-preserved g c =
    let ts = (g.T.Table.lists c.args.table.now).terms in
    let a = formed-window-goes c.args.variables ts c.loop-i.i (c.from-start.result + c.from.result) c.loop-i.depth c.in-Some.term c.in-Some-depth_after.after c.loop-i-test.true (cc) (cc) in
    let k = c.loop-i.invariant.0 in
    (cc, omega (arith, depth-bound c.args.variables c.in-Some.term c.loop-i.depth c.in-Some-depth_after.after (cc), c.loop-i.invariant.1))

pub returns : goal.returns
returns g c =
    let ts = (g.T.Table.lists c.args.table.now).terms in
    let b = window-whole ts c.args.span.start c.args.span.count in
    let k = c.loop-i.invariant.0 in
    elim c.loop-i-test.branch [
      | else-loop-i-test w ↦
          let a = formed-window-end c.args.variables ts c.loop-i.i (c.from-start.result + c.from.result) c.loop-i.depth w.loop-i-test.false in cc
      | then-loop-i-test+in_default w ↦
          let a = formed-window-none c.args.variables ts c.loop-i.i (c.from-start.result + c.from.result) c.loop-i.depth (cc) in cc
    ]
