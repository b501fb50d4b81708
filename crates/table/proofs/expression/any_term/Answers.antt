use Rattle.std.proofs.Common.{◌+◌}
use Rattle.table.proofs.Windows.{window-whole}
use Rattle.table.proofs.Scans.{any-window-end, any-window-none, any-window-hit, any-window-miss}
use Rattle.table.proofs.expression.any_term.Goals as goal

pub returns-in_default : goal.returns-in_default
returns-in_default g c f reads =
    let ts = (g.T.Table.lists c.args.table.now).terms in
    let a = any-window-none f ts c.loop-i.i (c.from-start.result + c.from.result) (cc) in
    let b = window-whole ts c.args.span.start c.args.span.count in
    let i = c.loop-i.invariant.1 f reads in
    let s = c.from-start.ensures in
    let n = c.from.ensures in
    cc

pub returns-then-test : goal.returns-then-test
returns-then-test g c f reads =
    let ts = (g.T.Table.lists c.args.table.now).terms in
    let t = c.in-Some.term in
    let h = reads t c.test.result c.test.ensures in
    let a = any-window-hit f ts c.loop-i.i (c.from-start.result + c.from.result) t c.loop-i-test.true (cc) (cc) in
    let b = window-whole ts c.args.span.start c.args.span.count in
    let i = c.loop-i.invariant.1 f reads in
    cc

pub loop-i-preserved : goal.loop-i-preserved
loop-i-preserved g c =
    let ts = (g.T.Table.lists c.args.table.now).terms in
    let t = c.in-Some.term in (
      c.loop-i.invariant.0,
      λ f reads.
          let h = reads t c.test.result c.test.ensures in
          let a = any-window-miss f ts c.loop-i.i (c.from-start.result + c.from.result) t c.loop-i-test.true (cc) (cc) in
          let i = c.loop-i.invariant.1 f reads in
          cc,
    )

pub returns : goal.returns
returns g c f reads =
    let ts = (g.T.Table.lists c.args.table.now).terms in
    let a = any-window-end f ts c.loop-i.i (c.from-start.result + c.from.result) c.loop-i-test.false in
    let b = window-whole ts c.args.span.start c.args.span.count in
    let i = c.loop-i.invariant.1 f reads in
    let s = c.from-start.ensures in
    let n = c.from.ensures in
    cc
