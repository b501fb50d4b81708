use Rattle.std.proofs.Common.{◌+◌, ◌||◌, ap, ◌∙◌}
use Rattle.std.specs.List.{list_any}
use Rattle.marks.specs.Words.{bit}
use Rattle.marks.proofs.Bitwise.{bit-or, bit-zero}
use Rattle.table.proofs.Windows.{window, window-some}
use Rattle.table.proofs.Scans.{any-window-end, any-window-none}
use Rattle.marking.proofs.Masks.{variable-read, read-whole, or-step}
use Rattle.marking.proofs.flow.mentioned.Goals as goal

pub loop-i-init : goal.loop-i-init
loop-i-init g c b h =
    ap (λ x. x || list_any (variable-read b) (window (g.T.Table.lists c.args.table.now).terms c.from-start.result (c.from-start.result + c.from.result))) (bit-zero b)

pub loop-i-preserved : goal.loop-i-preserved
loop-i-preserved g c b h =
    let ts = (g.T.Table.lists c.args.table.now).terms in
    let e = c.from-start.result + c.from.result in
    let t = c.in-Some.term in
    let s = window-some ts c.loop-i.i (c.from-start.result + c.from.result) t c.loop-i-test.true (cc) in
    or-step (bit c.loop-i.all b) (bit c.read_by-all.result b) (variable-read b t) _ _ _
    (bit-or c.loop-i.all c.read_by-all.result b) (c.read_by-all.ensures b h) (ap (list_any (variable-read b)) s) ∙ c.loop-i.invariant b h

pub returns-after-loop-i : goal.returns-after-loop-i
returns-after-loop-i g c b h =
    let ts = (g.T.Table.lists c.args.table.now).terms in
    read-whole b ts c.args.span.start c.args.span.count c.from-start.result c.from.result c.loop-i.i c.loop-i.all
    c.from-start.ensures c.from.ensures
    (any-window-end (variable-read b) ts c.loop-i.i (c.from-start.result + c.from.result) c.loop-i-test.false)
    (c.loop-i.invariant b h)

pub returns-in_default : goal.returns-in_default
returns-in_default g c b h =
    let ts = (g.T.Table.lists c.args.table.now).terms in
    read-whole b ts c.args.span.start c.args.span.count c.from-start.result c.from.result c.loop-i.i c.loop-i.all
    c.from-start.ensures c.from.ensures
    (any-window-none (variable-read b) ts c.loop-i.i (c.from-start.result + c.from.result) (cc))
    (c.loop-i.invariant b h)
