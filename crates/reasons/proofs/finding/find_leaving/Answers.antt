use Rattle.std.proofs.Common.{arith}
use Rattle.std.proofs.lemmas.Option.{slice_get_past}
use Rattle.reasons.specs.Flaws.{side}
use Rattle.reasons.proofs.Places.{position-hit, position-miss, position-end}
use Rattle.table.specs.Examination.{leaves}
use Rattle.reasons.proofs.finding.find_leaving.Goals as goal

pub loop-k-preserved : goal.loop-k-preserved
loop-k-preserved g c =
    let f = leaves c.args.site.process c.args.site.location (side c.args.acting) in
    let m = position-miss f (g.T.Table.lists c.args.table.now).edges c.loop-k.k c.in-Some.edge (cc) (cc) in
    let k = c.loop-k.invariant in
    cc

pub returns-then-is_leaving : goal.returns-then-is_leaving
returns-then-is_leaving g c =
    let f = leaves c.args.site.process c.args.site.location (side c.args.acting) in
    let m = position-hit f (g.T.Table.lists c.args.table.now).edges c.loop-k.k c.in-Some.edge (cc) (cc) in
    let k = c.loop-k.invariant in
    cc

pub returns-in_default : goal.returns-in_default
returns-in_default g c =
    let f = leaves c.args.site.process c.args.site.location (side c.args.acting) in
    let m = position-end f (g.T.Table.lists c.args.table.now).edges c.loop-k.k (cc) in
    let k = c.loop-k.invariant in
    cc

pub returns-after-loop-k : goal.returns-after-loop-k
returns-after-loop-k g c =
    let es = (g.T.Table.lists c.args.table.now).edges in
    let f = leaves c.args.site.process c.args.site.location (side c.args.acting) in
    let m = position-end f es c.loop-k.k (slice_get_past es c.loop-k.k (omega arith)) in
    let k = c.loop-k.invariant in
    cc
