use Rattle.std.proofs.Common.{◌≡◌, drop}
use Rattle.std.specs.List.{position_from}
use Rattle.reasons.specs.Flaws.{side}
use Rattle.table.specs.Examination.{leaves}
use Rattle.reasons.proofs.finding.find_leaving.Given as goal

-- what is left decides
abbrev pub invariant-loop-k : goal.invariant-loop-k
invariant-loop-k g l =
    let es = (g.T.Table.lists l.table).edges in
    let f = leaves l.site.process l.site.location (side l.acting) in
    position_from f l.k (drop l.k es) ≡ position_from f 0 es
