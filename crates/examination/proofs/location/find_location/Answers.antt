use Rattle.std.proofs.Common.{refl, ◌∙◌, rules}
use Rattle.std.specs.List.{slice_get}
use Rattle.table.specs.Examination.{answer_at, location_in}
use Rattle.examination.specs.Locations.{pair}
use Rattle.examination.proofs.Firsts.{told-at, told-mapped}
use Rattle.examination.proofs.location.find_location.Goals as goal

pub returns : goal.returns
returns g c h told =
    let ps = (g.T.Table.lists c.args.table.now).processes in
    let n = c.process_count.result in
    told-mapped _ _ pair (λ i. answer_at (location_in h) i (slice_get ps i)) (λ x b q k. search (rules, told)) n _ c.find_map.result refl c.find_map.ensures.runs ∙ told-at (location_in h) ps n c.process_count.ensures
