use Rattle.std.proofs.Common.{sym, ap, ◌∙◌, rules, arith}
use Rattle.std.specs.Option.{option_map}
use Rattle.std.proofs.lemmas.Iterator.{YieldsList-from_map, YieldsList-from_range}
use Rattle.std.proofs.lemmas.Iterator.Adapters.{option_map_id}
use Rattle.std.proofs.lemmas.Iterator.Search.{find_from_yields_List}
use Rattle.table.specs.Examination.{answer_at, location_in}
use Rattle.examination.specs.Locations.{pair}
use Rattle.examination.proofs.Nearest.{at, found_in}
use Rattle.examination.proofs.location.find_of.Goals as goal

pub returns : goal.returns
returns g c h told =
    let n = c.in_ok-process.process.locations in
    let found = find_from_yields_List (λ s. h s.process s.location) _ _ c.find.result c.find.ensures.ran (YieldsList-from_map _ (at c.args.p) (YieldsList-from_range 0 _ n c.map.ensures.source (omega arith)) c.map.ensures.closure (λ x r q k. search rules)) (λ x b q k. search (rules, told)) in
    ap (option_map pair) (sym (option_map_id c.find.result) ∙ found) ∙ found_in h c.args.p n 0 ∙ ap (answer_at (location_in h) c.args.p) c.in_ok-process.ensures
