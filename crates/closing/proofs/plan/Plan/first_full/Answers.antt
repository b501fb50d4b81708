use Rattle.std.proofs.Common.{sym, refl, ◌∙◌, arith, rules, tests}
use Rattle.std.proofs.lemmas.Iterator.{YieldsList-from_range}
use Rattle.std.proofs.lemmas.Iterator.Adapters.{option_map_id}
use Rattle.std.proofs.lemmas.Iterator.Search.{find_from_yields_List}
use Rattle.closing.proofs.Fitting.{first_found}
use Rattle.closing.specs.Plans.{ninth_in}
use Rattle.closing.proofs.plan.Plan.first_full.Goals as goal

pub returns : goal.returns
returns c =
    let full = ninth_in c.args.self.now in
    let n = c.args.processes in
    let found = find_from_yields_List full _ _ c.find.result c.find.ensures.ran (YieldsList-from_range 0 n n refl (omega arith)) (λ x b q k. search (rules, tests)) in
    sym (option_map_id c.find.result) ∙ found ∙ first_found full 0 n
