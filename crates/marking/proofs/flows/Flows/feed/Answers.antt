use Rattle.std.proofs.Common.{sym, subst}
use Rattle.marking.specs.Searching.{Allowed, Grew, state}
use Rattle.marking.specs.declared.flow.Fed.{Fed}
use Rattle.marking.proofs.flows.Flows.feed.Goals as goal

pub returns-in-Instance-clause-grew : goal.returns-in-Instance-clause-grew
returns-in-Instance-clause-grew g c =
    let T = g.T.Table.lists c.args.table.now in
    let P : Fed → Type 0 = λ f. Grew T (λ N. Allowed T N f) (state c.args.search.now) (state c.mark.new.self) in
    subst P (sym c.in-Instance.is) (c.mark.ensures.grew T)
