use Rattle.marking.specs.Searching.{state}
use Rattle.marking.proofs.Carrying.{tested, pass-grew}
use Rattle.marking.proofs.search.Search.pass.Goals as goal

pub returns-then-bit-clause-grew : goal.returns-then-bit-clause-grew
returns-then-bit-clause-grew c T e stands =
    let f = c.args.flow.now in
    pass-grew T e c.args.index c.requires f stands (state c.args.self.now) (state c.mark.new.self)
    (tested f.kept c.into.result c.args.index c.bit.result _ c.bit.ensures.value c.into.ensures c.if-bit.true) (c.mark.ensures.grew T)
