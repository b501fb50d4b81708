use Rattle.std.proofs.Common.{◌∙◌}
use Rattle.loading.proofs.Built.{first-known}
use Rattle.loading.proofs.index.Index.first_leaving.Goals as goal

pub returns : goal.returns
returns c es h =
    let s = c.args.site in
    c.into.ensures ∙ c.pick.ensures ∙ first-known c.args.self.now.first c.args.self.now.next es s.process s.location h
