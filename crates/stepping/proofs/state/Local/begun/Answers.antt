use Rattle.std.proofs.Common.{◌≡◌, [], ap, ◌∙◌}
use Rattle.ring.specs.Queue.{held}
use Rattle.ring.proofs.Held.{held-fresh}
use Rattle.stepping.proofs.state.Local.begun.Goals as goal

pub returns : goal.returns
returns c ps =
    let q : held c.new.result ps ≡ [] = ap (λ r. held r ps) c.new.ensures.value ∙ held-fresh ps in
    cc
