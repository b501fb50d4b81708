use Rattle.std.proofs.Common.{◌++◌, ◌∙◌, ap, drop, length, replicate}
use Rattle.stepping.proofs.Making.{padded-front}
use Rattle.stepping.proofs.local.filled.Goals as goal

pub returns : goal.returns
returns g c =
    let xs = c.args.items.now in
    let d = c.args.rest in
    ap (λ ys. ys ++ drop (length xs) (replicate 8 d)) c.copy_from_slice.ensures.after ∙ padded-front xs 8 d c.requires
