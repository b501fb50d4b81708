use Rattle.std.proofs.lemmas.List.{get_or-replicate}
use Rattle.loading.proofs.index.Inputs.none.Goals as goal

pub returns : goal.returns
returns c s lt = get_or-replicate 64 s c.args.count 0 lt
