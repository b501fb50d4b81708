use Rattle.std.proofs.lemmas.List.{get_or-replicate}
use Rattle.loading.proofs.index.Index.none.Goals as goal

pub returns : goal.returns
returns c i lt = get_or-replicate 128 i c.args.count 0 lt
