use Rattle.std.proofs.Common.{sym}
use Rattle.stepping.proofs.Worlds.{length-world_of}
use Rattle.stepping.proofs.state.State.process_count.Goals as goal

pub returns : goal.returns
returns c m = sym (length-world_of c.args.self.now m)
