use Rattle.bridge.proofs.Overlays.{mid-laid}
use Rattle.bridge.proofs.laying.put.Goals as goal

pub returns-clause-laid : goal.returns-clause-laid
returns-clause-laid c xs old e g = mid-laid c.args.at c.args.out.now xs c.copy_from_slice.new.self c.args.bytes.now old e c.copy_from_slice.ensures.after g
