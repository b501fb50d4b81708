use Rattle.std.proofs.Common.{arith}
use Rattle.std.proofs.lemmas.Grind.{common_steps}
use Rattle.std.proofs.lemmas.List.{take_all, drop_all}
use Rattle.std.proofs.lemmas.List.Edits.{map_over_more}
use Rattle.rules.specs.Steps.{lower}
use Rattle.stepping.proofs.local.lower_all.Goals as goal

pub loop-timer-preserved : goal.loop-timer-preserved
loop-timer-preserved c = grind (arith, common_steps, map_over_more lower)

pub returns : goal.returns
returns c = grind (arith, common_steps, take_all, drop_all)
