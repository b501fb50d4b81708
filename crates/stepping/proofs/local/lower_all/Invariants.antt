use Rattle.std.proofs.Common.{◌≡◌, ◌++◌, map, take, drop}
use Rattle.rules.specs.Steps.{lower}
use Rattle.stepping.proofs.local.lower_all.Given as goal

abbrev pub invariant-loop-timer : goal.invariant-loop-timer
invariant-loop-timer l = l.timer-items ≡ map lower (take l.timer-index l.fn.timers) ++ drop l.timer-index l.fn.timers
