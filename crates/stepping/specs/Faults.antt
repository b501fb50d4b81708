-- The number, layer and place of every refusal of a start and of a step.
--   start_refusal f   a table's refusal stays as it is
--   state_refusal f   why a step is refused
--   stepping r        what a step answers, as the rules say it
use Rattle.std.specs.Prelude.{Option, Result}
use Rattle.std.specs.Result.{result_map_both}
use Rattle.refusal.specs.Refusals.{table_refusal}
use Rattle.refusal.specs.declared.fault.Refusal.{Refusal}
use Rattle.rules.specs.Steps.{state_at}
use Rattle.rules.specs.declared.step.Message.{Message}
use Rattle.stepping.specs.declared.fault.StartFault.{StartFault}
use Rattle.stepping.specs.declared.fault.StartFault.TheVariants.{Table, NoPlaces}
use Rattle.stepping.specs.declared.fault.StateFault.{StateFault}
use Rattle.stepping.specs.declared.fault.StateFault.TheVariants.{Unlike, Misplaced, Missing, Unready, Full}

abbrev pub start_refusal : StartFault → Refusal
start_refusal (Table f) = table_refusal f
start_refusal (NoPlaces p) = state_at 18 p

abbrev pub state_refusal : StateFault → Refusal
state_refusal Unlike = state_at 18 0
state_refusal (Misplaced p) = state_at 18 p
state_refusal (Missing n) = state_at 19 n
state_refusal (Unready p) = state_at 20 p
state_refusal (Full p) = state_at 21 p

abbrev pub stepping : Result (Option Message) StateFault → Result (Option Message) Refusal
stepping r = result_map_both (λ m. m) state_refusal r
