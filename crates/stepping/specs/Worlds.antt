-- What a state means, by the queue memory m that is lent with it.
--   running ps l     the process l as it runs, where the places ps are those of its queue
--   in_memory m p l  the same, where l is process p
--   world n ls m     the first n of the processes ls
--   world_of s m     what the state s means
--   assigned n x r   r with variable n become x
--   turned n t r     r with timer n become t
--   taken o r        r after its head was taken off, the value going into variable o, if there is one
--   cooled n r       r with its first n timers lowered
--   beyond s         the places for processes that the state s does not have
--   after m s        the memory m behind the queues of the state s
use Rattle.std.specs.Prelude.{ℕ, ◌*◌, List, length, take, drop, ℤ, Some, None, Option, slice_set}
use Rattle.ring.specs.Queue.{held}
use Rattle.ring.specs.Slots.{slot}
use Rattle.rules.specs.States.{Running, World, numbered}
use Rattle.rules.specs.Steps.{head_value, dropped, lowered}
use Rattle.rules.specs.declared.step.Message.{Message}
use Rattle.stepping.specs.declared.state.Local.{Local}
use Rattle.stepping.specs.declared.state.State.{State}
use Rattle.table.specs.declared.record.Timer.{Timer}

abbrev pub running : List Message → Local → Running
running ps l = record { location = l.location; variables = l.variables; timers = l.timers; queue = held l.queue ps }

abbrev pub in_memory : List Message → ℕ → Local → Running
in_memory m p l = running (slot 16 p m) l

unfoldable pub world : ℕ → List Local → List Message → World
world n ls m = record { processes = numbered (in_memory m) 0 (take n ls); room = length m }

abbrev pub world_of : State → List Message → World
world_of s m = world s.count s.processes m

abbrev pub assigned : ℕ → ℤ → Running → Running
assigned n x r = record { location = r.location; variables = slice_set r.variables n x; timers = r.timers; queue = r.queue }

abbrev pub turned : ℕ → Timer → Running → Running
turned n t r = record { location = r.location; variables = r.variables; timers = slice_set r.timers n t; queue = r.queue }

abbrev pub taken : Option ℕ → Running → Running
taken None r = dropped r
taken (Some n) r = assigned n (head_value r.queue) (dropped r)

abbrev pub cooled : ℕ → Running → Running
cooled n r = record { location = r.location; variables = r.variables; timers = lowered n r.timers; queue = r.queue }

abbrev pub beyond : State → List Local
beyond s = drop s.count s.processes

abbrev pub after : State → List Message → List Message
after s m = drop (16 * s.count) m
