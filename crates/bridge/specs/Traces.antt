-- A run of a table from its start, as numbers of 64 bits.
--   step_of k a b       the step of kind k with the numbers a and b: offer, move, discard, expire; any other kind is a tick
--   step_at ss i        step i of the steps in ss, five bytes each: kind, a, b
--   ends T W ss n       the world W after the first n steps; a refused one changes nothing
--   answers T W ss n    what those steps answer
--   location_word, variable_word, timer_word, message_word   of a process, 0 where there is no such thing; a timer that is on has
--                       bit 16 set, a message bit 24
--   state_word W p k    word k of the 33 that process p has: its location, 8 variables, 8 timers, 16 messages
--   state_words W n     the first n words of a world, process by process
--   unstarted o room    the refusal of a sheet that opens as o, or of its start with so many places in the queue memory
--   traced T W ss       the answers to all steps from the world W on, and the 264 words of the end
use Rattle.std.specs.Prelude.{ℕ, zero, suc, ◌+◌, ◌*◌, ◌/◌, ◌%◌, ◌-◌, cond, List, [], ◌∷◌, ◌++◌, ℤ, length, Some, None, Ok, Err, Option, Result, ◌==◌, nat_le}
use Rattle.std.specs.Int.{w16, cast_signed, cast_unsigned}
use Rattle.std.specs.List.{slice_get}
use Rattle.std.specs.Option.{option_and_then, option_map, unwrap_or}
use Rattle.bridge.specs.Bytes.{byte_at, pair_at}
use Rattle.bridge.specs.Codes.{answer_code, message_code}
use Rattle.reading.specs.Opening.{Opened}
use Rattle.refusal.specs.declared.fault.Refusal.{Refusal}
use Rattle.rules.specs.States.{World, lacking, start_refused}
use Rattle.rules.specs.Steps.{next, stepped}
use Rattle.rules.specs.declared.step.Step.{Step}
use Rattle.rules.specs.declared.step.Step.TheVariants.{Offer, Move, Discard, Expire, Tick}
use Rattle.table.specs.Lists.{Lists}
use Rattle.table.specs.Records.{timer_number, timer_ticks}
use Rattle.table.specs.declared.record.Timer.{Timer}

abbrev pub step_of : ℕ → ℕ → ℕ → Step
step_of k a b =
    cond (k == 0) (Offer a (cast_signed w16 b)) (cond (k == 1) (Move a) (cond (k == 2) (Discard a) (cond (k == 3) (Expire a b) Tick)))

unfoldable pub step_at : List ℕ → ℕ → Step
step_at ss i = step_of (byte_at ss (5 * i)) (pair_at ss (5 * i + 1)) (pair_at ss (5 * i + 3))

unfoldable pub ends : Lists → World → List ℕ → ℕ → World
ends T W ss zero = W
ends T W ss (suc n) = next T (ends T W ss n) (step_at ss n)

unfoldable pub answers : Lists → World → List ℕ → ℕ → List ℕ
answers T W ss zero = []
answers T W ss (suc n) = answers T W ss n ++ answer_code (stepped T (ends T W ss n) (step_at ss n)) ∷ []

abbrev pub location_word : Option ℕ → ℕ
location_word o = unwrap_or o 0

abbrev pub variable_word : Option ℤ → ℕ
variable_word None = 0
variable_word (Some x) = cast_unsigned w16 x

abbrev pub timer_word : Option Timer → ℕ
timer_word None = 0
timer_word (Some t) = 65536 * timer_number t + timer_ticks t

abbrev pub word_of : World → ℕ → ℕ → ℕ
word_of W p k =
    cond (k == 0) (location_word (option_map (λ r. r.location) (slice_get W.processes p)))
    (cond (nat_le k 8) (variable_word (option_and_then (λ r. slice_get r.variables (k - 1)) (slice_get W.processes p)))
    (cond (nat_le k 16) (timer_word (option_and_then (λ r. slice_get r.timers (k - 9)) (slice_get W.processes p)))
    (message_code (cond (lacking W.room p) None (option_and_then (λ r. slice_get r.queue (k - 17)) (slice_get W.processes p))))))

unfoldable pub state_word : World → ℕ → ℕ → ℕ
state_word W p k = word_of W p k

unfoldable pub state_words : World → ℕ → List ℕ
state_words W zero = []
state_words W (suc n) = state_words W n ++ state_word W (n / 33) (n % 33) ∷ []

abbrev pub unstarted : Result Opened Refusal → ℕ → Option Refusal
unstarted (Err r) room = Some r
unstarted (Ok o) room = start_refused o.lists room

unfoldable pub traced : Lists → World → List ℕ → List ℕ
traced T W ss = answers T W ss (length ss / 5) ++ state_words (ends T W ss (length ss / 5)) 264
