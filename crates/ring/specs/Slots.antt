-- Many queues in one memory: each has a slot of it, all of one width.
--   slot w k mem   the k-th run of w places of the memory mem
use Rattle.std.specs.Prelude.{ℕ, ◌*◌, List, take, drop}

unfoldable pub slot : {X : Type 0} → ℕ → ℕ → List X → List X
slot w k mem = take w (drop (w * k) mem)
