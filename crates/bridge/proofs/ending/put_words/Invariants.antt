use Rattle.std.proofs.Common.{◌≡◌, ℕ, List, ◌++◌, length}
use Rattle.bridge.specs.Laid.{laid, spelled}
use Rattle.bridge.specs.Traces.{state_words}
use Rattle.stepping.specs.Worlds.{world_of}
use Rattle.bridge.proofs.ending.put_words.Given as goal

abbrev pub invariant-loop-n : goal.invariant-loop-n
invariant-loop-n l = record {
  laid : (xs old : List ℕ) → length xs ≡ l.at → l.fn.out ≡ laid xs old → l.out ≡ laid (xs ++ spelled (state_words (world_of l.state l.memory) l.n)) old;
  length : length l.out ≡ length l.fn.out;
}
