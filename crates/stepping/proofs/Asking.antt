-- A process as a question finds it.
use Rattle.std.proofs.Common.{◌≡◌, ℕ, zero, suc, ◌+◌, List, [], ◌∷◌, take, Some, sym, refl, ap, ◌∙◌, arith}
use Rattle.std.specs.List.{slice_get}
use Rattle.std.specs.Option.{option_map}
use Rattle.rules.specs.States.{numbered}
use Rattle.rules.specs.declared.step.Message.{Message}
use Rattle.stepping.specs.Worlds.{in_memory, world, world_of}
use Rattle.stepping.specs.declared.state.Local.{Local}
use Rattle.stepping.specs.declared.state.State.{State}

slice_get-numbered : {A B : Type 0} (f : ℕ → A → B) (i : ℕ) (xs : List A) (k : ℕ) → slice_get (numbered f i xs) k ≡ option_map (f (i + k)) (slice_get xs k)
unfolding numbered
slice_get-numbered f i [] k = refl
slice_get-numbered f i (x ∷ xs) zero = ap (λ j. Some (f j x)) (let z : i ≡ i + 0 = omega arith in z)
slice_get-numbered f i (x ∷ xs) (suc k) = let q : i + suc k ≡ i + 1 + k = omega arith in rw q (slice_get-numbered f (i + 1) xs k)

-- process p of the world
pub asked : (n : ℕ) (ls : List Local) (m : List Message) (p : ℕ) → slice_get (world n ls m).processes p ≡ option_map (in_memory m p) (slice_get (take n ls) p)
unfolding world
asked n ls m p = let z : 0 + p ≡ p = omega arith in rw z at (slice_get-numbered (in_memory m) 0 (take n ls) p)

pub asked-some : (s : State) (m : List Message) (p : ℕ) (l : Local) → Some l ≡ slice_get (take s.count s.processes) p → slice_get (world_of s m).processes p ≡ Some (in_memory m p l)
asked-some s m p l h = asked s.count s.processes m p ∙ ap (option_map (in_memory m p)) (sym h)

pub ruleset asking = (asked)
