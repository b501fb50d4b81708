-- A tick, process by process.
use Rattle.std.proofs.Common.{◌≡◌, ℕ, zero, suc, ◌+◌, ◌<◌, ◌≤◌, List, [], ◌∷◌, ◌++◌, length, get_or, take, drop, set, refl, ap, suc-le-suc, add-zero, arith}
use Rattle.std.proofs.lemmas.List.{take_all, drop_all, append-nil}
use Rattle.rules.specs.States.{World, idle, at, numbered}
use Rattle.rules.specs.Steps.{put, ticked, effect}
use Rattle.rules.specs.declared.step.Step.TheVariants.{Tick}
use Rattle.table.specs.Lists.{Lists}

-- f of the first k of xs, the first being number i
abbrev front : {A : Type 0} → (ℕ → A → A) → ℕ → ℕ → List A → List A
front f i k xs = numbered f i (take k xs) ++ drop k xs

front-more : {A : Type 0} (f : ℕ → A → A) (i k : ℕ) (xs : List A) (d : A) → k < length xs → set (front f i k xs) k (f (i + k) (get_or (front f i k xs) k d)) ≡ front f i (suc k) xs
unfolding numbered
front-more f i k [] d h = absurd (omega arith)
front-more f i zero (x ∷ xs) d h = ap (λ j. f j x ∷ xs) (add-zero i)
front-more f i (suc k) (x ∷ xs) d (suc-le-suc h) =
    let q : i + suc k ≡ i + 1 + k = omega arith in
    ap (λ ys. f i x ∷ ys) (rw q (front-more f (i + 1) k xs d h))

front-all : {A : Type 0} (f : ℕ → A → A) (k : ℕ) (xs : List A) → length xs ≤ k → front f 0 k xs ≡ numbered f 0 xs
front-all f k xs h = rw (take_all k xs h, drop_all k xs h) (append-nil (numbered f 0 xs))

-- the world W after the tick of its first k processes
unfoldable pub ticked_to : Lists → ℕ → World → World
ticked_to T k W = record { processes = front (ticked T) 0 k W.processes; room = W.room }

pub ticked_none : (T : Lists) (W : World) → ticked_to T 0 W ≡ W
unfolding ticked_to numbered
ticked_none T W = refl

pub ticked_more : (T : Lists) (k : ℕ) (W : World) → k < length W.processes → put (ticked_to T k W) k (ticked T k (at (ticked_to T k W) k)) ≡ ticked_to T (k + 1) W
unfolding ticked_to
ticked_more T k W h =
    let z : 0 + k ≡ k = omega arith in
    let n : k + 1 ≡ suc k = omega arith in
    let e = rw z at (front-more (ticked T) 0 k W.processes idle h) in
    rw n (ap (λ ps. record { processes = ps; room = W.room }) e)

pub ticked_all : (T : Lists) (k : ℕ) (W : World) → length W.processes ≤ k → ticked_to T k W ≡ effect T W Tick
unfolding ticked_to effect
ticked_all T k W h = ap (λ ps. record { processes = ps; room = W.room }) (front-all (ticked T) k W.processes h)
