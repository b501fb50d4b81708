-- A stack is kept with its top last, and read with its top first.
use Rattle.std.proofs.Common.{◌≡◌, ◌≤◌, List, [], ◌∷◌, reverse, length, ℤ, Some, None, sym, refl, arith}
use Rattle.std.proofs.lemmas.List.{length-reverse}
use Rattle.evaluation.specs.Values.{applied, single}
use Rattle.table.specs.declared.record.Term.{Term}
use Rattle.evaluation.proofs.Evaluations.{applied-bound}

single-none : (xs : List ℤ) → (length xs ≡ 1 → ⊥) → single xs ≡ None
single-none [] ne = refl
single-none (a ∷ []) ne = absurd (ne refl)
single-none (a ∷ b ∷ xs) ne = refl

-- there is just one value or not, whichever end is the top
pub single_reverse : (xs : List ℤ) → single (reverse xs) ≡ single xs
single_reverse [] = refl
single_reverse (a ∷ []) = refl
single_reverse (a ∷ b ∷ xs) = let n : length (reverse (a ∷ b ∷ xs)) ≡ length (a ∷ b ∷ xs) = length-reverse (a ∷ b ∷ xs) in single-none (reverse (a ∷ b ∷ xs)) (λ e. absurd (omega arith))

-- the term's operands were taken, so there are no more values than before
pub taken : (vars : List ℤ) (t : Term) (xs ys : List ℤ) (v : ℤ) → Some (v ∷ reverse ys) ≡ applied vars t (reverse xs) → length ys ≤ length xs
taken vars t xs ys v h =
    let a = applied-bound vars t (reverse xs) (v ∷ reverse ys) (sym h) in
    let l = length-reverse xs in
    let m = length-reverse ys in
    omega arith
