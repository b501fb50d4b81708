-- An array whose first places hold a list.
use Rattle.std.proofs.Common.{◌≡◌, ℕ, zero, suc, ◌<◌, ◌≤◌, List, [], ◌∷◌, length, map, take, None, Some, refl, sym, ap, ◌∙◌, arith}
use Rattle.std.proofs.lemmas.List.{map-id, length-take}
use Rattle.std.proofs.lemmas.Option.{slice_get_within}
use Rattle.std.specs.List.{slice_get}
use Rattle.table.proofs.Passing.{none-some}

-- what the first places mean, where each of them means the element of that number
pub take-meant : {A B : Type 0} (v : A → B) (xs : List B) (rs : List A) → length xs ≤ length rs → ((k : ℕ) (y : A) (x : B) → k < length xs → slice_get rs k ≡ Some y → slice_get xs k ≡ Some x → v y ≡ x) → map v (take (length xs) rs) ≡ xs
take-meant v [] rs le same = refl
take-meant v (x ∷ xs) [] le same = absurd (omega arith)
take-meant v (x ∷ xs) (r ∷ rs) le same =
    let rest = take-meant v xs rs (omega arith) (λ k y z lt er ex. same (suc k) y z (omega arith) er ex) in
    ap (λ y. y ∷ map v (take (length xs) rs)) (same 0 r x (omega arith) refl refl) ∙ ap (λ ys. x ∷ ys) rest

pub take-held : {A : Type 0} (xs rs : List A) → length xs ≤ length rs → ((k : ℕ) (y x : A) → k < length xs → slice_get rs k ≡ Some y → slice_get xs k ≡ Some x → y ≡ x) → take (length xs) rs ≡ xs
take-held xs rs le same = sym (map-id (take (length xs) rs)) ∙ take-meant (λ x. x) xs rs le same

-- what stands in a front of a list stands in the list
pub within-front : {A : Type 0} (n : ℕ) (xs : List A) (i : ℕ) (x : A) → slice_get (take n xs) i ≡ Some x → slice_get xs i ≡ Some x
within-front {A} zero xs i x e = none-some x (sym (past i) ∙ e)
  where
    past : (i : ℕ) → slice_get {X = A} [] i ≡ None
    past zero = refl
    past (suc i) = refl
within-front (suc n) [] i x e = e
within-front (suc n) (y ∷ ys) zero x e = e
within-front (suc n) (y ∷ ys) (suc i) x e = within-front n ys i x e

pub inside-front : {A : Type 0} (n : ℕ) (xs : List A) (i : ℕ) (x : A) → slice_get (take n xs) i ≡ Some x → i < n
inside-front n xs i x e = let w = slice_get_within (take n xs) i x e in let le = length-take n xs in omega arith
