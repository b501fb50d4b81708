-- What a question at a place tells of the list from that place on, and of a part of it that ends at e.
use Rattle.std.proofs.Common.{◌≡◌, ℕ, zero, suc, ◌+◌, ◌-◌, ◌<◌, ◌≤◌, List, [], ◌∷◌, take, drop, Some, None, refl, ◌∙◌, add-one, arith}
use Rattle.std.specs.List.{slice_get}

pub drop-some : {A : Type 0} (xs : List A) (i : ℕ) (x : A) → slice_get xs i ≡ Some x → drop i xs ≡ x ∷ drop (i + 1) xs
drop-some [] i x e = let z : ◌≡◌ {A = ℕ} 0 1 = cc in absurd (omega arith)
drop-some (y ∷ ys) zero x e = cc
drop-some (y ∷ ys) (suc i) x e = drop-some ys i x e ∙ rw (add-one i, add-one (suc i)) refl

pub drop-none : {A : Type 0} (xs : List A) (i : ℕ) → slice_get xs i ≡ None → drop i xs ≡ []
drop-none [] zero e = refl
drop-none [] (suc i) e = refl
drop-none (y ∷ ys) zero e = let z : ◌≡◌ {A = ℕ} 0 1 = cc in absurd (omega arith)
drop-none (y ∷ ys) (suc i) e = drop-none ys i e

-- the part from i up to e
unfoldable pub window : {A : Type 0} → List A → ℕ → ℕ → List A
window xs i e = take (e - i) (drop i xs)

pub window-whole : {A : Type 0} (xs : List A) (s n : ℕ) → window xs s (s + n) ≡ take n (drop s xs)
unfolding window
window-whole xs s n = let h : s + n - s ≡ n = omega arith in rw h

pub window-end : {A : Type 0} (xs : List A) (i e : ℕ) → e ≤ i → window xs i e ≡ []
unfolding window
window-end xs i e h = let z : e - i ≡ 0 = omega arith in rw z

take-nil : {A : Type 0} (n : ℕ) → take {A = A} n [] ≡ []
take-nil zero = refl
take-nil (suc n) = refl

pub window-none : {A : Type 0} (xs : List A) (i e : ℕ) → slice_get xs i ≡ None → window xs i e ≡ []
unfolding window
window-none xs i e h = rw (drop-none xs i h) (take-nil (e - i))

pub window-some : {A : Type 0} (xs : List A) (i e : ℕ) (x : A) → i < e → slice_get xs i ≡ Some x → window xs i e ≡ x ∷ window xs (i + 1) e
unfolding window
window-some xs i e x lt h = let z : e - i ≡ suc (e - (i + 1)) = omega arith in rw (drop-some xs i x h, z)
