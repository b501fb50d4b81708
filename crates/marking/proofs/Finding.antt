-- Some element of a list: by its place, and as `any` says it.
use Rattle.std.proofs.Common.{◌≡◌, ℕ, zero, suc, ◌<◌, Bool, true, false, List, [], ◌∷◌, Some, sym, refl, ap, ◌∙◌, ⊎_elim, arith}
use Rattle.std.proofs.lemmas.Bool.{or_cases, or_left, or_right, both_ways}
use Rattle.std.proofs.lemmas.List.FromFn.{length-range_with_len, get_or-range_with_len}
use Rattle.std.proofs.lemmas.Option.{slice_get-get_or}
use Rattle.std.specs.List.{slice_get, list_any, range_with_len}
use Rattle.marks.specs.Rules.{indices}

-- an element of xs with a property, and its place
pub record Found {A : Type 0} (P : A → Type 0) (xs : List A) : Type 0 where
  pub place : ℕ
  pub item : A
  pub stands : slice_get xs place ≡ Some item
  pub holds : P item

found-later : {A : Type 0} (P : A → Type 0) (x : A) (xs : List A) → Found P xs → Found P (x ∷ xs)
found-later P x xs r = record { place = suc r.place; item = r.item; stands = r.stands; holds = r.holds }

pub any_found : {A : Type 0} (f : A → Bool) (xs : List A) → list_any f xs ≡ true → Found (λ x. f x ≡ true) xs
any_found f [] e = absurd (both_ways false refl e)
any_found f (x ∷ xs) e =
    ⊎_elim
    (λ h. record { place = 0; item = x; stands = refl; holds = h })
    (λ h. found-later (λ y. f y ≡ true) x xs (any_found f xs h))
    (or_cases (f x) (list_any f xs) e)

pub found-any : {A : Type 0} (f : A → Bool) (xs : List A) (k : ℕ) (x : A) → slice_get xs k ≡ Some x → f x ≡ true → list_any f xs ≡ true
found-any f [] k x e h = let z : ◌≡◌ {A = ℕ} 0 1 = cc in absurd (omega arith)
found-any f (y ∷ ys) zero x e h = let q : x ≡ y = cc in or_left (f y) (list_any f ys) (ap f (sym q) ∙ h)
found-any f (y ∷ ys) (suc k) x e h = or_right (f y) (list_any f ys) (found-any f ys k x e h)

-- the numbers below n, in order
number-at : (n v : ℕ) → v < n → slice_get (range_with_len 0 n) v ≡ Some v
number-at n v h =
    slice_get-get_or (range_with_len 0 n) v 0 (omega (arith, length-range_with_len 0 n))
    ∙ ap Some (omega (arith, get_or-range_with_len 0 n v 0 h))

pub index_at : (v : ℕ) → v < 8 → slice_get indices v ≡ Some v
unfolding indices
index_at v h = number-at 8 v h
