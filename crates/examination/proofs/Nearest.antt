-- The first location that a test hits: as a search finds it, and of tests that agree.
use Rattle.std.proofs.Common.{◌≡◌, ℕ, zero, suc, ◌+◌, ◌<◌, Bool, true, false, cond, List, [], ◌∷◌, map, Some, None, Option, refl, ap, ◌∙◌, arith}
use Rattle.std.specs.List.{slice_get, find, range_with_len}
use Rattle.std.specs.Option.{option_or, option_map}
use Rattle.table.proofs.Passing.{none-parts}
use Rattle.table.specs.Examination.{first_at, first_from, first_location, location_in}
use Rattle.table.specs.Lists.{Proc}
use Rattle.table.specs.declared.site.Site.{Site}
use Rattle.examination.specs.Locations.{pair}

abbrev pub at : ℕ → ℕ → Site
at p l = record { process = p; location = l }

-- among the locations of process p in turn
pub found_in : (h : ℕ → ℕ → Bool) (p n i : ℕ) → option_map pair (find (λ s. h s.process s.location) (map (λ l. at p l) (range_with_len i n))) ≡ option_map (λ l. (p, l)) (first_from (h p) i n)
unfolding first_from
found_in h p zero i = refl
found_in h p (suc n) i = go (h p i) refl (found_in h p n (i + 1))
  where
    go : (b : Bool) → h p i ≡ b → option_map pair (find (λ s. h s.process s.location) (map (λ l. at p l) (range_with_len (i + 1) n))) ≡ option_map (λ l. (p, l)) (first_from (h p) (i + 1) n)
        → option_map pair (cond (h p i) (Some (at p i)) (find (λ s. h s.process s.location) (map (λ l. at p l) (range_with_len (i + 1) n)))) ≡ option_map (λ l. (p, l)) (cond (h p i) (Some i) (first_from (h p) (i + 1) n))
    go true e rest = rw e
    go false e rest = rw e rest

from-cong : (h k : ℕ → Bool) (n i : ℕ) → ((l : ℕ) → l < i + n → h l ≡ k l) → first_from h i n ≡ first_from k i n
unfolding first_from
from-cong h k zero i same = refl
from-cong h k (suc n) i same =
    ap (λ b. cond b (Some i) (first_from h (i + 1) n)) (same i (omega arith)) ∙ ap (λ o. cond (k i) (Some i) o) (from-cong h k n (i + 1) (λ l lt. same l (omega arith)))

first_cong : {A R : Type 0} (f g : ℕ → A → Option R) (xs : List A) (i : ℕ) → ((k : ℕ) (x : A) → slice_get xs k ≡ Some x → f (i + k) x ≡ g (i + k) x) → first_at f i xs ≡ first_at g i xs
unfolding first_at
first_cong f g [] i same = refl
first_cong f g (x ∷ xs) i same =
    let z : i + 0 ≡ i = omega arith in
    ap (λ o. option_or o (first_at f (i + 1) xs)) (rw z at (same 0 x refl)) ∙ ap (option_or (g i x)) (first_cong f g xs (i + 1) (λ k y e. let q : i + 1 + k ≡ i + suc k = omega arith in rw q (same (suc k) y e)))

pub location-cong : (h k : ℕ → ℕ → Bool) (ps : List Proc) → ((p : ℕ) (r : Proc) (l : ℕ) → slice_get ps p ≡ Some r → l < r.locations → h p l ≡ k p l) → first_location h ps ≡ first_location k ps
location-cong h k ps same =
    first_cong (location_in h) (location_in k) ps 0 (λ p r e. let q : 0 + p ≡ p = omega arith in rw q (ap (option_map (λ l. (p, l))) (from-cong (h p) (k p) r.locations 0 (λ l lt. same p r l e (omega arith)))))

first-parts : {A R : Type 0} (f : ℕ → A → Option R) (x : A) (xs : List A) (i : ℕ) → first_at f i (x ∷ xs) ≡ None → (f i x ≡ None) × (first_at f (i + 1) xs ≡ None)
unfolding first_at
first-parts f x xs i e = none-parts (f i x) (first_at f (i + 1) xs) e

-- where no test refused, each element passes
pub first_passes : {A R : Type 0} (f : ℕ → A → Option R) (xs : List A) (i : ℕ) → first_at f i xs ≡ None → (k : ℕ) (x : A) → slice_get xs k ≡ Some x → f (i + k) x ≡ None
first_passes f [] i none k x e = cc
first_passes f (y ∷ ys) i none zero x e =
    let q : y ≡ x = cc in let z : i + 0 ≡ i = omega arith in rw z (rw q at (first-parts f y ys i none).0)
first_passes f (y ∷ ys) i none (suc k) x e =
    let q : i + suc k ≡ i + 1 + k = omega arith in rw q (first_passes f ys (i + 1) (first-parts f y ys i none).1 k x e)

pub passes-parts : {R : Type 0} (o p q : Option R) → option_or o (option_or p q) ≡ None → (o ≡ None) × ((p ≡ None) × (q ≡ None))
passes-parts o p q e = let a = none-parts o (option_or p q) e in (a.0, none-parts p q a.1)
