-- What it means that nothing is refused.
use Rattle.std.proofs.Common.{◌≡◌, ℕ, zero, suc, ◌+◌, ◌<◌, Bool, true, false, cond, List, [], ◌∷◌, length, get_or, Some, None, Option, sym, refl, ap, suc-le-suc, zero-le, add-zero, arith}
use Rattle.std.specs.Option.{option_or, option_map}
use Rattle.refusal.specs.Refusals.{refusal}
use Rattle.refusal.specs.declared.fault.Layer.{Layer}
use Rattle.refusal.specs.declared.fault.Place.{Place}
use Rattle.table.specs.Examination.{first_at, limited}

pub none-some : {A : Type 0} {B : Type 0} (x : A) → None ≡ Some x → B
none-some x e = let z : ◌≡◌ {A = ℕ} 0 1 = cc in absurd (omega arith)

pub none-parts : {A : Type 0} (a b : Option A) → option_or a b ≡ None → (a ≡ None) × (b ≡ None)
none-parts None b e = (refl, e)
none-parts (Some x) b e = none-some x (sym e)

pub parts_none : {A : Type 0} (a b : Option A) → a ≡ None → b ≡ None → option_or a b ≡ None
parts_none a b p q = rw (p, q)

pub cond-none : {A : Type 0} (b : Bool) (x : A) → cond b (Some x) None ≡ None → b ≡ false
cond-none true x e = none-some x (sym e)
cond-none false x e = refl

pub mapped-none : {A B : Type 0} (f : A → B) (o : Option A) → option_map f o ≡ None → o ≡ None
mapped-none f None e = refl
mapped-none f (Some x) e = none-some (f x) (sym e)

pub first_at-all : {A R : Type 0} (f : ℕ → A → Option R) (i : ℕ) (xs : List A) → first_at f i xs ≡ None → (k : ℕ) (d : A) → k < length xs → f (i + k) (get_or xs k d) ≡ None
unfolding first_at
first_at-all f i [] e k d h = absurd (omega arith)
first_at-all f i (x ∷ xs) e zero d h = rw add-zero (none-parts (f i x) (first_at f (i + 1) xs) e).0
first_at-all f i (x ∷ xs) e (suc k) d (suc-le-suc h) =
    let r = first_at-all f (i + 1) xs (none-parts (f i x) (first_at f (i + 1) xs) e).1 k d h in
    let q : i + suc k ≡ (i + 1) + k = omega arith in
    rw q r

pub all-first_at : {A R : Type 0} (f : ℕ → A → Option R) (i : ℕ) (xs : List A) → ((k : ℕ) (d : A) → k < length xs → f (i + k) (get_or xs k d) ≡ None) → first_at f i xs ≡ None
unfolding first_at
all-first_at f i [] h = refl
all-first_at f i (x ∷ xs) h =
    let a = h 0 x (suc-le-suc zero-le) in
    let b : f i x ≡ None = rw add-zero at a in
    parts_none (f i x) (first_at f (i + 1) xs) b
    (all-first_at f (i + 1) xs
    (λ k d l.
    let q : (i + 1) + k ≡ i + suc k = omega arith in
    rw q (h (suc k) d (suc-le-suc l))))

pub limit-all : {A : Type 0} (bad : A → Bool) (xs : List A) → first_at (limited bad) 0 xs ≡ None → (k : ℕ) (d : A) → k < length xs → bad (get_or xs k d) ≡ false
limit-all bad xs h k d l = cond-none (bad (get_or xs k d)) (refusal 3 Layer.Table (Place.At (0 + k))) (first_at-all (limited bad) 0 xs h k d l)

pub all-limit : {A : Type 0} (bad : A → Bool) (xs : List A) → ((k : ℕ) (d : A) → k < length xs → bad (get_or xs k d) ≡ false) → first_at (limited bad) 0 xs ≡ None
all-limit bad xs h = all-first_at (limited bad) 0 xs (λ k d l. rw (h k d l))

-- two ways to tell the same refusals
pub told-none : {A B R S : Type 0} (f : ℕ → B → R) (g : ℕ → B → S) (h : A → Option B) (xs : List A) → first_at (λ k x. option_map (f k) (h x)) 0 xs ≡ None → first_at (λ k x. option_map (g k) (h x)) 0 xs ≡ None
told-none f g h xs e =
    all-first_at (λ k x. option_map (g k) (h x)) 0 xs
    (λ k d l. ap (option_map (g (0 + k))) (mapped-none (f (0 + k)) (h (get_or xs k d)) (first_at-all (λ k x. option_map (f k) (h x)) 0 xs e k d l)))
