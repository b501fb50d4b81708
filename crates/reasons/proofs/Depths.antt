-- How many values there are after a part of an expression, and which flaws of a term are flaws of the whole.
use Rattle.std.proofs.Common.{◌≡◌, ◌≢◌, ℕ, Bool, true, false, not, eqb, is_none, IfSome, zero, suc, ◌+◌, ◌-◌, ◌<◌, ◌≤◌, List, [], ◌∷◌, ◌++◌, take, drop, Some, None, length, refl, sym, ap, ◌∙◌, arith, length-drop}
use Rattle.std.specs.Bool.{then_some}
use Rattle.std.specs.List.{slice_get}
use Rattle.std.proofs.lemmas.List.{take_all}
use Rattle.std.specs.Option.{option_and_then}
use Rattle.reasons.specs.Wrongs.{Misses, Stops, values_after}
use Rattle.reasons.specs.declared.flaw.Wrong.{Wrong}
use Rattle.reasons.specs.declared.flaw.Wrong.TheVariants.{Count, Beyond, Unknown, NoVariable, Argument, Lacking, Left}
use Rattle.table.proofs.Windows.{window, window-end}
use Rattle.table.specs.Expressions.{depth_after}
use Rattle.table.specs.declared.record.Span.{Span}
use Rattle.table.specs.declared.record.Term.{Term}

take-next : {A : Type 0} (xs : List A) (m : ℕ) (x : A) → slice_get xs m ≡ Some x → take (suc m) xs ≡ take m xs ++ x ∷ []
take-next [] m x e = let z : ◌≡◌ {A = ℕ} 0 1 = cc in absurd (omega arith)
take-next (y ∷ ys) zero x e = let z : y ≡ x = cc in rw z
take-next (y ∷ ys) (suc m) x e = ap (λ zs. y ∷ zs) (take-next ys m x e)

get-drop : {A : Type 0} (xs : List A) (s k : ℕ) → slice_get (drop s xs) k ≡ slice_get xs (s + k)
get-drop xs zero k = let z : 0 + k ≡ k = omega arith in rw z
get-drop [] (suc s) k = refl
get-drop (x ∷ xs) (suc s) k = let z : suc s + k ≡ suc (s + k) = omega arith in rw z (get-drop xs s k)

window-next : {A : Type 0} (xs : List A) (s i : ℕ) (x : A) → s ≤ i → slice_get xs i ≡ Some x → window xs s (i + 1) ≡ window xs s i ++ x ∷ []
unfolding window
window-next xs s i x le e =
    let z : i + 1 - s ≡ suc (i - s) = omega arith in
    let q : s + (i - s) ≡ i = omega arith in
    rw z (take-next (drop s xs) (i - s) x (get-drop xs s (i - s) ∙ ap (slice_get xs) q ∙ e))

values-next : (n : ℕ) (ts : List Term) (t : Term) (d : ℕ) → values_after n (ts ++ t ∷ []) d ≡ option_and_then (depth_after n t) (values_after n ts d)
unfolding values_after
values-next n [] t d = go (depth_after n t d)
  where
    go : (o : _) → option_and_then (values_after n []) o ≡ o
    go None = refl
    go (Some k) = refl
values-next n (u ∷ us) t d = go (depth_after n u d) (λ k. values-next n us t k)
  where
    go : (o : _) → ((k : ℕ) → values_after n (us ++ t ∷ []) k ≡ option_and_then (depth_after n t) (values_after n us k)) → option_and_then (values_after n (us ++ t ∷ [])) o ≡ option_and_then (depth_after n t) (option_and_then (values_after n us) o)
    go None rest = refl
    go (Some k) rest = rest k

module _ (n : ℕ) (ts : List Term) (s : ℕ) where
  -- before the first term
  pub values-none : values_after n (window ts s s) 0 ≡ Some 0
  unfolding values_after
  values-none = rw (window-end ts s s (omega arith))

  -- one term more
  pub values-more : (i d a : ℕ) (t : Term) → s ≤ i → slice_get ts i ≡ Some t → values_after n (window ts s i) 0 ≡ Some d → depth_after n t d ≡ Some a → values_after n (window ts s (i + 1)) 0 ≡ Some a
  values-more i d a t le e h k = ap (λ w. values_after n w 0) (window-next ts s i t le e) ∙ values-next n (window ts s i) t 0 ∙ rw h k

none-past : {A : Type 0} (xs : List A) (i : ℕ) → slice_get xs i ≡ None → length xs ≤ i
none-past [] i e = omega arith
none-past (y ∷ ys) zero e = let z : ◌≡◌ {A = ℕ} 0 1 = cc in absurd (omega arith)
none-past (y ∷ ys) (suc i) e = let h = none-past ys i e in omega arith

-- what lies past the end adds nothing
pub window-past : {A : Type 0} (xs : List A) (s i e : ℕ) → slice_get xs i ≡ None → i ≤ e → window xs s e ≡ window xs s i
unfolding window
window-past xs s i e none le =
    let past = none-past xs i none in
    take_all (e - s) (drop s xs) (omega (arith, length-drop s xs)) ∙ sym (take_all (i - s) (drop s xs) (omega (arith, length-drop s xs)))

-- a term that stops there
pub stops-misses : (n : ℕ) (ts : List Term) (s : Span) (i d : ℕ) (t : Term) (w : Wrong) → s.start ≤ i → i < s.start + s.count → slice_get ts i ≡ Some t → values_after n (window ts s.start i) 0 ≡ Some d → Stops n t i d w → Misses n ts s w
unfolding window
stops-misses n ts s i d t (Count c) lo hi e h p = absurd p
stops-misses n ts s i d t Beyond lo hi e h p = absurd p
stops-misses n ts s i d t (Unknown k o) lo hi e h p = rw (p.0, e, h) (lo, (hi, (refl, p.1)))
stops-misses n ts s i d t (NoVariable k v) lo hi e h p = rw (p.0, e, h) (lo, (hi, (refl, p.1)))
stops-misses n ts s i d t (Argument k a) lo hi e h p = rw (p.0, e, h) (lo, (hi, (refl, p.1)))
stops-misses n ts s i d t (Lacking k) lo hi e h p = rw (p.0, e, h) (lo, (hi, (refl, p.1)))
stops-misses n ts s i d t (Left k) lo hi e h p = absurd p

-- the end of the span, where so many values are left
pub left-none : (d : ℕ) → is_none (then_some (not (eqb d 1)) (Left d)) ≡ eqb d 1
left-none d = go (eqb d 1)
  where
    go : (b : Bool) → is_none (then_some (not b) (Left d)) ≡ b
    go true = refl
    go false = refl

pub left-misses : (n : ℕ) (ts : List Term) (s : Span) (d : ℕ) → values_after n (window ts s.start (s.start + s.count)) 0 ≡ Some d → IfSome (then_some (not (eqb d 1)) (Left d)) (Misses n ts s)
unfolding window
left-misses n ts s d h = go (eqb d 1) refl
  where
    differs : eqb d 1 ≡ false → d ≢ 1
    differs e p = let z : eqb 1 1 ≡ false = rw p at e in cc

    go : (b : Bool) → eqb d 1 ≡ b → IfSome (then_some (not b) (Left d)) (Misses n ts s)
    go true e = tt
    go false e = (differs e, h)
