-- The fields of a row of records.
use Rattle.std.proofs.Common.{◌≡◌, ℕ, zero, suc, ◌+◌, ◌-◌, Bool, true, false, cond, nat_le, ◌∷◌, ◌≤◌, List, [], ◌++◌, length, get_or, take, Some, None, Option, refl, sym, ap, ◌∙◌, add-one, arith}
use Rattle.std.specs.List.{flat_map, slice_get}
use Rattle.std.specs.Option.{UnwrapsOrElse, unwrap_or}
use Rattle.std.proofs.lemmas.List.{flat_map_more, take_all, take_more}
use Rattle.std.proofs.lemmas.Option.{unwrap_or-slice_get}
use Rattle.reading.specs.Formats.{Field, bits, field}
use Rattle.reading.specs.Layout.{signal_format}
use Rattle.table.specs.declared.record.Signal.{Signal}
use Rattle.writing.specs.Writes.{Writes, fields_below}
use Rattle.writing.proofs.Joins.{writes_none, writes_join}

fields_below-more : (fs : ℕ → List Field) (n : ℕ) → fields_below fs (n + 1) ≡ fields_below fs n ++ fs n
unfolding fields_below
fields_below-more fs n = rw add-one refl

pub row_none : (fs : ℕ → List Field) (s : ℕ) (bs : List ℕ) → Writes (fields_below fs 0) s s bs bs
unfolding fields_below
row_none fs s bs = writes_none s bs

pub row_more : (fs : ℕ → List Field) (n : ℕ) {s t u : ℕ} {x y z : List ℕ} → Writes (fields_below fs n) s t x y → Writes (fs n) t u y z → Writes (fields_below fs (n + 1)) s u x z
row_more fs n h k = rw fields_below-more (writes_join h k)

-- the records of a list
pub fields_below-list : {A : Type 0} (g : A → List Field) (d : A) (xs : List A) (n : ℕ) → n ≤ length xs → fields_below (λ k. g (get_or xs k d)) n ≡ flat_map g (take n xs)
unfolding fields_below
fields_below-list g d xs zero le = refl
fields_below-list g d xs (suc n) le =
    ap (λ fs. fs ++ g (get_or xs n d)) (fields_below-list g d xs n (omega arith)) ∙ flat_map_more g [] (take n xs) (get_or xs n d) ∙
    ap (flat_map g) (sym (take_more xs n d (omega arith)) ∙ ap (λ k. take k xs) (add-one n))

-- an element of a list, or the default d where there is none
pub read-or : {A : Type 0} (xs : List A) (k : ℕ) (d : A) (o : Option A) (D : A → Type 0) (r : A) → o ≡ slice_get xs k → UnwrapsOrElse o D r → (D r → r ≡ d) → r ≡ get_or xs k d
read-or xs k d o D r e u h = unwrapped o u ∙ ap (λ o. unwrap_or o d) e ∙ unwrap_or-slice_get xs k d
  where
    unwrapped : (o : Option _) → UnwrapsOrElse o D r → r ≡ unwrap_or o d
    unwrapped None u = h u
    unwrapped (Some x) u = u

pub row_all : {A : Type 0} (g : A → List Field) (d : A) (xs : List A) (n : ℕ) {s t : ℕ} {x y : List ℕ} → n ≡ length xs → Writes (fields_below (λ k. g (get_or xs k d)) n) s t x y → Writes (flat_map g xs) s t x y
row_all g d xs n e h =
    let all : fields_below (λ k. g (get_or xs k d)) n ≡ flat_map g xs = fields_below-list g d xs n (omega arith) ∙ ap (flat_map g) (take_all n xs (omega arith)) in
    rw all at h

-- a signal is written alike whatever the number of processes
pub signal-writes : (n : ℕ) (s : Signal) → (signal_format n).writes s ≡ bits 3 s.class ∷ bits 3 s.destination ∷ []
unfolding signal_format
signal-writes n s = go (nat_le s.class 1)
  where
    go : (b : Bool) → bits 3 s.class ∷ (cond b (field 3 0 (n - 1) 3) (field 3 0 0 4)).writes s.destination ++ [] ≡ bits 3 s.class ∷ bits 3 s.destination ∷ []
    go true = refl
    go false = refl
