-- What the flags of locations say after one more is raised, and how they follow a loop over the edges.
use Rattle.std.proofs.Common.{◌≡◌, ℕ, zero, suc, ◌+◌, ◌*◌, ◌<◌, Bool, true, false, cond, ◌&&◌, ◌||◌, eqb, List, [], ◌∷◌, ◌++◌, length, get_or, take, replicate, Some, None, refl, ap, ◌∙◌, add-one, arith, get_or-set_other}
use Rattle.std.proofs.lemmas.Bool.Decides.{nat_tests}
use Rattle.std.proofs.lemmas.Grind.{get_or-set_at}
use Rattle.std.proofs.lemmas.List.{take_more}
use Rattle.std.proofs.lemmas.Option.{slice_get_within, get_or_from_slice_get}
use Rattle.std.specs.List.{slice_get, list_any}
use Rattle.table.specs.Examination.{leaves}
use Rattle.examination.specs.Locations.{Raised, has_at, noted, raised}
use Rattle.table.specs.declared.record.Edge.{Edge}

get_or-replicated : (n i : ℕ) → get_or (replicate n false) i false ≡ false
get_or-replicated zero i = refl
get_or-replicated (suc n) zero = refl
get_or-replicated (suc n) (suc i) = get_or-replicated n i

pub none-raised : (n p l : ℕ) → has_at (replicate n false) p l ≡ false
unfolding has_at
none-raised n p l = rw (get_or-replicated n (16 * p + l)) (grind arith)

has_at-noted : (fs : List Bool) (a b p l : ℕ) → length fs ≡ 128 → p < 8 → l < 16 → has_at (noted fs a b) p l ≡ (has_at fs p l || (eqb a p && eqb b l))
unfolding has_at noted
has_at-noted fs a b p l n hp hl = grind (arith, nat_tests, get_or-set_other {A = Bool}, get_or-set_at {X = Bool})

pub any_push : {A : Type 0} (f : A → Bool) (xs : List A) (x : A) → list_any f (xs ++ x ∷ []) ≡ (list_any f xs || f x)
any_push f [] x = grind arith
any_push f (y ∷ ys) x = rw (any_push f ys x) (grind arith)

pub take-some : {A : Type 0} (xs : List A) (k : ℕ) (x : A) → slice_get xs k ≡ Some x → take (k + 1) xs ≡ take k xs ++ x ∷ []
take-some xs k x e = take_more xs k x (slice_get_within xs k x e) ∙ ap (λ v. take k xs ++ v ∷ []) (get_or_from_slice_get xs k x x e)

pub take_none : {A : Type 0} (xs : List A) (k : ℕ) → slice_get xs k ≡ None → take (k + 1) xs ≡ take k xs
take_none [] zero e = refl
take_none [] (suc k) e = rw add-one
take_none (y ∷ ys) zero e = cc
take_none (y ∷ ys) (suc k) e = rw add-one (ap (λ w. y ∷ w) (rw add-one at (take_none ys k e)))

module _ (fs : List Bool) (f : Edge → Bool) (es : List Edge) (k : ℕ) (so : Raised fs f (take k es)) where
  raised-hit : (e : Edge) → length fs ≡ 128 → slice_get es k ≡ Some e → f e ≡ true → Raised (noted fs e.process e.from) f (take (k + 1) es)
  raised-hit e n h t p l hp hl =
      rw (has_at-noted fs e.process e.from p l n hp hl, take-some es k e h, any_push (leaves p l f) (take k es) e, so p l hp hl, t) (grind arith)

  raised-miss : (e : Edge) → slice_get es k ≡ Some e → f e ≡ false → Raised fs f (take (k + 1) es)
  raised-miss e h t p l hp hl =
      rw (take-some es k e h, any_push (leaves p l f) (take k es) e, so p l hp hl, t) (grind arith)

  pub raised-some : (e : Edge) → length fs ≡ 128 → slice_get es k ≡ Some e → Raised (raised f e fs) f (take (k + 1) es)
  raised-some e n h = by (f e) refl
    where
      by : (b : Bool) → f e ≡ b → Raised (cond b (noted fs e.process e.from) fs) f (take (k + 1) es)
      by true t = raised-hit e n h t
      by false t = raised-miss e h t

  pub raised-none : slice_get es k ≡ None → Raised fs f (take (k + 1) es)
  raised-none h p l hp hl = rw (take_none es k h) (so p l hp hl)
