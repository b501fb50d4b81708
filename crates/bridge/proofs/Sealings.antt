-- A sheet is closed or refused, and what is put in front is fitted.
use Rattle.std.proofs.Common.{◌≡◌, Bool, true, false, cond, leb, List, length, is_ok, Ok, Err, Result, refl, sym, ap, ◌∙◌}
use Rattle.std.proofs.lemmas.Bool.{both_ways, leb-false, leb-true}
use Rattle.bridge.specs.Laid.{fitted, laid}
use Rattle.refusal.specs.declared.fault.Refusal.{Refusal}
use Rattle.sealing.specs.Seals.{PutInFront}

module _ {A : Type 0} where
  abbrev refusal_or : Refusal → Result A Refusal → Refusal
  refusal_or d (Ok x) = d
  refusal_or d (Err r) = r

  pub only-refused : (o : Result A Refusal) (f r : Refusal) → o ≡ Err f → o ≡ Err r → f ≡ r
  only-refused o f r p q = sym (ap (refusal_or r) p) ∙ ap (refusal_or r) q

  pub not-closed : (o : Result A Refusal) (x : A) (r : Refusal) → o ≡ Ok x → o ≡ Err r → ⊥
  not-closed o x r p q = both_ways true (sym (ap is_ok p) ∙ ap is_ok q) refl

pub in-front : (vs old new : List _) → PutInFront vs old new → new ≡ fitted vs old
unfolding laid
in-front vs old new h = by (leb (length vs) (length old)) refl
  where
    by : (b : Bool) → leb (length vs) (length old) ≡ b → new ≡ cond b (laid vs old) old
    by true e = h.room (leb-true (length vs) (length old) e)
    by false e = h.short (leb-false (length vs) (length old) e)
