-- What a loop over the terms of an expression knows of its value, and that it has one exactly when it is well formed.
use Rattle.std.proofs.Common.{◌≡◌, ℕ, suc, ◌+◌, ◌-◌, ◌<◌, ◌≤◌, Bool, true, false, cond, ◌&&◌, leb, List, [], ◌∷◌, length, ℤ, is_some, Some, None, Option, sym, refl, ap, ◌∙◌, arith}
use Rattle.std.specs.List.{slice_get}
use Rattle.std.specs.Option.{option_map}
use Rattle.std.proofs.lemmas.Bool.Decides.{nat_tests}
use Rattle.table.specs.Expressions.{depth_after, fitting, formed, operands, suits}
use Rattle.table.specs.Records.{operation_of}
use Rattle.evaluation.specs.Values.{one, two, combined, performed, applied, single, evaluated}
use Rattle.table.specs.declared.record.Operation.{Operation}
use Rattle.table.specs.declared.record.Operation.TheVariants.{Number, Variable, Sum, Difference, Equal, Less, Both, Not, Unknown}
use Rattle.table.specs.declared.record.Term.{Term}
use Rattle.table.proofs.Forms.{depth-bound}
use Rattle.table.proofs.Windows.{window, window-end, window-none, window-some}

-- how many values there are after a term
one-sized : (f : ℤ → ℤ) (s : List ℤ) → option_map length (one f s) ≡ cond (leb 1 (length s)) (Some (length s + 1 - 1)) None
one-sized f [] = refl
one-sized f (a ∷ s) = grind (arith, nat_tests)

two_sized : (f : ℤ → ℤ → ℤ) (s : List ℤ) → option_map length (two f s) ≡ cond (leb 2 (length s)) (Some (length s + 1 - 2)) None
two_sized f [] = refl
two_sized f (b ∷ []) = refl
two_sized f (b ∷ a ∷ s) = grind (arith, nat_tests)

none-sized : (s : List ℤ) → Some (suc (length s)) ≡ cond (leb 0 (length s)) (Some (length s + 1 - 0)) None
none-sized s = grind (arith, nat_tests)

performed-sized : (vars : List ℤ) (o : Operation) (z : ℤ) (s : List ℤ) (b : Bool) → suits (length vars) o z ≡ b → option_map length (cond b (performed vars o z s) None) ≡ cond (b && leb (operands o) (length s)) (Some (length s + 1 - operands o)) None
performed-sized vars o z s false e = refl
performed-sized vars Number z s true e = none-sized s
performed-sized vars Variable z s true e = none-sized s
performed-sized vars Sum z s true e = two_sized (combined Sum) s
performed-sized vars Difference z s true e = two_sized (combined Difference) s
performed-sized vars Equal z s true e = two_sized (combined Equal) s
performed-sized vars Less z s true e = two_sized (combined Less) s
performed-sized vars Both z s true e = two_sized (combined Both) s
performed-sized vars Not z s true e = one-sized _ s
performed-sized vars Unknown z s true e = cc

module _ (vars : List ℤ) (t : Term) (s : List ℤ) where
  applied-sized : option_map length (applied vars t s) ≡ depth_after (length vars) t (length s)
  unfolding applied
  applied-sized = performed-sized vars (operation_of t.operation) t.argument s (fitting (length vars) t) refl

  pub applied-bound : (s' : List ℤ) → applied vars t s ≡ Some s' → length s' ≤ length s + 1
  applied-bound s' e = depth-bound (length vars) t (length s) (length s') (sym applied-sized ∙ ap (option_map length) e)

-- an expression has a value exactly when it is well formed
single-formed : (s : List ℤ) (n : ℕ) → is_some (single s) ≡ formed n [] (length s)
unfolding formed
single-formed [] n = refl
single-formed (a ∷ []) n = refl
single-formed (a ∷ b ∷ s) n = grind (arith, nat_tests)

applied-formed : (vars : List ℤ) (t : Term) (ts : List Term) (s : List ℤ) (o : Option (List ℤ)) → applied vars t s ≡ o → ((s' : List ℤ) → is_some (evaluated vars ts s') ≡ formed (length vars) ts (length s')) → is_some (evaluated vars (t ∷ ts) s) ≡ formed (length vars) (t ∷ ts) (length s)
unfolding evaluated formed
applied-formed vars t ts s None e rest = let d = sym (applied-sized vars t s) ∙ ap (option_map length) e in rw (e, d)
applied-formed vars t ts s (Some s') e rest = let d = sym (applied-sized vars t s) ∙ ap (option_map length) e in rw (e, d) (rest s')

pub evaluated_formed : (vars : List ℤ) (ts : List Term) (s : List ℤ) → is_some (evaluated vars ts s) ≡ formed (length vars) ts (length s)
unfolding evaluated
evaluated_formed vars [] s = single-formed s (length vars)
evaluated_formed vars (t ∷ ts) s = applied-formed vars t ts s (applied vars t s) refl (evaluated_formed vars ts)

-- the steps of the loop
evaluated-stops : (vars : List ℤ) (t : Term) (ts : List Term) (s : List ℤ) → applied vars t s ≡ None → evaluated vars (t ∷ ts) s ≡ None
unfolding evaluated
evaluated-stops vars t ts s h = rw h

evaluated-goes : (vars : List ℤ) (t : Term) (ts : List Term) (s s' : List ℤ) → applied vars t s ≡ Some s' → evaluated vars (t ∷ ts) s ≡ evaluated vars ts s'
unfolding evaluated
evaluated-goes vars t ts s s' h = rw h

evaluated-nil : (vars s : List ℤ) → evaluated vars [] s ≡ single s
unfolding evaluated
evaluated-nil vars s = refl

module _ (vars : List ℤ) (ts : List Term) (i e : ℕ) (s : List ℤ) where
  pub evaluated-window-end : e ≤ i → evaluated vars (window ts i e) s ≡ single s
  evaluated-window-end h = ap (λ w. evaluated vars w s) (window-end ts i e h) ∙ evaluated-nil vars s

  pub evaluated-window-none : slice_get ts i ≡ None → evaluated vars (window ts i e) s ≡ single s
  evaluated-window-none h = ap (λ w. evaluated vars w s) (window-none ts i e h) ∙ evaluated-nil vars s

  pub evaluated-window-stops : (t : Term) → i < e → slice_get ts i ≡ Some t → applied vars t s ≡ None → evaluated vars (window ts i e) s ≡ None
  evaluated-window-stops t lt h n = ap (λ w. evaluated vars w s) (window-some ts i e t lt h) ∙ evaluated-stops vars t (window ts (i + 1) e) s n

  pub evaluated-window-goes : (t : Term) (s' : List ℤ) → i < e → slice_get ts i ≡ Some t → applied vars t s ≡ Some s' → evaluated vars (window ts i e) s ≡ evaluated vars (window ts (i + 1) e) s'
  evaluated-window-goes t s' lt h n = ap (λ w. evaluated vars w s) (window-some ts i e t lt h) ∙ evaluated-goes vars t (window ts (i + 1) e) s s' n
