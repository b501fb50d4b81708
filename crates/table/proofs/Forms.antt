-- What a loop over the terms of an expression knows of its form.
use Rattle.std.proofs.Common.{◌≡◌, ℕ, ◌+◌, ◌-◌, ◌<◌, ◌≤◌, Bool, true, false, cond, ◌&&◌, eqb, leb, List, [], ◌∷◌, Some, None, refl, ap, ◌∙◌, arith}
use Rattle.std.specs.List.{slice_get}
use Rattle.table.specs.Expressions.{formed, depth_after, fitting, operands}
use Rattle.table.specs.Records.{operation_of}
use Rattle.table.specs.declared.record.Term.{Term}
use Rattle.table.proofs.Windows.{window, window-end, window-none, window-some}

formed-nil : (n d : ℕ) → formed n [] d ≡ eqb d 1
unfolding formed
formed-nil n d = refl

formed-stops : (n : ℕ) (t : Term) (ts : List Term) (d : ℕ) → depth_after n t d ≡ None → formed n (t ∷ ts) d ≡ false
unfolding formed
formed-stops n t ts d h = rw h

formed-goes : (n : ℕ) (t : Term) (ts : List Term) (d a : ℕ) → depth_after n t d ≡ Some a → formed n (t ∷ ts) d ≡ formed n ts a
unfolding formed
formed-goes n t ts d a h = rw h

module _ (n : ℕ) (ts : List Term) (i e d : ℕ) where
  pub formed-window-end : e ≤ i → formed n (window ts i e) d ≡ eqb d 1
  formed-window-end h = ap (λ w. formed n w d) (window-end ts i e h) ∙ formed-nil n d

  pub formed-window-none : slice_get ts i ≡ None → formed n (window ts i e) d ≡ eqb d 1
  formed-window-none h = ap (λ w. formed n w d) (window-none ts i e h) ∙ formed-nil n d

  pub formed-window-stops : (t : Term) → i < e → slice_get ts i ≡ Some t → depth_after n t d ≡ None → formed n (window ts i e) d ≡ false
  formed-window-stops t lt h s = ap (λ w. formed n w d) (window-some ts i e t lt h) ∙ formed-stops n t (window ts (i + 1) e) d s

  pub formed-window-goes : (t : Term) (a : ℕ) → i < e → slice_get ts i ≡ Some t → depth_after n t d ≡ Some a → formed n (window ts i e) d ≡ formed n (window ts (i + 1) e) a
  formed-window-goes t a lt h s = ap (λ w. formed n w d) (window-some ts i e t lt h) ∙ formed-goes n t (window ts (i + 1) e) d a s

pub depth-bound : (n : ℕ) (t : Term) (d a : ℕ) → depth_after n t d ≡ Some a → a ≤ d + 1
depth-bound n t d a h = go (fitting n t && leb (operands (operation_of t.operation)) d) h
  where
    go : (b : Bool) → cond b (Some (d + 1 - operands (operation_of t.operation))) None ≡ Some a → a ≤ d + 1
    go true e = let f : d + 1 - operands (operation_of t.operation) ≡ a = cc in omega arith
    go false e = let z : ◌≡◌ {A = ℕ} 0 1 = cc in omega arith
