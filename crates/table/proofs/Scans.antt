-- What a loop over a part of a list knows of "some element passes" after each question.
use Rattle.std.proofs.Common.{◌≡◌, ℕ, ◌+◌, ◌<◌, ◌≤◌, Bool, true, false, List, [], ◌∷◌, Some, None, refl, ap, ◌∙◌}
use Rattle.std.specs.List.{slice_get, list_any}
use Rattle.table.proofs.Windows.{window, window-end, window-none, window-some}

pub any-nil : {A : Type 0} (f : A → Bool) → list_any f [] ≡ false
any-nil f = refl

pub any-hit : {A : Type 0} (f : A → Bool) (x : A) (xs : List A) → f x ≡ true → list_any f (x ∷ xs) ≡ true
any-hit f x xs h = rw h

pub any-miss : {A : Type 0} (f : A → Bool) (x : A) (xs : List A) → f x ≡ false → list_any f (x ∷ xs) ≡ list_any f xs
any-miss f x xs h = rw h

module _ {A : Type 0} (f : A → Bool) (xs : List A) (i e : ℕ) where
  pub any-window-end : e ≤ i → list_any f (window xs i e) ≡ false
  any-window-end h = ap (list_any f) (window-end xs i e h) ∙ any-nil f

  pub any-window-none : slice_get xs i ≡ None → list_any f (window xs i e) ≡ false
  any-window-none h = ap (list_any f) (window-none xs i e h) ∙ any-nil f

  pub any-window-hit : (x : A) → i < e → slice_get xs i ≡ Some x → f x ≡ true → list_any f (window xs i e) ≡ true
  any-window-hit x lt h t = ap (list_any f) (window-some xs i e x lt h) ∙ any-hit f x (window xs (i + 1) e) t

  pub any-window-miss : (x : A) → i < e → slice_get xs i ≡ Some x → f x ≡ false → list_any f (window xs i e) ≡ list_any f (window xs (i + 1) e)
  any-window-miss x lt h t = ap (list_any f) (window-some xs i e x lt h) ∙ any-miss f x (window xs (i + 1) e) t
