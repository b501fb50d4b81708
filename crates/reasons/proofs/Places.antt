-- The first place in a list at which a test passes, as a loop finds it.
use Rattle.std.proofs.Common.{◌≡◌, ℕ, ◌+◌, Bool, true, false, List, drop, Some, None}
use Rattle.std.specs.List.{slice_get, position_from}
use Rattle.table.proofs.Windows.{drop-some, drop-none}

module _ {A : Type 0} (f : A → Bool) (xs : List A) (i : ℕ) where
  pub position-hit : (x : A) → slice_get xs i ≡ Some x → f x ≡ true → position_from f i (drop i xs) ≡ Some i
  position-hit x e t = rw (drop-some xs i x e, t)

  pub position-miss : (x : A) → slice_get xs i ≡ Some x → f x ≡ false → position_from f i (drop i xs) ≡ position_from f (i + 1) (drop (i + 1) xs)
  position-miss x e t = rw (drop-some xs i x e, t)

  pub position-end : slice_get xs i ≡ None → position_from f i (drop i xs) ≡ None
  position-end e = rw (drop-none xs i e)
