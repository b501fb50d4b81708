-- The first of a few numbered tests that applies.
use Rattle.std.proofs.Common.{◌≡◌, Bool, true, false, List, ◌∷◌, Some}
use Rattle.refusal.specs.Refusals.{first}

module _ {R : Type 0} (b : Bool) (x : R) (rest : List (Bool × R)) where
  pub first-hit : b ≡ true → Some x ≡ first ((b, x) ∷ rest)
  first-hit h = rw h

  pub first-miss : b ≡ false → first rest ≡ first ((b, x) ∷ rest)
  first-miss h = rw h
