-- The first answer of a question that is asked at 0, 1, 2 and so on.
--   first_told f i n   the first answer that f gives of the n numbers from i on
use Rattle.std.specs.Prelude.{ℕ, zero, suc, ◌+◌, None, Option}
use Rattle.std.specs.Option.{option_or}

unfoldable pub first_told : {R : Type 0} → (ℕ → Option R) → ℕ → ℕ → Option R
first_told f i zero = None
first_told f i (suc n) = option_or (f i) (first_told f (i + 1) n)
