-- Numbers in bytes, the highest byte first.
--   byte_at bs i     byte i, 0 past the end
--   pair_at bs i     the number of two bytes from byte i on
--   value_at bs i    the same as a value
use Rattle.std.specs.Prelude.{ℕ, ◌+◌, ℤ, List, [], ◌∷◌, slice_index_or}
use Rattle.std.specs.Int.{w16, cast_signed, from_be_bytes}

abbrev pub byte_at : List ℕ → ℕ → ℕ
byte_at bs i = slice_index_or bs i 0

abbrev pub pair_at : List ℕ → ℕ → ℕ
pair_at bs i = from_be_bytes w16 (byte_at bs i ∷ byte_at bs (i + 1) ∷ [])

abbrev pub value_at : List ℕ → ℕ → ℤ
value_at bs i = cast_signed w16 (pair_at bs i)
