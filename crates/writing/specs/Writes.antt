-- What a writer does to the bytes that it is lent.
--   patched W r w v         the number W with v in the w bits that r bits follow
--   AreNarrow fs            each of the fields fs writes a number that its bits hold
--   fields_below fs n       the fields fs 0 up to fs (n - 1), one behind the other
--   Writes fs s t old new   from bit s on it wrote the fields fs, and stands at bit t then: old are the bytes before, new after.
--                           What lies before bit s is as before, and so are the bytes behind bit t
use Rattle.std.specs.Prelude.{◌≡◌, ℕ, zero, suc, ◌+◌, ◌*◌, ◌/◌, ◌%◌, ◌^◌, ◌<◌, ◌≤◌, List, [], ◌∷◌, ◌++◌, length, slice_index}
use Rattle.reading.specs.Formats.{Field, bit, bits, fill}
use Rattle.reading.specs.Spelling.{Spells, ends}

abbrev pub patched : ℕ → ℕ → ℕ → ℕ → ℕ
patched W r w v = W / 2 ^ (r + w) * 2 ^ (r + w) + v * 2 ^ r + W % 2 ^ r

abbrev pub AreNarrow : List Field → Type 0
AreNarrow [] = Unit {0}
AreNarrow (bits w v ∷ fs) = (v < 2 ^ w) × AreNarrow fs
AreNarrow (fill ∷ fs) = AreNarrow fs

unfoldable pub fields_below : (ℕ → List Field) → ℕ → List Field
fields_below fs zero = []
fields_below fs (suc n) = fields_below fs n ++ fs n

-- what would lie behind the last byte is not written
pub record Writes (fs : List Field) (s t : ℕ) (old new : List ℕ) : Type 0 where
  pub place : t ≡ ends s fs
  pub fields : t ≤ 8 * length old → Spells new s fs
  pub before : (i : ℕ) → i < s → bit new i ≡ bit old i
  pub beyond : (i : ℕ) → t ≤ 8 * i → slice_index new i ≡ slice_index old i
  pub size : length new ≡ length old
