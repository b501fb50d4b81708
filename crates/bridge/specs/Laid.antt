-- What is written into bytes that were lent.
--   laid xs old     old with xs in the place of its first bytes
--   fitted xs old   the same, where there is room for xs, else old
--   spelled ws      numbers of 64 bits as bytes, eight each, the highest first
use Rattle.std.specs.Prelude.{ℕ, cond, List, ◌++◌, drop, length, nat_le}
use Rattle.std.specs.Int.{w64, to_be_bytes}
use Rattle.std.specs.List.{flat_map}

unfoldable pub laid : List ℕ → List ℕ → List ℕ
laid xs old = xs ++ drop (length xs) old

abbrev pub fitted : List ℕ → List ℕ → List ℕ
fitted xs old = cond (nat_le (length xs) (length old)) (laid xs old) old

unfoldable pub spelled : List ℕ → List ℕ
spelled ws = flat_map (to_be_bytes w64) ws
