-- Locations, each by its process.
--   index_of p l   the place of location l of process p, where each of sixteen locations of eight processes has one
use Rattle.std.specs.Prelude.{ℕ, ◌+◌, ◌*◌, cond, ◌&&◌, Some, None, Option, nat_lt}

abbrev pub index_of : ℕ → ℕ → Option ℕ
index_of p l = cond (nat_lt p 8 && nat_lt l 16) (Some (16 * p + l)) None
