-- Flags of locations, one for each location of eight processes of sixteen.
--   has_at fs p l    location l of process p has its flag in fs
--   noted fs p l     fs with the flag of that location raised, if there is such a location
--   raised f e fs    fs after the edge e: with the flag of the location that it leaves raised, if it passes f
--   Raised fs f es   the flags fs are those that the edges es raise
--   pair s           the process and the location of s
use Rattle.std.specs.Prelude.{◌≡◌, ℕ, ◌+◌, ◌*◌, ◌<◌, Bool, true, false, cond, ◌&&◌, List, nat_lt, slice_index_or, slice_set}
use Rattle.std.specs.List.{list_any}
use Rattle.table.specs.Examination.{leaves}
use Rattle.table.specs.declared.record.Edge.{Edge}
use Rattle.table.specs.declared.site.Site.{Site}

unfoldable pub has_at : List Bool → ℕ → ℕ → Bool
has_at fs p l = (nat_lt p 8 && nat_lt l 16) && slice_index_or fs (16 * p + l) false

unfoldable pub noted : List Bool → ℕ → ℕ → List Bool
noted fs p l = cond (nat_lt p 8 && nat_lt l 16) (slice_set fs (16 * p + l) true) fs

abbrev pub raised : (Edge → Bool) → Edge → List Bool → List Bool
raised f e fs = cond (f e) (noted fs e.process e.from) fs

abbrev pub Raised : List Bool → (Edge → Bool) → List Edge → Type 0
Raised fs f es = (p l : ℕ) → p < 8 → l < 16 → has_at fs p l ≡ list_any (leaves p l f) es

abbrev pub pair : Site → ℕ × ℕ
pair s = (s.process, s.location)
