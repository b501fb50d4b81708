-- What the edges of a table say of its locations and processes.
--   hits M e t           the term t reads a variable that M marks where the edge e begins
--   nowhere              a location of which nothing is known
--   spot_at ss p l       the spot of location l of process p
--   chaotic_at cs p      process p is noted as chaotic
--   turned e             the word with the bit of the timer that e times out or rearms
--   noted_spot b e s     the spot s with what e says of it, b being whether its guard is marked
--   noted_spots b e ss   the spots with what e says of where it begins
--   noted_chaos b e cs   the processes with that of e chaotic, if b
--   Surveyed ..          spots and processes are just as the edges es of the table T with the marks M make them
use Rattle.std.specs.Prelude.{◌≡◌, ℕ, ◌+◌, ◌*◌, ◌^◌, ◌<◌, Bool, true, false, cond, ◌&&◌, ◌||◌, List, ℤ, pos, negsuc, ◌==◌, bit_or, nat_lt, slice_index_or, slice_set}
use Rattle.marks.specs.Rules.{Marking}
use Rattle.marks.specs.Words.{bit}
use Rattle.rules.specs.Closing.{invites, marked_guard}
use Rattle.rules.specs.States.{handles, watches}
use Rattle.survey.specs.declared.spots.Spot.{Spot}
use Rattle.table.specs.Examination.{acts, leaves}
use Rattle.std.specs.List.{list_any}
use Rattle.table.specs.Lists.{Lists}
use Rattle.table.specs.Records.{kind_of}
use Rattle.table.specs.declared.record.Edge.{Edge}
use Rattle.table.specs.declared.record.Term.{Term}

abbrev hit_by : (ℕ → Bool) → ℤ → Bool
hit_by f (pos v) = f v
hit_by f (negsuc v) = false

abbrev pub hits : Marking → Edge → Term → Bool
hits M e t = t.operation == 1 && hit_by (M.variable e.process e.from) t.argument

abbrev pub nowhere : Spot
nowhere = record { acting = false; guard_marked = false; handled = 0 }

unfoldable pub spot_at : List Spot → ℕ → ℕ → Spot
spot_at ss p l = cond (nat_lt p 8 && nat_lt l 16) (slice_index_or ss (16 * p + l) nowhere) nowhere

unfoldable pub chaotic_at : List Bool → ℕ → Bool
chaotic_at cs p = nat_lt p 8 && slice_index_or cs p false

abbrev pub turned : Edge → ℕ
turned e = cond (watches (kind_of e.kind) && nat_lt e.first 8) (2 ^ e.first) 0

abbrev pub noted_spot : Bool → Edge → Spot → Spot
noted_spot b e s = record {
  acting = s.acting || acts e;
  guard_marked = s.guard_marked || b;
  handled = bit_or s.handled (turned e);
}

unfoldable pub noted_spots : Bool → Edge → List Spot → List Spot
noted_spots b e ss =
    cond (nat_lt e.process 8 && nat_lt e.from 16) (slice_set ss (16 * e.process + e.from) (noted_spot b e (slice_index_or ss (16 * e.process + e.from) nowhere))) ss

unfoldable pub noted_chaos : Bool → Edge → List Bool → List Bool
noted_chaos b e cs = cond (b && nat_lt e.process 8) (slice_set cs e.process true) cs

pub record Surveyed (T : Lists) (M : Marking) (es : List Edge) (ss : List Spot) (cs : List Bool) : Type 0 where
  pub acting : (p l : ℕ) → p < 8 → l < 16 → (spot_at ss p l).acting ≡ list_any (leaves p l acts) es
  pub guards : (p l : ℕ) → p < 8 → l < 16 → (spot_at ss p l).guard_marked ≡ list_any (leaves p l (marked_guard T M)) es
  pub handled : (p l n : ℕ) → p < 8 → l < 16 → n < 8 → bit (spot_at ss p l).handled n ≡ list_any (leaves p l (handles n)) es
  pub chaos : (p : ℕ) → p < 8 → chaotic_at cs p ≡ list_any (λ e. (e.process == p) && invites T e) es
