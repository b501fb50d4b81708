-- Rows of added edges.
--   turn_edge t p l n   the edge that turns timer n at location l of process p as t says
--   loop_edge x         the edge that the loop x is
--   edges_of r          the edges of the row r
--   timer_edges m h ..  what is added for a timer: nothing unless it is marked (m); a timeout unless an edge handles it (h); a rearm
--   chaos_edges c ..    what is added for a chaos timer, if there is one (c)
--   at_spot ..          what is added at a location, by its spot
--   spot_timers ..      that of its first n timers
--   Shape               how many locations and timers a process has, as far as they may be
--   shape r             the shape of the process r
--   of_process ..       what is added to a process of a shape
--   added_by ..         what is added to the processes, at most eight
use Rattle.std.specs.Prelude.{ℕ, min, Bool, cond, List, [], ◌∷◌, ◌++◌, map, slice_index_or}
use Rattle.std.specs.List.{range_with_len, flat_map}
use Rattle.loops.specs.declared.row.Loop.{Loop}
use Rattle.loops.specs.declared.row.Loops.{Loops}
use Rattle.loops.specs.declared.row.Turn.{Turn}
use Rattle.loops.specs.declared.row.Turn.TheVariants.{Timeout, Rearm}
use Rattle.marks.specs.Rules.{Marking}
use Rattle.marks.specs.Words.{bit}
use Rattle.rules.specs.Closing.{rearm, timeout}
use Rattle.survey.specs.Surveys.{spot_at, chaotic_at}
use Rattle.survey.specs.declared.spots.Spot.{Spot}
use Rattle.table.specs.Edges.{blank}
use Rattle.table.specs.Lists.{Proc}
use Rattle.table.specs.declared.record.Edge.{Edge}

abbrev pub turn_edge : Turn → ℕ → ℕ → ℕ → Edge
turn_edge Timeout p l n = timeout p l n
turn_edge Rearm p l n = rearm p l n

abbrev pub loop_edge : Loop → Edge
loop_edge x = turn_edge x.turn x.place.process x.place.location x.timer

abbrev pub edges_of : Loops → List Edge
edges_of r = map loop_edge r.items.items

abbrev pub timer_edges : Bool → Bool → ℕ → ℕ → ℕ → List Edge
timer_edges m h p l n = cond m (cond h (rearm p l n ∷ []) (timeout p l n ∷ rearm p l n ∷ [])) []

abbrev pub chaos_edges : Bool → ℕ → ℕ → ℕ → List Edge
chaos_edges c p l n = cond c (rearm p l n ∷ []) []

unfoldable pub spot_timers : Marking → Spot → ℕ → ℕ → ℕ → List Edge
spot_timers M s p l n = flat_map (λ k. timer_edges (M.timer p l k) (bit s.handled k) p l k) (range_with_len 0 n)

unfoldable pub at_spot : Marking → Spot → Bool → ℕ → ℕ → ℕ → List Edge
at_spot M s c p l n = cond s.acting [] (chaos_edges c p l n ++ spot_timers M s p l n)

pub record Shape : Type 0 where
  pub locations : ℕ
  pub timers : ℕ

abbrev pub shape : Proc → Shape
shape r = record { locations = min r.locations 16; timers = min r.timers 8 }

unfoldable pub of_process : Marking → List Spot → List Bool → Shape → ℕ → ℕ → List Edge
of_process M ss cs h p n = flat_map (λ l. at_spot M (spot_at ss p l) (chaotic_at cs p) p l h.timers) (range_with_len 0 n)

unfoldable pub added_by : Marking → List Spot → List Bool → List Proc → ℕ → List Edge
added_by M ss cs ps n =
    flat_map (λ p. of_process M ss cs (shape (slice_index_or ps p blank)) p (shape (slice_index_or ps p blank)).locations) (range_with_len 0 n)
