-- The number, layer and place of every refusal of an edge and of a table.
--   refusal n l p      refusal n of layer l at place p, met outside a sheet
--   edge_number f      the number of an edge's fault
--   edge_refusal b     an edge's refusal: its place is the edge's number
--   table_refusal f    a table's refusal
--   outcome told r     None where r is accepted, and the refusal as `told` tells it
--   refusal_in f       the refusal that a failure carries; none where memory ran out
--   first ts           the first of the numbered tests ts that applies
use Rattle.std.specs.Prelude.{ℕ, Bool, cond, List, [], ◌∷◌, Some, None, Ok, Err, Option, Result}
use Rattle.refusal.specs.declared.failure.Failure.{Failure}
use Rattle.refusal.specs.declared.failure.Failure.TheVariants.{Refused, OutOfMemory}
use Rattle.refusal.specs.declared.fault.BadEdge.{BadEdge}
use Rattle.refusal.specs.declared.fault.EdgeFault.{EdgeFault}
use Rattle.refusal.specs.declared.fault.EdgeFault.TheVariants.{Missing, Unfit, Malformed, Expression}
use Rattle.refusal.specs.declared.fault.Layer.{Layer}
use Rattle.refusal.specs.declared.fault.Place.{Place}
use Rattle.refusal.specs.declared.fault.Refusal.{Refusal}
use Rattle.refusal.specs.declared.fault.TableFault.{TableFault}
use Rattle.refusal.specs.declared.fault.TableFault.TheVariants.{Limit, Edge, Mixed, Stuck}

abbrev pub refusal : ℕ → Layer → Place → Refusal
refusal n l p = record { number = n; layer = l; place = p; sheet = None }

abbrev pub edge_number : EdgeFault → ℕ
edge_number Missing = 7
edge_number Unfit = 8
edge_number Malformed = 10
edge_number Expression = 9

abbrev pub edge_refusal : BadEdge → Refusal
edge_refusal b = refusal (edge_number b.fault) Layer.Edge (Place.At b.edge)

abbrev pub table_refusal : TableFault → Refusal
table_refusal (Limit p) = refusal 3 Layer.Table (Place.At p)
table_refusal (Edge b) = edge_refusal b
table_refusal (Mixed p l) = refusal 11 Layer.Table (Place.Pair p l)
table_refusal (Stuck p l) = refusal 12 Layer.Table (Place.Pair p l)

abbrev pub outcome : {A E R : Type 0} → (E → R) → Result A E → Option R
outcome told (Ok x) = None
outcome told (Err e) = Some (told e)

abbrev pub refusal_in : Failure → Option Refusal
refusal_in (Refused r) = Some r
refusal_in OutOfMemory = None

abbrev pub first : {R : Type 0} → List (Bool × R) → Option R
first [] = None
first (t ∷ ts) = cond t.0 (Some t.1) (first ts)
