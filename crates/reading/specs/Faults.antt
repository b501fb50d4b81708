-- The number, layer and place of every refusal of a sheet.
--   sheet_refusal f    an edge's refusal stays whole, with the first bit of the edge's record beside it
use Rattle.std.specs.Prelude.{Some}
use Rattle.reading.specs.declared.fault.EdgeAt.{EdgeAt}
use Rattle.reading.specs.declared.fault.SheetFault.{SheetFault}
use Rattle.reading.specs.declared.fault.SheetFault.TheVariants.{Short, Version, Limit, NotZero, Name, Surplus, Edge}
use Rattle.refusal.specs.Refusals.{refusal, edge_number}
use Rattle.refusal.specs.declared.fault.Layer.{Layer}
use Rattle.refusal.specs.declared.fault.Place.{Place}
use Rattle.refusal.specs.declared.fault.Refusal.{Refusal}

abbrev pub edge_at_refusal : EdgeAt → Refusal
edge_at_refusal e =
    record { number = edge_number e.bad.fault; layer = Layer.Edge; place = Place.At e.bad.edge; sheet = Some e.bit }

abbrev pub sheet_refusal : SheetFault → Refusal
sheet_refusal (Short b) = refusal 1 Layer.Sheet (Place.At b)
sheet_refusal (Version b) = refusal 2 Layer.Sheet (Place.At b)
sheet_refusal (Limit b) = refusal 3 Layer.Sheet (Place.At b)
sheet_refusal (NotZero b) = refusal 4 Layer.Sheet (Place.At b)
sheet_refusal (Name b) = refusal 6 Layer.Sheet (Place.At b)
sheet_refusal (Surplus b) = refusal 5 Layer.Sheet (Place.At b)
sheet_refusal (Edge e) = edge_at_refusal e
