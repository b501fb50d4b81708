-- The number, layer and place of every refusal of writing.
--   write_refusal f    a table's refusal stays whole
use Rattle.refusal.specs.Refusals.{refusal, table_refusal}
use Rattle.refusal.specs.declared.fault.Layer.{Layer}
use Rattle.refusal.specs.declared.fault.Place.{Place}
use Rattle.refusal.specs.declared.fault.Refusal.{Refusal}
use Rattle.writing.specs.declared.fault.WriteFault.{WriteFault}
use Rattle.writing.specs.declared.fault.WriteFault.TheVariants.{Processes, Table, Names, Short}

abbrev pub write_refusal : WriteFault → Refusal
write_refusal Processes = refusal 3 Layer.Sheet (Place.At 8)
write_refusal (Table f) = table_refusal f
write_refusal (Names b) = refusal 6 Layer.Sheet (Place.At b)
write_refusal (Short n) = refusal 22 Layer.Output (Place.At n)
