use Rattle.marking.proofs.Telling.{shown}
use Rattle.marking.proofs.example.small_table_is_told.Goals as goal

pub returns : goal.returns
returns c = record { shown = shown }
