-- What opening a sheet answers while its edges are not looked at.
--   unjudged a       what a reading of the whole sheet comes to, whatever its edges are
--   bits_opened bs   what the sheet bs holds, or its refusal by the earliest bit
use Rattle.std.specs.Prelude.{ℕ, List, Ok, Err, Result}
use Rattle.reading.specs.Formats.{Answer, got, bad}
use Rattle.reading.specs.Layout.{Contents, sheet_format}
use Rattle.reading.specs.Opening.{Opened, names_byte, placed, split}
use Rattle.refusal.specs.declared.fault.Refusal.{Refusal}

abbrev pub unjudged : Answer Contents → Result Opened Refusal
unjudged (got c e) = Ok (split c.lists (placed (names_byte c.lists) c.names))
unjudged (bad r) = Err r

unfoldable pub bits_opened : List ℕ → Result Opened Refusal
bits_opened bs = unjudged (sheet_format.reads bs 0)
