-- What writing answers, for every table, name area and room for the sheet, and what it writes.
--   area_reads n area p   how the layout reads n names from bit p of the area on, and its end
--   misnamed a          what is refused of a name area that reads as a: 6, whatever it is refused with as a part of a sheet
--   miscounted T        the refusal of a table with no process or with nine and more, as a sheet is refused that counts so many
--   names_refused T area   the refusal of a name area that does not hold one name for each process and signal, and no more
--   needed T area       how many bytes the sheet of the table T with the name area takes
--   too_short n room    the refusal of n bytes where there is room for fewer
--   write_refused T area room   the first that is refused: the number of processes, the table, its edges, the names, the room
--   written T area room   how many bytes are written, or the refusal
--   IsWrittenAs T area bs   the bytes bs are the sheet of T with the names that the area holds
use Rattle.std.specs.Prelude.{◌≡◌, ℕ, ◌+◌, cond, ◌||◌, List, length, Some, None, Option, Result, ◌==◌, nat_lt}
use Rattle.std.specs.Option.{option_or}
use Rattle.reading.specs.Formats.{Answer, got, bad, after, many, ended}
use Rattle.reading.specs.Layout.{name_format}
use Rattle.reading.specs.Opening.{names_byte, unless}
use Rattle.reading.specs.Spelling.{IsSheet, area_of}
use Rattle.table.specs.Examination.{edges_refused, limits_refused}
use Rattle.table.specs.Lists.{Lists}
use Rattle.refusal.specs.Refusals.{refusal}
use Rattle.refusal.specs.declared.fault.Layer.{Layer}
use Rattle.refusal.specs.declared.fault.Place.{Place}
use Rattle.refusal.specs.declared.fault.Refusal.{Refusal}

abbrev pub area_reads : ℕ → List ℕ → ℕ → Answer ℕ
area_reads n area p = after ((many n name_format).reads area p) (λ _ q. ended.reads area q)

abbrev pub misnamed : Answer ℕ → Option Refusal
misnamed (got x q) = None
misnamed (bad r) = Some (refusal 6 Layer.Sheet r.place)

abbrev pub miscounted : Lists → Option Refusal
miscounted T = cond (length T.processes == 0 || nat_lt 8 (length T.processes)) (Some (refusal 3 Layer.Sheet (Place.At 8))) None

abbrev pub names_refused : Lists → List ℕ → Option Refusal
names_refused T area = misnamed (area_reads (length T.processes + length T.signals) area 0)

abbrev pub needed : Lists → List ℕ → ℕ
needed T area = names_byte T + length area

abbrev pub too_short : ℕ → ℕ → Option Refusal
too_short n room = cond (nat_lt room n) (Some (refusal 22 Layer.Output (Place.At n))) None

unfoldable pub write_refused : Lists → List ℕ → ℕ → Option Refusal
write_refused T area room =
    option_or (miscounted T) (option_or (limits_refused T) (option_or (edges_refused T) (option_or (names_refused T area) (too_short (needed T area) room))))

abbrev pub written : Lists → List ℕ → ℕ → Result ℕ Refusal
written T area room = unless (write_refused T area room) (needed T area)

abbrev pub IsWrittenAs : Lists → List ℕ → List ℕ → Type 0
IsWrittenAs T area bs = (names : List (List ℕ)) × (area ≡ area_of names) × IsSheet (record { lists = T; names = names }) bs
