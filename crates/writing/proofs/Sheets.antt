-- The fields of a whole sheet.
use Rattle.std.proofs.Common.{◌≡◌, ℕ, List, ◌∷◌, ◌++◌, map, ap, ◌∙◌}
use Rattle.reading.proofs.Sizes.{before_fill, names-writes, sheet-writes}
use Rattle.reading.specs.Formats.{bits, fill}
use Rattle.reading.specs.Layout.{sheet_format}
use Rattle.reading.specs.Spelling.{area_of}
use Rattle.table.specs.Lists.{Lists}

pub sheet-fields : (T : Lists) (ts : List (List ℕ)) → sheet_format.writes (record { lists = T; names = ts }) ≡ before_fill T ++ (fill ∷ map (bits 8) (area_of ts))
sheet-fields T ts = sheet-writes (record { lists = T; names = ts }) ∙ ap (λ fs. before_fill T ++ (fill ∷ fs)) (names-writes ts)
