-- A sheet whose table is closed, and written as a sheet again.
--   SealedAs bs vs    bs opens, its table can be closed, and vs is the sheet of the closed table with the same names
--   RefusedAs bs f    f is the refusal of opening bs, or else that of testing its table
--   PutInFront vs old new     new is old with vs in the place of its first bytes, if there is room for it, and else as it was
--   SealedInto bs n old new   bs is closed as a sheet of n bytes, which is put in front
use Rattle.std.specs.Prelude.{◌≡◌, ℕ, ◌<◌, ◌≤◌, ◌⊎◌, List, ◌++◌, drop, length, Some, None, Ok, Err, Option}
use Rattle.reading.specs.Opening.{Opened, names_in, opened}
use Rattle.reading.specs.Spelling.{IsSheet}
use Rattle.refusal.specs.declared.fault.Refusal.{Refusal}
use Rattle.rules.specs.Promise.{ClosedBy, Measured}
use Rattle.table.specs.Lists.{Lists}

pub record SealedAs (bs vs : List ℕ) : Type 0 where
  pub holds : Opened
  pub opens : opened bs ≡ Ok holds
  pub meaning : Lists
  pub closed : ClosedBy holds.lists meaning
  pub sheet : IsSheet (record { lists = meaning; names = names_in holds }) vs

abbrev pub RefusedAs : List ℕ → Refusal → Type 0
RefusedAs bs f = (opened bs ≡ Err f) ⊎ ((o : Opened) × (opened bs ≡ Ok o) × Measured o.lists (Err f))

pub record PutInFront (vs old new : List ℕ) : Type 0 where
  pub room : length vs ≤ length old → new ≡ vs ++ drop (length vs) old
  pub short : length old < length vs → new ≡ old

abbrev pub SealedInto : List ℕ → ℕ → List ℕ → List ℕ → Type 0
SealedInto bs n old new = (vs : List ℕ) × SealedAs bs vs × (n ≡ length vs) × PutInFront vs old new
