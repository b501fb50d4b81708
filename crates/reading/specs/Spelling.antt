-- What a table with names is written as, by the layout, and that this is the inverse of opening.
--   width p f         how many bits the field f takes from bit p on
--   content f         the number that it writes
--   ends p fs         the bit behind the fields fs, the first of which begins at bit p
--   Spells bs p fs    the fields fs lie in the bytes bs, one behind the other, from bit p on
--   area_of ts        the name area of the names ts: for each its length and its characters
--   AreBytes bs       no number of bs is more than a byte holds
--   FitsProcess, FitsTerm, FitsRecords   the values, timers and terms of a table, as the records of every table have them
--   IsName t          1 to 15 characters, each from 33 to 126
--   IsWritable c      the table has a process, breaks none of 3 and 7 to 10, and has a name for each process and signal
--   IsSheet c bs      bs is the sheet of the contents c: nothing but the fields that the layout writes for c
--   IsTheSheet c bs   it is the sheet of c, and no other bytes are
--   meaning c         what opening answers of a sheet of c
--   held o            what opened, as the contents of a sheet
--   Inverse bs        bs opens to o exactly if it is the sheet of some contents that mean o
use Rattle.std.specs.Prelude.{◌≡◌, ℕ, ◌+◌, ◌-◌, ◌*◌, ◌%◌, ◌<◌, ◌≤◌, List, [], ◌∷◌, length, Ok, None, FitsSigned, slice_index}
use Rattle.std.specs.Int.{w16}
use Rattle.std.specs.List.{All, flat_map}
use Rattle.reading.specs.Formats.{Field, bits, fill, number}
use Rattle.reading.specs.Layout.{Contents, sheet_format}
use Rattle.reading.specs.Opening.{Opened, names_byte, names_in, opened, placed, split}
use Rattle.table.specs.Examination.{edges_refused, limits_refused}
use Rattle.table.specs.Lists.{Lists, Proc}
use Rattle.table.specs.declared.record.Term.{Term}

abbrev pub width : ℕ → Field → ℕ
width p (bits w v) = w
width p fill = (8 - p % 8) % 8

abbrev pub content : Field → ℕ
content (bits w v) = v
content fill = 0

unfoldable pub ends : ℕ → List Field → ℕ
ends p [] = p
ends p (f ∷ fs) = ends (p + width p f) fs

unfoldable pub Spells : List ℕ → ℕ → List Field → Type 0
Spells bs p [] = Unit {0}
Spells bs p (f ∷ fs) = (number bs p (width p f) ≡ content f) × Spells bs (p + width p f) fs

abbrev pub area_of : List (List ℕ) → List ℕ
area_of ts = flat_map (λ t. length t ∷ t) ts

abbrev pub AreBytes : List ℕ → Type 0
AreBytes bs = (i : ℕ) → slice_index bs i < 256

pub record FitsProcess (p : Proc) : Type 0 where
  pub values : length p.values ≡ p.variables
  pub settings : length p.settings ≡ p.timers
  pub words : All (FitsSigned w16) p.values

pub record FitsTerm (t : Term) : Type 0 where
  pub operation : t.operation ≤ 15
  pub argument : FitsSigned w16 t.argument

pub record FitsRecords (T : Lists) : Type 0 where
  pub processes : All FitsProcess T.processes
  pub terms : All FitsTerm T.terms

pub record IsName (t : List ℕ) : Type 0 where
  pub some : 1 ≤ length t
  pub short : length t ≤ 15
  pub characters : All (λ b. (33 ≤ b) × (b ≤ 126)) t

pub record IsWritable (c : Contents) : Type 0 where
  pub some : 1 ≤ length c.lists.processes
  pub limits : limits_refused c.lists ≡ None
  pub edges : edges_refused c.lists ≡ None
  pub records : FitsRecords c.lists
  pub named : length c.names ≡ length c.lists.processes + length c.lists.signals
  pub names : All IsName c.names

pub record IsSheet (c : Contents) (bs : List ℕ) : Type 0 where
  pub writable : IsWritable c
  pub size : 8 * length bs ≡ ends 0 (sheet_format.writes c)
  pub fields : Spells bs 0 (sheet_format.writes c)

pub record IsTheSheet (c : Contents) (bs : List ℕ) : Type 0 where
  pub sheet : IsSheet c bs
  pub sole : (cs : List ℕ) → AreBytes cs → IsSheet c cs → cs ≡ bs

abbrev pub meaning : Contents → Opened
meaning c = split c.lists (placed (names_byte c.lists) c.names)

abbrev pub held : Opened → Contents
held o = record { lists = o.lists; names = names_in o }

pub record Inverse (bs : List ℕ) : Type 0 where
  pub opens : (c : Contents) → IsSheet c bs → opened bs ≡ Ok (meaning c)
  pub only : (o : Opened) → opened bs ≡ Ok o → (c : Contents) × IsSheet c bs × (o ≡ meaning c)
