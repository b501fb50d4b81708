-- What a reader's answer tells, and what lies at a bit.
--   Room s n              n bits more can be counted: the bit behind them has a number in 64 bits
--   told means r q        the answer of a reader that returns r and stands at bit q then; means is what its values mean
--   Moves r p n q         a reader went from bit p to bit q: by n bits, or at most that many where it refuses
--   Stays r q             a reader that refuses stands at the first bit of the field it refuses
--   Reads f means s r t   a reader in state s returned r and is in state t then: the answer is that of f, and the bytes are the same
--   Steps f w s r t       a reader read one record of the format f, of w bits
--   Walks f d w n s r t   it read n of them, one behind the other; d stands for one that is refused
--   window bs p           the number that three bytes write, from the byte of bit p on; bytes past the end are 0
--   value_or a d          the value of an answer, or d
--   read_at f d bs p      what f reads at bit p of bs, or d where it refuses
--   row_at f d bs p w n   n such values, each w bits behind the one before
use Rattle.std.specs.Prelude.{◌≡◌, ℕ, ◌+◌, ◌*◌, ◌/◌, ◌^◌, ◌<◌, ◌≤◌, List, map, Ok, Err, Result, slice_index}
use Rattle.std.specs.List.{range_with_len}
use Rattle.reading.specs.Faults.{sheet_refusal}
use Rattle.reading.specs.Formats.{Answer, Format, got, bad, many}
use Rattle.reading.specs.declared.reader.Reader.{Reader}
use Rattle.reading.specs.declared.fault.SheetFault.{SheetFault}
use Rattle.refusal.specs.declared.fault.Place.{Place}

abbrev pub Room : Reader → ℕ → Type 0
Room s n = s.place + n < 2 ^ 64

abbrev pub told : {A B : Type 0} → (A → B) → Result A SheetFault → ℕ → Answer B
told means (Ok x) q = got (means x) q
told means (Err f) q = bad (sheet_refusal f)

abbrev pub Moves : {A : Type 0} → Result A SheetFault → ℕ → ℕ → ℕ → Type 0
Moves (Ok x) p n q = q ≡ p + n
Moves (Err f) p n q = q ≤ p + n

abbrev pub Stays : {A : Type 0} → Result A SheetFault → ℕ → Type 0
Stays (Ok x) q = Unit {0}
Stays (Err f) q = (sheet_refusal f).place ≡ Place.At q

pub record Reads {A B : Type 0} (f : List ℕ → ℕ → Answer B) (means : A → B) (s : Reader) (r : Result A SheetFault) (t : Reader) : Type 0 where
  pub value : told means r t.place ≡ f s.bytes.now s.place
  pub same : t.bytes.now ≡ s.bytes.now
  pub stays : Stays r t.place

abbrev pub window : List ℕ → ℕ → ℕ
window bs p = slice_index bs (p / 8) * 65536 + slice_index bs (p / 8 + 1) * 256 + slice_index bs (p / 8 + 2)

abbrev pub value_or : {A : Type 0} → Answer A → A → A
value_or (got x q) d = x
value_or (bad r) d = d

abbrev pub read_at : {A : Type 0} → Format A → A → List ℕ → ℕ → A
read_at f d bs p = value_or (f.reads bs p) d

abbrev pub row_at : {A : Type 0} → Format A → A → List ℕ → ℕ → ℕ → ℕ → List A
row_at f d bs p w n = map (λ k. read_at f d bs (p + w * k)) (range_with_len 0 n)

pub record Steps {A : Type 0} (f : Format A) (w : ℕ) (s : Reader) (r : Result A SheetFault) (t : Reader) : Type 0 where
  pub reads : Reads f.reads (λ x. x) s r t
  pub moves : Moves r s.place w t.place

pub record Walks {A : Type 0} (f : Format A) (d : A) (w n : ℕ) (s : Reader) (r : Result Unit SheetFault) (t : Reader) : Type 0 where
  pub reads : Reads (many n f).reads (λ _. row_at f d s.bytes.now s.place w n) s r t
  pub moves : Moves r s.place (w * n) t.place
