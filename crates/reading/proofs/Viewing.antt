-- What a view's lists have at a place.
use Rattle.std.proofs.Common.{◌≡◌, ℕ, ◌+◌, ◌*◌, ◌<◌, ◌≤◌, List, length, Some, None, Ok, Err, Result, ap, ◌∙◌, arith}
use Rattle.std.proofs.lemmas.List.FromFn.{length-map-range_with_len, get_or-map-range_with_len}
use Rattle.std.proofs.lemmas.Option.{slice_get-get_or, slice_get_past}
use Rattle.std.specs.List.{slice_get}
use Rattle.std.specs.Result as results
use Rattle.reading.specs.Formats.{Answer, Format}
use Rattle.reading.specs.Readings.{Reads, told, value_or, read_at, row_at}
use Rattle.reading.specs.declared.fault.SheetFault.{SheetFault}
use Rattle.reading.specs.declared.reader.Reader.{Reader}

module _ {A : Type 0} (f : Format A) (d : A) (bs : List ℕ) (p w n : ℕ) where
  pub length-row : length (row_at f d bs p w n) ≡ n
  length-row = length-map-range_with_len (λ k. read_at f d bs (p + w * k)) 0 n

  pub nth-row : (k : ℕ) → k < n → slice_get (row_at f d bs p w n) k ≡ Some (read_at f d bs (p + w * k))
  nth-row k h =
      slice_get-get_or (row_at f d bs p w n) k d (rw length-row h) ∙
      ap Some (get_or-map-range_with_len (λ i. read_at f d bs (p + w * i)) 0 n k k d h (omega arith))

  pub nth-row-past : (k : ℕ) → n ≤ k → slice_get (row_at f d bs p w n) k ≡ None
  nth-row-past k h = slice_get_past (row_at f d bs p w n) k (rw length-row h)

-- a value read, or d: what lies there
pub read-or : {A B : Type 0} {f : List ℕ → ℕ → Answer B} {means : A → B} {s t : Reader} {r : Result A SheetFault} (d : A) →
    Reads f means s r t → means (results.result_unwrap_or r d) ≡ value_or (f s.bytes.now s.place) (means d)
read-or {f} {means} {s} {t} {r} d h = go r h.value
  where
    go : (r : Result _ SheetFault) → told means r t.place ≡ f s.bytes.now s.place → means (results.result_unwrap_or r d) ≡ value_or (f s.bytes.now s.place) (means d)
    go (Ok x) e = ap (λ a. value_or a (means d)) e
    go (Err y) e = ap (λ a. value_or a (means d)) e

-- what a view's goals ask
pub ruleset rows = (length-row, nth-row, nth-row-past, read-or)
