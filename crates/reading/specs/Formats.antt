-- Formats: how a value is read from bits and written to them, both said at once.
--   bit bs p             bit p of the bytes bs; bit 0 is the top bit of byte 0
--   number bs p w        the number that w bits of the bytes bs write from bit p on, most significant first; bits past the end are 0
--   Answer A             got x q: the value x, and q, the bit after it; bad r: the refusal r of the first fault
--   after a next         what follows an answer, unless it is bad
--   fault n p            refusal n at bit p
--   Field                bits w v: w bits that write v; fill: zero bits up to the next whole byte
--   Format A             reads bs p: the answer from bit p of bs on; writes x: the fields that x is written as
--   taken w least most r   reads w bits: refused with 1 where they are cut, and with r where their number is not least to most
--   field w least most n   one field of w bits, refused with 1 where it is cut, and with n where it is not least to most
--   plain w              one field of w bits, at most 16, with any content
--   signed               16 bits, two's complement
--   via to from f        f with its values renamed
--   then f part rest     f and then rest, which knows what f read; part is what f writes of the whole
--   done x               nothing more: the value is x
--   each n f             reads n times f, one after the other
--   many n f             n times f
--   filled               the fill
--   ended                the end of the bytes, refused with 5 where more follow
use Rattle.std.specs.Prelude.{ℕ, zero, suc, ◌+◌, ◌-◌, ◌*◌, ◌/◌, ◌%◌, ◌^◌, cond, ◌&&◌, List, [], ◌∷◌, ◌++◌, length, ℤ, nat_le, nat_lt, slice_index}
use Rattle.std.specs.Int.{w16, cast_signed, cast_unsigned}
use Rattle.std.specs.List.{flat_map}
use Rattle.refusal.specs.Refusals.{refusal}
use Rattle.refusal.specs.declared.fault.Layer.{Layer}
use Rattle.refusal.specs.declared.fault.Place.{Place}
use Rattle.refusal.specs.declared.fault.Refusal.{Refusal}

abbrev pub bit : List ℕ → ℕ → ℕ
bit bs p = slice_index bs (p / 8) / 2 ^ (7 - p % 8) % 2

unfoldable pub number : List ℕ → ℕ → ℕ → ℕ
number bs p zero = 0
number bs p (suc w) = 2 * number bs p w + bit bs (p + w)

pub data Answer (A : Type 0) : Type 0 where
  got : A → ℕ → Answer A
  bad : Refusal → Answer A

unfoldable pub after : {A B : Type 0} → Answer A → (A → ℕ → Answer B) → Answer B
after (got x q) next = next x q
after (bad r) next = bad r

abbrev pub fault : {A : Type 0} → ℕ → ℕ → Answer A
fault n p = bad (refusal n Layer.Sheet (Place.At p))

pub data Field : Type 0 where
  bits : ℕ → ℕ → Field
  fill : Field

pub record Format (A : Type 0) : Type 0 where
  pub reads : List ℕ → ℕ → Answer A
  pub writes : A → List Field

-- r is the refusal of a field that is all there and not within least to most
unfoldable pub taken : ℕ → ℕ → ℕ → Refusal → List ℕ → ℕ → Answer ℕ
taken w least most r bs p =
    cond (nat_le (p + w) (8 * length bs)) (cond (nat_le least (number bs p w) && nat_le (number bs p w) most) (got (number bs p w) (p + w)) (bad r)) (fault 1 p)

abbrev pub field : ℕ → ℕ → ℕ → ℕ → Format ℕ
field w least most n = record { reads = λ bs p. taken w least most (refusal n Layer.Sheet (Place.At p)) bs p; writes = λ v. bits w v ∷ [] }

-- no more than 16 bits
abbrev pub plain : ℕ → Format ℕ
plain w = field w 0 65535 1

abbrev pub via : {A B : Type 0} → (A → B) → (B → A) → Format A → Format B
via to from f = record { reads = λ bs p. after (f.reads bs p) (λ x q. got (to x) q); writes = λ y. f.writes (from y) }

abbrev pub signed : Format ℤ
signed = via (cast_signed w16) (cast_unsigned w16) (plain 16)

abbrev pub then : {A B : Type 0} → Format A → (B → A) → (A → Format B) → Format B
then f part rest = record {
  reads = λ bs p. after (f.reads bs p) (λ x q. (rest x).reads bs q);
  writes = λ y. f.writes (part y) ++ (rest (part y)).writes y;
}

abbrev pub done : {A : Type 0} → A → Format A
done x = record { reads = λ _ p. got x p; writes = λ _. [] }

unfoldable pub each : {A : Type 0} → ℕ → (ℕ → Answer A) → ℕ → Answer (List A)
each zero f p = got [] p
each (suc n) f p = after (each n f p) (λ xs q. after (f q) (λ x e. got (xs ++ x ∷ []) e))

abbrev pub many : {A : Type 0} → ℕ → Format A → Format (List A)
many n f = record { reads = λ bs p. each n (f.reads bs) p; writes = λ xs. flat_map f.writes xs }

abbrev pub filled : Format ℕ
filled = record { reads = λ bs p. taken ((8 - p % 8) % 8) 0 0 (refusal 4 Layer.Sheet (Place.At p)) bs p; writes = λ _. fill ∷ [] }

abbrev pub ended : Format ℕ
ended = record { reads = λ bs p. cond (nat_lt p (8 * length bs)) (fault 5 p) (got 0 p); writes = λ _. [] }
