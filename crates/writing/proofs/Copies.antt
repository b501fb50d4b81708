-- Bytes that are copied as they are.
use Rattle.std.proofs.Common.{◌≡◌, ℕ, suc, ◌+◌, ◌-◌, ◌*◌, ◌/◌, ◌%◌, ◌^◌, ◌<◌, ◌≤◌, List, [], ◌∷◌, map, length, get_or, ap, ◌∙◌, arith}
use Rattle.std.proofs.lemmas.List.{places}
use borrow.Rule.Slice.PartMut.{put_mid}
use Rattle.reading.specs.Formats.{bits}
use Rattle.reading.specs.Spelling.{Spells, ends}
use Rattle.reading.proofs.Numbers.{number-byte}
use Rattle.writing.specs.Writes.{Writes}

pub ends-bytes : (xs : List ℕ) (a : ℕ) → ends (8 * a) (map (bits 8) xs) ≡ 8 * (a + length xs)
unfolding ends
ends-bytes [] a = omega arith
ends-bytes (x ∷ xs) a =
    let e : 8 * a + 8 ≡ 8 * (a + 1) = omega arith in
    ap (λ p. ends p (map (bits 8) xs)) e ∙ ends-bytes xs (a + 1) ∙ omega arith

pub spells-bytes : (bs xs : List ℕ) (a : ℕ) → ((i : ℕ) → i < length xs → get_or bs (a + i) 0 ≡ get_or xs i 0) → ((i : ℕ) → get_or xs i 0 < 256) → Spells bs (8 * a) (map (bits 8) xs)
unfolding Spells
spells-bytes bs [] a same small = tt
spells-bytes bs (x ∷ xs) a same small =
    let z : a + 0 ≡ a = omega arith in
    let here : get_or bs a 0 ≡ x = rw z at (same 0 (omega arith)) in
    let e : 8 * a + 8 ≡ 8 * (a + 1) = omega arith in (
      number-byte bs a (rw here (small 0)) ∙ here,
      rw e (spells-bytes bs xs (a + 1) (λ i lt. let q : a + 1 + i ≡ a + suc i = omega arith in rw q (same (suc i) (omega arith))) (λ i. small (suc i))),
    )

module _ (bs xs : List ℕ) (a k : ℕ) (whole : k ≡ length xs) (fits : a + length xs ≤ length bs) where
  byte-before : (i : ℕ) → i < a → get_or (put_mid a k bs xs) i 0 ≡ get_or bs i 0
  byte-before i h = grind (arith, places)

  byte-in : (i : ℕ) → i < length xs → get_or (put_mid a k bs xs) (a + i) 0 ≡ get_or xs i 0
  byte-in i h = grind (arith, places)

  byte-beyond : (i : ℕ) → a + length xs ≤ i → get_or (put_mid a k bs xs) i 0 ≡ get_or bs i 0
  byte-beyond i h =
      let e : a + (k + (i - a - k)) ≡ i = omega arith in
      grind (arith, places)

  size : length (put_mid a k bs xs) ≡ length bs
  size = grind (arith, places)

  pub writes_copy : ((i : ℕ) → get_or xs i 0 < 256) → Writes (map (bits 8) xs) (8 * a) (8 * a + 8 * length xs) bs (put_mid a k bs xs)
  writes_copy small = record {
    place = omega (arith, ends-bytes xs a);
    fields = λ h. spells-bytes (put_mid a k bs xs) xs a byte-in small;
    before = λ i lt. ap (λ x. x / 2 ^ (7 - i % 8) % 2) (byte-before (i / 8) (omega arith));
    beyond = λ i le. byte-beyond i (omega arith);
    size = size;
  }
