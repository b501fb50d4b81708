-- What three bytes that were stored leave of the bits around a field.
use Rattle.std.proofs.Common.{◌≡◌, ℕ, zero, suc, ◌+◌, ◌-◌, ◌*◌, ◌/◌, ◌%◌, ◌^◌, ◌<◌, ◌≤◌, ◌⊎◌, inl, inr, List, [], ◌∷◌, ◌++◌, length, get_or, set, replicate, sym, refl, ap, ◌∙◌, arith, length-set, get_or-set_other}
use Rattle.std.specs.Int.{w32, to_be_bytes}
use Rattle.std.proofs.Math.Pow.{mod-mod-pow}
use Rattle.std.proofs.Math.Nat.{mod-eq_of_lt}
use Rattle.std.proofs.lemmas.Bool.{cases_lt}
use Rattle.std.proofs.lemmas.Grind.{get_or-set_at}
use Rattle.std.proofs.lemmas.List.{length-replicate, get_or-append_right, get_or_past}
use Rattle.std.proofs.lemmas.Nat.{shr-shr, field_of}
use Rattle.reading.specs.Formats.{bit, bits, number}
use Rattle.reading.specs.Readings.{window}
use Rattle.reading.specs.Spelling.{Spells, ends}
use Rattle.reading.proofs.Numbers.{number-window}
use Rattle.reading.proofs.Spelled.{number_same}
use Rattle.writing.specs.Writes.{Writes, patched}
use Rattle.writing.proofs.Windows.{patched-above, patched-value, patched-below, patched_small}

-- a number is that of the bytes that hold it
number-bytes-cong : (xs ys : List ℕ) (p w : ℕ) → ((i : ℕ) → p / 8 ≤ i → 8 * i < p + w → get_or xs i 0 ≡ get_or ys i 0) → number xs p w ≡ number ys p w
number-bytes-cong xs ys p w same = number_same xs ys p w (λ i lo hi. ap (λ x. x / 2 ^ (7 - i % 8) % 2) (same (i / 8) (omega arith) (omega arith)))

-- byte k of three, of the number that they write
abbrev pub third : ℕ → ℕ → ℕ
third n k = n / 2 ^ (8 * (2 - k)) % 2 ^ 8

-- bytes f, f + 1 and f + 2 become those of n, as far as they are there
abbrev pub stored : List ℕ → ℕ → ℕ → List ℕ
stored bs f n = set (set (set bs f (third n 0)) (f + 1) (third n 1)) (f + 2) (third n 2)

pub stored-from : (bs xs ys zs four : List ℕ) (f n : ℕ) → four ≡ to_be_bytes w32 n → xs ≡ set bs f (get_or four 1 0) → ys ≡ set xs (f + 1) (get_or four 2 0) → zs ≡ set ys (f + 2) (get_or four 3 0) →
    zs ≡ stored bs f n
stored-from bs xs ys zs four f n d x y z = let one : n / 1 ≡ n = omega arith in rw (z, y, x, d, one)

module _ (bs : List ℕ) (f n : ℕ) where
  pub length-stored : length (stored bs f n) ≡ length bs
  length-stored = simp length-set

  pub stored_in : (i k : ℕ) → i ≡ f + k → k < 3 → i < length bs → get_or (stored bs f n) i 0 ≡ third n k
  stored_in i zero e h l = grind (arith, length-set {A = ℕ}, get_or-set_other {A = ℕ}, get_or-set_at {X = ℕ})
  stored_in i (suc zero) e h l = grind (arith, length-set {A = ℕ}, get_or-set_other {A = ℕ}, get_or-set_at {X = ℕ})
  stored_in i (suc (suc zero)) e h l = grind (arith, length-set {A = ℕ}, get_or-set_other {A = ℕ}, get_or-set_at {X = ℕ})
  stored_in i (suc (suc (suc k))) e h l = absurd (omega arith)

  pub stored_out : (i : ℕ) → (i < f) ⊎ (f + 3 ≤ i) → get_or (stored bs f n) i 0 ≡ get_or bs i 0
  stored_out i h = grind (arith, get_or-set_other {A = ℕ})

-- what two numbers have in common above and below a field
digit-low : (n m k r : ℕ) → n % 2 ^ r ≡ m % 2 ^ r → k + 8 ≤ r → n / 2 ^ k % 2 ^ 8 ≡ m / 2 ^ k % 2 ^ 8
digit-low n m k r same le =
    let e : r - (8 + k) + (8 + k) ≡ r = omega arith in
    let low = λ (x : ℕ). sym (field_of x 8 k) ∙ ap (λ y. y / 2 ^ k) (sym (mod-mod-pow x (r - (8 + k)) (8 + k)) ∙ ap (λ y. x % 2 ^ y % 2 ^ (8 + k)) e) in
    low n ∙ ap (λ y. y % 2 ^ (8 + k) / 2 ^ k) same ∙ sym (low m)

digit-high : (n m t h : ℕ) → n / 2 ^ h ≡ m / 2 ^ h → h ≤ 16 + t → n / 2 ^ 16 / 2 ^ t ≡ m / 2 ^ 16 / 2 ^ t
digit-high n m t h same le =
    let e : h + (16 + t - h) ≡ 16 + t = omega arith in
    let high = λ (x : ℕ). shr-shr x 16 t ∙ ap (λ y. x / 2 ^ y) (sym e) ∙ sym (shr-shr x h (16 + t - h)) in
    high n ∙ ap (λ y. y / 2 ^ (16 + t - h)) same ∙ sym (high m)

get_or-thirds : (n k : ℕ) → k < 3 → get_or (third n 0 ∷ third n 1 ∷ third n 2 ∷ []) k 0 ≡ third n k
get_or-thirds n zero h = refl
get_or-thirds n (suc zero) h = refl
get_or-thirds n (suc (suc zero)) h = refl
get_or-thirds n (suc (suc (suc k))) h = absurd (omega arith)

abbrev pub after_put : List ℕ → ℕ → ℕ → ℕ → ℕ → List ℕ
after_put bs p w v r = stored bs (p / 8) (patched (window bs p) r w v)

-- a field of w bits with the value v, put at bit p of bytes; r more bits of the three bytes follow it
module _ (bs : List ℕ) (p w v r : ℕ) (small : (k : ℕ) → k < 3 → get_or bs (p / 8 + k) 0 < 256) (width : p % 8 + w + r ≡ 24) (narrow : v < 2 ^ w) where
  small-first : get_or bs (p / 8) 0 < 256
  small-first = let z : p / 8 + 0 ≡ p / 8 = omega arith in rw z at (small 0 (omega arith))

  small-window : window bs p < 2 ^ 24
  small-window = omega (arith, small-first, small 1 (omega arith), small 2 (omega arith))

  new-small : patched (window bs p) r w v < 2 ^ 24
  new-small = patched_small (window bs p) r w v narrow (p % 8) 24 (omega arith) small-window

  third-window : (k : ℕ) → k < 3 → third (window bs p) k ≡ get_or bs (p / 8 + k) 0
  third-window zero h = let z : p / 8 + 0 ≡ p / 8 = omega arith in rw z (omega (arith, small-first, small 1 (omega arith), small 2 (omega arith)))
  third-window (suc zero) h = omega (arith, small-first, small 1 (omega arith), small 2 (omega arith))
  third-window (suc (suc zero)) h = omega (arith, small-first, small 1 (omega arith), small 2 (omega arith))
  third-window (suc (suc (suc k))) h = absurd (omega arith)

  pub byte-beyond : (i : ℕ) → p + w ≤ 8 * i → get_or (after_put bs p w v r) i 0 ≡ get_or bs i 0
  byte-beyond i h = go (cases_lt i (p / 8 + 3)) (cases_lt i (length bs))
    where
      go : (i < p / 8 + 3) ⊎ (p / 8 + 3 ≤ i) → (i < length bs) ⊎ (length bs ≤ i) → get_or (after_put bs p w v r) i 0 ≡ get_or bs i 0
      go (inr far) l = stored_out bs (p / 8) (patched (window bs p) r w v) i (inr far)
      go (inl near) (inr past) =
          get_or_past (after_put bs p w v r) i 0 (rw length-stored past) ∙ sym (get_or_past bs i 0 past)
      go (inl near) (inl inside) =
          let k = i - p / 8 in
          let e : i ≡ p / 8 + k = omega arith in
          let lt : k < 3 = omega arith in
          let low = digit-low (patched (window bs p) r w v) (window bs p) (8 * (2 - k)) r (patched-below (window bs p) r w v narrow) (omega arith) in
          stored_in bs (p / 8) (patched (window bs p) r w v) i k e lt inside ∙ low ∙ third-window k lt ∙ ap (λ j. get_or bs j 0) (sym e)

  -- of the byte that the field begins in
  first-before : (t : ℕ) → r + w ≤ 16 + t → get_or (after_put bs p w v r) (p / 8) 0 / 2 ^ t ≡ get_or bs (p / 8) 0 / 2 ^ t
  first-before t le = go (cases_lt (p / 8) (length bs))
    where
      go : (p / 8 < length bs) ⊎ (length bs ≤ p / 8) → get_or (after_put bs p w v r) (p / 8) 0 / 2 ^ t ≡ get_or bs (p / 8) 0 / 2 ^ t
      go (inr past) = ap (λ x. x / 2 ^ t) (get_or_past (after_put bs p w v r) (p / 8) 0 (rw length-stored past) ∙ sym (get_or_past bs (p / 8) 0 past))
      go (inl inside) =
          let n = patched (window bs p) r w v in
          let top : n / 2 ^ 16 % 2 ^ 8 ≡ n / 2 ^ 16 = mod-eq_of_lt (omega (arith, new-small)) in
          let old : window bs p / 2 ^ 16 ≡ get_or bs (p / 8) 0 = omega (arith, small-first, small 1 (omega arith), small 2 (omega arith)) in
          let high = digit-high n (window bs p) t (r + w) (patched-above (window bs p) r w v narrow) le in
          ap (λ x. x / 2 ^ t) (stored_in bs (p / 8) n (p / 8) 0 (omega arith) (omega arith) inside ∙ top) ∙ high ∙ ap (λ x. x / 2 ^ t) old

  pub bit-before : (i : ℕ) → i < p → bit (after_put bs p w v r) i ≡ bit bs i
  bit-before i h = go (cases_lt (i / 8) (p / 8))
    where
      go : (i / 8 < p / 8) ⊎ (p / 8 ≤ i / 8) → bit (after_put bs p w v r) i ≡ bit bs i
      go (inl far) = ap (λ x. x / 2 ^ (7 - i % 8) % 2) (stored_out bs (p / 8) (patched (window bs p) r w v) (i / 8) (inl far))
      go (inr near) =
          let e : i / 8 ≡ p / 8 = omega arith in
          rw e (ap (λ x. x % 2) (first-before (7 - i % 8) (omega arith)))

  pub number-put : w ≤ 16 → p + w ≤ 8 * length bs → number (after_put bs p w v r) p w ≡ v
  number-put few h =
      let n = patched (window bs p) r w v in
      let three = third n 0 ∷ third n 1 ∷ third n 2 ∷ [] in
      let ys = replicate (p / 8) 0 ++ three in
      let there : (i k : ℕ) → i ≡ p / 8 + k → k < 3 → get_or ys i 0 ≡ third n k = λ i k e lt.
      let z : i - p / 8 ≡ k = omega arith in
      get_or-append_right (replicate (p / 8) 0) three (p / 8) i 0 (length-replicate (p / 8) 0) (omega arith) ∙ rw z (get_or-thirds n k lt) in
      let same : number (after_put bs p w v r) p w ≡ number ys p w = number-bytes-cong (after_put bs p w v r) ys p w (λ i lo hi.
      let k = i - p / 8 in
      let e : i ≡ p / 8 + k = omega arith in
      let lt : k < 3 = omega arith in
      stored_in bs (p / 8) n i k e lt (omega arith) ∙ sym (there i k e lt)) in
      let all : third n 0 * 65536 + third n 1 * 256 + third n 2 ≡ n = omega (arith, new-small) in
      same ∙
      number-window ys p w r (third n 0) (third n 1) (third n 2) width (sym (there (p / 8) 0 (omega arith) (omega arith))) (sym (there (p / 8 + 1) 1 refl (omega arith))) (sym (there (p / 8 + 2) 2 refl (omega arith))) (omega arith) (omega arith) (omega arith) ∙
      ap (λ x. x / 2 ^ r % 2 ^ w) all ∙ patched-value (window bs p) r w v narrow

  pub writes_put : w ≤ 16 → Writes (bits w v ∷ []) p (p + w) bs (after_put bs p w v r)
  unfolding ends Spells
  writes_put few = record {
    place = refl;
    fields = λ h. (number-put few h, tt);
    before = bit-before;
    beyond = byte-beyond;
    size = length-stored bs (p / 8) (patched (window bs p) r w v);
  }
