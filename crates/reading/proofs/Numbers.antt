-- The number of a row of bits: its parts, and the bytes that hold it.
use Rattle.std.proofs.Common.{◌≡◌, ℕ, zero, suc, ◌+◌, ◌-◌, ◌*◌, ◌/◌, ◌%◌, ◌^◌, ◌<◌, ◌≤◌, List, get_or, sym, refl, ap, ◌∙◌, mul_assoc, mul_comm, arith}
use native.Mathlib.Nat.{pow-succ'}
use lib.Bits.{bit_and}
use Rattle.std.proofs.lemmas.Nat.{shr-shr, shr_high, mod_low, mod_below, one_shl, and_mask}
use Rattle.reading.specs.Formats.{bit, number}

pub number-none : (bs : List ℕ) (p : ℕ) → number bs p 0 ≡ 0
unfolding number
number-none bs p = refl

pub number_more : (bs : List ℕ) (p w : ℕ) → number bs p (suc w) ≡ 2 * number bs p w + bit bs (p + w)
unfolding number
number_more bs p w = refl

pub number-below : (bs : List ℕ) (p w : ℕ) → number bs p w < 2 ^ w
number-below bs p zero = rw number-none (omega arith)
number-below bs p (suc w) =
    let h = number-below bs p w in
    let b = mod_below (get_or bs ((p + w) / 8) 0 / 2 ^ (7 - (p + w) % 8)) 2 (omega arith) in
    omega (arith, number_more bs p w, pow-succ' 2 w)

pub number-split : (bs : List ℕ) (p a b : ℕ) → number bs p (a + b) ≡ number bs p a * 2 ^ b + number bs (p + a) b
number-split bs p a zero =
    let e : a + 0 ≡ a = omega arith in
    let one : number bs p a * 2 ^ 0 ≡ number bs p a = omega arith in
    rw e (omega (arith, number-none bs (p + a)))
number-split bs p a (suc b) =
    let e : a + suc b ≡ suc (a + b) = omega arith in
    let q : p + (a + b) ≡ (p + a) + b = omega arith in
    let x = ap (bit bs) q in
    let k : number bs p a * (2 * 2 ^ b) ≡ 2 * (number bs p a * 2 ^ b) =
    sym (mul_assoc (number bs p a) 2 (2 ^ b)) ∙ ap (λ n. n * 2 ^ b) (mul_comm (number bs p a) 2) ∙ mul_assoc 2 (number bs p a) (2 ^ b) in
    rw e (number_more bs p (a + b) ∙ rw pow-succ' (omega (arith, number-split bs p a b, number_more bs (p + a) b)))

-- bits a to a + w of a row that has r more
pub number-part : (bs : List ℕ) (p a w r : ℕ) → number bs (p + a) w ≡ number bs p (a + w + r) / 2 ^ r % 2 ^ w
number-part bs p a w r =
    sym (
    ap (λ n. n / 2 ^ r % 2 ^ w) (number-split bs p (a + w) r) ∙
    ap (λ n. n % 2 ^ w) (shr_high (number bs p (a + w)) r (number bs (p + (a + w)) r) (number-below bs (p + (a + w)) r)) ∙
    ap (λ n. n % 2 ^ w) (number-split bs p a w) ∙
    mod_low (number bs p a) w (number bs (p + a) w) (number-below bs (p + a) w))

halves : (y : ℕ) → 2 * (y / 2) + y % 2 ≡ y
halves y = omega arith

-- the first k bits of a byte
byte-front : (bs : List ℕ) (i k : ℕ) → get_or bs i 0 < 256 → k ≤ 8 → number bs (8 * i) k ≡ get_or bs i 0 / 2 ^ (8 - k)
byte-front bs i zero h le = number-none bs (8 * i) ∙ omega arith
byte-front bs i (suc k) h le =
    let d : (8 * i + k) / 8 ≡ i = omega arith in
    let m : (8 * i + k) % 8 ≡ k = omega arith in
    let s : 8 - suc k ≡ 7 - k = omega arith in
    let t : (7 - k) + 1 ≡ 8 - k = omega arith in
    let x = shr-shr (get_or bs i 0) (7 - k) 1 in
    number_more bs (8 * i) k ∙
    rw (d, m, s, byte-front bs i k h (omega arith), ← t, ← x) (halves (get_or bs i 0 / 2 ^ (7 - k)))

pub number-byte : (bs : List ℕ) (i : ℕ) → get_or bs i 0 < 256 → number bs (8 * i) 8 ≡ get_or bs i 0
number-byte bs i h = byte-front bs i 8 h (omega arith) ∙ omega arith

-- a byte that begins at a bit of its own
pub number_aligned : (bs : List ℕ) (p : ℕ) → p % 8 ≡ 0 → get_or bs (p / 8) 0 < 256 → number bs p 8 ≡ get_or bs (p / 8) 0
number_aligned bs p e h =
    let q : 8 * (p / 8) ≡ p = omega arith in
    ap (λ k. number bs k 8) (sym q) ∙ number-byte bs (p / 8) h

pub number-bytes : (bs : List ℕ) (i n : ℕ) → get_or bs i 0 < 256 → number bs (8 * i) (8 + n) ≡ get_or bs i 0 * 2 ^ n + number bs (8 * (i + 1)) n
number-bytes bs i n h =
    let e : 8 * i + 8 ≡ 8 * (i + 1) = omega arith in
    number-split bs (8 * i) 8 n ∙ rw (number-byte bs i h, e)

-- w bits from p on lie in three bytes, with r more behind them
pub number-window : (bs : List ℕ) (p w r a b c : ℕ) → p % 8 + w + r ≡ 24 → a ≡ get_or bs (p / 8) 0 → b ≡ get_or bs (p / 8 + 1) 0 → c ≡ get_or bs (p / 8 + 2) 0 →
    a < 256 → b < 256 → c < 256 → number bs p w ≡ (a * 65536 + b * 256 + c) / 2 ^ r % 2 ^ w
number-window bs p w r a b c e x y z la lb lc =
    let i = p / 8 in
    let q : 8 * (p / 8) + p % 8 ≡ p = omega arith in
    let j : p / 8 + 1 + 1 ≡ p / 8 + 2 = omega arith in
    let n1 = number-bytes bs (p / 8) 16 (rw (← x) la) in
    let n2 = number-bytes bs (p / 8 + 1) 8 (rw (← y) lb) in
    let n3 = number-byte bs (p / 8 + 2) (rw (← z) lc) in
    let all : number bs (8 * (p / 8)) 24 ≡ a * 65536 + b * 256 + c = omega (arith, ap (λ k. number bs (8 * k) 8) j) in
    ap (λ k. number bs k w) (sym q) ∙ number-part bs (8 * (p / 8)) (p % 8) w r ∙ ap (λ k. number bs (8 * (p / 8)) k / 2 ^ r % 2 ^ w) e ∙ ap (λ k. k / 2 ^ r % 2 ^ w) all

-- the mask of w bits
pub masked : (n w : ℕ) → w < 32 → bit_and n ((1 * 2 ^ w) % 2 ^ 32 - 1) ≡ n % 2 ^ w
masked n w h = rw (one_shl w 32 h) (and_mask n w)
