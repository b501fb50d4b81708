-- Sums over the numbers below n, and the set bits of words.
use Rattle.std.proofs.Common.{◌≡◌, ℕ, zero, suc, ◌+◌, ◌*◌, ◌/◌, ◌%◌, ◌^◌, ◌<◌, eqb, List, get_or, sym, refl, ap, ◌∙◌, pow-suc, mul-suc, arith}
use lib.Count.{ones, ones_step}
use Rattle.std.proofs.lemmas.Bool.{lt-ltb}
use Rattle.marks.specs.Words.{bit, one, sum_below, word_at, marks_in, total}
use Rattle.marks.proofs.Bitwise.{bit-suc}

pub sum-none : (f : ℕ → ℕ) → sum_below 0 f ≡ 0
unfolding sum_below
sum-none f = refl

pub sum_more : (n : ℕ) (f : ℕ → ℕ) → sum_below (n + 1) f ≡ sum_below n f + f n
unfolding sum_below
sum_more n f = let e : n + 1 ≡ suc n = omega arith in rw e

sum-suc : (n : ℕ) (f : ℕ → ℕ) → sum_below (suc n) f ≡ sum_below n f + f n
unfolding sum_below
sum-suc n f = refl

pub sum_same : (n : ℕ) (f g : ℕ → ℕ) → ((i : ℕ) → i < n → f i ≡ g i) → sum_below n f ≡ sum_below n g
sum_same zero f g h = sum-none f ∙ sym (sum-none g)
sum_same (suc n) f g h =
    let a = sum_same n f g (λ i k. h i (omega arith)) in
    let b = h n (omega arith) in
    omega (arith, sum-suc n f, sum-suc n g)

sum_first : (n : ℕ) (f : ℕ → ℕ) → sum_below (suc n) f ≡ f 0 + sum_below n (λ i. f (suc i))
sum_first zero f = omega (arith, sum-suc 0 f, sum-none f, sum-none (λ i. f (suc i)))
sum_first (suc n) f = omega (arith, sum-suc (suc n) f, sum_first n f, sum-suc n (λ i. f (suc i)))

sum_both : (n : ℕ) (f g : ℕ → ℕ) → sum_below n (λ i. f i + g i) ≡ sum_below n f + sum_below n g
sum_both zero f g = omega (arith, sum-none f, sum-none g, sum-none (λ i. f i + g i))
sum_both (suc n) f g = omega (arith, sum-suc n f, sum-suc n g, sum-suc n (λ i. f i + g i), sum_both n f g)

sum-split : (n m : ℕ) (f : ℕ → ℕ) → sum_below (n + m) f ≡ sum_below n f + sum_below m (λ i. f (n + i))
sum-split n zero f = let e : n + 0 ≡ n = omega arith in rw e (omega (arith, sum-none (λ i. f (n + i))))
sum-split n (suc m) f =
    let e : n + suc m ≡ suc (n + m) = omega arith in
    ap (λ k. sum_below k f) e ∙ omega (arith, sum-suc (n + m) f, sum-split n m f, sum-suc m (λ i. f (n + i)))

sum_rows : (w m : ℕ) (f : ℕ → ℕ) → sum_below (w * m) f ≡ sum_below m (λ p. sum_below w (λ l. f (w * p + l)))
sum_rows w zero f =
    let e : w * 0 ≡ 0 = omega arith in
    ap (λ k. sum_below k f) e ∙ sum-none f ∙ sym (sum-none (λ p. sum_below w (λ l. f (w * p + l))))
sum_rows w (suc m) f =
    ap (λ k. sum_below k f) (mul-suc w m) ∙ omega (arith, sum-split (w * m) w f, sum_rows w m f, sum-suc m (λ p. sum_below w (λ l. f (w * p + l))))

low : (y : ℕ) → y < 2 → one (eqb y 1) ≡ y
low zero h = refl
low (suc zero) h = refl
low (suc (suc y)) h = absurd (omega arith)

bit-low : (w : ℕ) → one (bit w 0) ≡ w % 2
unfolding bit
bit-low w = low (w / 1 % 2) (omega arith) ∙ omega arith

ones-zero : ones 0 ≡ 0
unfolding ones
ones-zero = refl

-- the set bits of a word
abbrev pub set-bits : ℕ → ℕ
set-bits w = sum_below 16 (λ b. one (bit w b))

ones_below : (k w : ℕ) → w < 2 ^ k → ones w ≡ sum_below k (λ b. one (bit w b))
ones_below zero zero h = ones-zero ∙ sym (sum-none (λ b. one (bit 0 b)))
ones_below zero (suc w) h = absurd (omega arith)
ones_below (suc k) w h =
    let a = ones_below k (w / 2) (omega (arith, pow-suc 2 k)) in
    let b = sum_same k (λ b. one (bit (w / 2) b)) (λ b. one (bit w (suc b))) (λ i l. ap one (sym (bit-suc w i))) in
    omega (arith, ones_step w, sum_first k (λ b. one (bit w b)), bit-low w)

pub ones-word : (w : ℕ) → w < 2 ^ 16 → ones w ≡ set-bits w
ones-word w h = ones_below 16 w h

abbrev both : ℕ → ℕ → ℕ
both w n = one (bit w n) + one (bit w (8 + n))

bits-both : (w : ℕ) → set-bits w ≡ sum_below 8 (both w)
bits-both w = sum-split 8 8 (λ b. one (bit w b)) ∙ sym (sum_both 8 (λ b. one (bit w b)) (λ b. one (bit w (8 + b))))

location-total : (ws : List ℕ) (p l : ℕ) → p < 8 → l < 16 → set-bits (get_or ws (16 * p + l) 0) ≡ sum_below 8 (λ n. one ((marks_in ws).variable p l n) + one ((marks_in ws).timer p l n))
location-total ws p l h k =
    let w = get_or ws (16 * p + l) 0 in
    let e : word_at ws p l ≡ w = rw (lt-ltb p 8 h, lt-ltb l 16 k) in
    bits-both w ∙ sum_same 8 (both w) (λ n. one ((marks_in ws).variable p l n) + one ((marks_in ws).timer p l n)) (λ n i. rw (e, lt-ltb n 8 i))

-- what the loop over the words counts
pub total-words : (ws : List ℕ) → sum_below 128 (λ i. set-bits (get_or ws i 0)) ≡ total (marks_in ws)
unfolding total
total-words ws =
    sum_rows 16 8 (λ i. set-bits (get_or ws i 0))
    ∙ sum_same 8 (λ p. sum_below 16 (λ l. set-bits (get_or ws (16 * p + l) 0))) _ (λ p h.
    sum_same 16 (λ l. set-bits (get_or ws (16 * p + l) 0)) _ (λ l k. location-total ws p l h k))
