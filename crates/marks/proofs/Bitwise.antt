-- Bits of a word: what the code's shifts and masks say of them.
use Rattle.std.proofs.Common.{◌≡◌, ℕ, zero, suc, ◌/◌, ◌%◌, ◌^◌, ◌<◌, true, false, ◌||◌, eqb, sym, refl, ap, ◌∙◌, pow-suc, one-add, arith}
use lib.Bits.{bit_and, bit_or}
use Rattle.std.proofs.lemmas.Nat.{and_mask, or_shr, or_mod, shr-shr, mod_below}
use Rattle.std.proofs.lemmas.Bool.{ne_eqb}
use Rattle.std.proofs.lemmas.Bool.Decides.{nat_tests}
use Rattle.marks.specs.Words.{bit}

pub bit_test : (w n : ℕ) → eqb (bit_and (w / 2 ^ n) 1) 1 ≡ bit w n
unfolding bit
bit_test w n = ap (λ y. eqb y 1) (and_mask (w / 2 ^ n) 1)

or-small : (x y : ℕ) → x < 2 → y < 2 → eqb (bit_or x y) 1 ≡ (eqb x 1 || eqb y 1)
or-small zero zero h k = refl
or-small zero (suc zero) h k = refl
or-small (suc zero) zero h k = refl
or-small (suc zero) (suc zero) h k = refl
or-small zero (suc (suc y)) h k = absurd (omega arith)
or-small (suc zero) (suc (suc y)) h k = absurd (omega arith)
or-small (suc (suc x)) zero h k = absurd (omega arith)
or-small (suc (suc x)) (suc zero) h k = absurd (omega arith)
or-small (suc (suc x)) (suc (suc y)) h k = absurd (omega arith)

pub bit-or : (a b n : ℕ) → bit (bit_or a b) n ≡ (bit a n || bit b n)
unfolding bit
bit-or a b n =
    ap (λ y. eqb (y % 2) 1) (or_shr a b n) ∙ ap (λ y. eqb y 1) (or_mod (a / 2 ^ n) (b / 2 ^ n) 1)
    ∙ or-small (a / 2 ^ n % 2) (b / 2 ^ n % 2) (mod_below (a / 2 ^ n) 2 (omega arith)) (mod_below (b / 2 ^ n) 2 (omega arith))

pub bit-suc : (w n : ℕ) → bit w (suc n) ≡ bit (w / 2) n
unfolding bit
bit-suc w n = ap (λ y. eqb (y % 2) 1) (ap (λ m. w / 2 ^ m) (sym (one-add n)) ∙ sym (shr-shr w 1 n))

zero-first : bit 0 0 ≡ false
unfolding bit
zero-first = refl

one-first : bit 1 0 ≡ true
unfolding bit
one-first = refl

pub bit-zero : (n : ℕ) → bit 0 n ≡ false
bit-zero zero = zero-first
bit-zero (suc n) = bit-suc 0 n ∙ bit-zero n

half_pow : (k : ℕ) → 2 ^ suc k / 2 ≡ 2 ^ k
half_pow k = omega (arith, pow-suc 2 k)

pow_even : (k : ℕ) → bit (2 ^ suc k) 0 ≡ false
unfolding bit
pow_even k = let e : 2 ^ suc k / 1 % 2 ≡ 0 = omega (arith, pow-suc 2 k) in ap (λ y. eqb y 1) e

pub bit-pow : (k n : ℕ) → bit (2 ^ k) n ≡ eqb n k
bit-pow zero zero = one-first
bit-pow zero (suc n) = bit-suc 1 n ∙ bit-zero n ∙ sym (ne_eqb (suc n) 0 (λ e. omega arith))
bit-pow (suc k) zero = pow_even k ∙ sym (ne_eqb 0 (suc k) (λ e. omega arith))
bit-pow (suc k) (suc n) =
    let s : eqb n k ≡ eqb (suc n) (suc k) = grind (arith, nat_tests) in
    bit-suc (2 ^ suc k) n ∙ ap (λ w. bit w n) (half_pow k) ∙ bit-pow k n ∙ s
