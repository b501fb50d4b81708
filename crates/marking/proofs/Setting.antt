-- One bit more in a row of words.
use Rattle.std.proofs.Common.{◌≡◌, ℕ, zero, suc, ◌+◌, ◌*◌, ◌/◌, ◌%◌, ◌^◌, ◌<◌, ◌≤◌, Bool, true, false, not, ◌||◌, List, length, get_or, set, replicate, sym, refl, ap, ◌∙◌, ⊎_elim, arith}
use lib.Bits.{bit_or}
use Rattle.std.proofs.lemmas.List.{get_or-set_same, get_or-set_other, get_or_past, get_or-replicate, length-replicate}
use Rattle.std.proofs.lemmas.Bool.{cases_eq, cases_lt, eq-eqb, ne_eqb, or_right}
use Rattle.marks.specs.Words.{bit, one, sum_below}
use Rattle.marking.specs.Instances.{unset}
use Rattle.marks.proofs.Bitwise.{bit-or, bit-pow, bit-zero}
use Rattle.marks.proofs.Counting.{sum-none, sum_more, sum_same}
use Rattle.marking.proofs.Masks.{or-none}

-- the words ws with bit b of word a
abbrev pub with : List ℕ → ℕ → ℕ → List ℕ
with ws a b = set ws a (bit_or (get_or ws a 0) (2 ^ b))

module _ (ws : List ℕ) (a b : ℕ) (there : a < length ws) where
  pub bit-same : bit (get_or (with ws a b) a 0) b ≡ true
  bit-same =
      ap (λ w. bit w b) (get_or-set_same ws a _ 0 there) ∙ bit-or (get_or ws a 0) (2 ^ b) b
      ∙ or_right (bit (get_or ws a 0) b) _ (bit-pow b b ∙ eq-eqb b b refl)

  pub bit-other : (c d : ℕ) → (c ≡ a → d ≡ b → ⊥) → bit (get_or (with ws a b) c 0) d ≡ bit (get_or ws c 0) d
  bit-other c d n = ⊎_elim within apart (cases_eq c a)
    where
      w : ℕ
      w = bit_or (get_or ws a 0) (2 ^ b)

      apart : (c ≡ a → ⊥) → bit (get_or (set ws a w) c 0) d ≡ bit (get_or ws c 0) d
      apart ne = ap (λ v. bit v d) (get_or-set_other ws a c w 0 ne)

      within : c ≡ a → bit (get_or (set ws a w) c 0) d ≡ bit (get_or ws c 0) d
      within e =
          ap (λ k. bit (get_or (set ws a w) k 0) d) e ∙ ap (λ v. bit v d) (get_or-set_same ws a w 0 there)
          ∙ bit-or (get_or ws a 0) (2 ^ b) d ∙ ap (λ x. bit (get_or ws a 0) d || x) (bit-pow b d ∙ ne_eqb d b (n e))
          ∙ or-none (bit (get_or ws a 0) d) ∙ ap (λ k. bit (get_or ws k 0) d) (sym e)

replicate-zero : (n i : ℕ) → ◌≡◌ {A = ℕ} (get_or (replicate n 0) i 0) 0
replicate-zero n i = ⊎_elim (get_or-replicate {A = ℕ} n i 0 0) (λ h. get_or_past (replicate n 0) i 0 (omega (arith, length-replicate {A = ℕ} n 0))) (cases_lt i n)

pub bit-none : (n a b : ℕ) → bit (get_or (replicate n 0) a 0) b ≡ false
bit-none n a b = ap (λ w. bit w b) (replicate-zero n a) ∙ bit-zero b

one-le : (b : Bool) → one b ≤ 1
one-le true = omega arith
one-le false = omega arith

sum-le : (n : ℕ) (f : ℕ → ℕ) → ((i : ℕ) → f i ≤ 1) → sum_below n f ≤ n
sum-le zero f h = omega (arith, sum-none f)
sum-le (suc n) f h =
    let e : n + 1 ≡ suc n = omega arith in
    omega (arith, ap (λ k. sum_below k f) e, sum_more n f, h n, sum-le n f h)

pub unset-le : (n : ℕ) (ws : List ℕ) → unset n ws ≤ n
unfolding unset
unset-le n ws = sum-le n (λ k. one (not (bit (get_or ws (k / 16) 0) (k % 16)))) (λ k. one-le (not (bit (get_or ws (k / 16) 0) (k % 16))))

sum_drop : (n i : ℕ) (f g : ℕ → ℕ) → i < n → ((j : ℕ) → (j ≡ i → ⊥) → f j ≡ g j) → f i + 1 ≡ g i → sum_below n f + 1 ≡ sum_below n g
sum_drop zero i f g h same less = absurd (omega arith)
sum_drop (suc n) i f g h same less =
    let e : n + 1 ≡ suc n = omega arith in
    let a = ap (λ k. sum_below k f) e in
    let b = ap (λ k. sum_below k g) e in
    ⊎_elim
    (λ (q : i ≡ n).
    let s = sum_same n f g (λ j k. same j (λ x. omega arith)) in
    let l : f n + 1 ≡ g n = ap (λ k. f k + 1) (sym q) ∙ less ∙ ap g q in
    omega (arith, sum_more n f, sum_more n g))
    (λ (q : i ≡ n → ⊥).
    let i< : i < n = ⊎_elim (λ x. x) (λ (y : n ≤ i). absurd (q (omega arith))) (cases_lt i n) in
    let s = sum_drop n i f g i< same less in
    omega (arith, sum_more n f, sum_more n g, same n (λ x. q (sym x))))
    (cases_eq i n)

-- one more set is one less unset
pub unset-with : (ws : List ℕ) (a b : ℕ) → a < 128 → b < 16 → a < length ws → bit (get_or ws a 0) b ≡ false → unset 2048 (with ws a b) + 1 ≡ unset 2048 ws
unfolding unset
unset-with ws a b ha hb there e =
    let n = 16 * a + b in
    let q : (16 * a + b) / 16 ≡ a = omega arith in
    let r : (16 * a + b) % 16 ≡ b = omega arith in
    sum_drop 2048 (16 * a + b) (λ k. one (not (bit (get_or (with ws a b) (k / 16) 0) (k % 16)))) (λ k. one (not (bit (get_or ws (k / 16) 0) (k % 16)))) (omega arith)
    (λ j ne. ap (λ x. one (not x)) (bit-other ws a b there (j / 16) (j % 16) (λ x y. ne (omega arith))))
    (ap (λ x. one (not (bit (get_or (with ws a b) x 0) ((16 * a + b) % 16))) + 1) q ∙ ap (λ x. one (not (bit (get_or (with ws a b) a 0) x)) + 1) r
    ∙ ap (λ x. one (not x) + 1) (bit-same ws a b there) ∙ sym (ap (λ x. one (not (bit (get_or ws x 0) ((16 * a + b) % 16)))) q ∙ ap (λ x. one (not (bit (get_or ws a 0) x))) r ∙ ap (λ x. one (not x)) e))
