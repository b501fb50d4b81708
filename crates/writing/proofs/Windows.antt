-- A field put into the three bytes that hold it.
use Rattle.std.proofs.Common.{◌≡◌, ℕ, ◌+◌, ◌-◌, ◌*◌, ◌/◌, ◌%◌, ◌^◌, ◌<◌, ◌≤◌, sym, refl, ap, ◌∙◌, arith}
use Rattle.std.proofs.Math.Nat.{add-mul, mod-eq_of_lt, mul_assoc, mul_comm}
use Rattle.std.proofs.lemmas.Nat.{pow-add, shr-shr, shr_high, mod_low, mod_below, pow_pos, shr_below, mul-add-lt, shr_split, shl_whole, one_shl}
use Rattle.writing.specs.Writes.{patched}

module _ (W r w v : ℕ) (narrow : v < 2 ^ w) where
  low : W % 2 ^ r < 2 ^ r
  low = mod_below W (2 ^ r) (pow_pos r)

  regrouped : patched W r w v ≡ (W / 2 ^ (r + w) * 2 ^ w + v) * 2 ^ r + W % 2 ^ r
  regrouped =
      let hi = W / 2 ^ (r + w) in
      let p : 2 ^ (r + w) ≡ 2 ^ w * 2 ^ r = pow-add 2 r w ∙ mul_comm (2 ^ r) (2 ^ w) in
      let e : hi * 2 ^ (r + w) ≡ hi * 2 ^ w * 2 ^ r = ap (λ n. hi * n) p ∙ sym (mul_assoc hi (2 ^ w) (2 ^ r)) in
      omega (arith, add-mul (hi * 2 ^ w) v (2 ^ r))

  pub patched-above : patched W r w v / 2 ^ (r + w) ≡ W / 2 ^ (r + w)
  patched-above =
      sym (shr-shr (patched W r w v) r w) ∙ ap (λ n. n / 2 ^ r / 2 ^ w) regrouped ∙ ap (λ n. n / 2 ^ w) (shr_high (W / 2 ^ (r + w) * 2 ^ w + v) r (W % 2 ^ r) low) ∙
      shr_high (W / 2 ^ (r + w)) w v narrow

  pub patched-value : patched W r w v / 2 ^ r % 2 ^ w ≡ v
  patched-value =
      ap (λ n. n / 2 ^ r % 2 ^ w) regrouped ∙ ap (λ n. n % 2 ^ w) (shr_high (W / 2 ^ (r + w) * 2 ^ w + v) r (W % 2 ^ r) low) ∙ mod_low (W / 2 ^ (r + w)) w v narrow

  pub patched-below : patched W r w v % 2 ^ r ≡ W % 2 ^ r
  patched-below = ap (λ n. n % 2 ^ r) regrouped ∙ mod_low (W / 2 ^ (r + w) * 2 ^ w + v) r (W % 2 ^ r) low

  pub patched_small : (j k : ℕ) → j + (r + w) ≡ k → W < 2 ^ k → patched W r w v < 2 ^ k
  patched_small j k e h =
      let lo : v * 2 ^ r + W % 2 ^ r < 2 ^ (r + w) = rw (pow-add 2 r w) (mul-add-lt v (2 ^ r) (W % 2 ^ r) (2 ^ w) narrow low) in
      let hi : W / 2 ^ (r + w) < 2 ^ j = shr_below W j (r + w) (rw e h) in
      let all = mul-add-lt (W / 2 ^ (r + w)) (2 ^ (r + w)) (v * 2 ^ r + W % 2 ^ r) (2 ^ j) hi lo in
      let p : 2 ^ (r + w) * 2 ^ j ≡ 2 ^ k = mul_comm (2 ^ (r + w)) (2 ^ j) ∙ sym (pow-add 2 j (r + w)) ∙ ap (λ n. 2 ^ n) e in
      omega arith

-- the shifts of 32 bits lose nothing
pub shifted : (W r w v n : ℕ) → n ≡ v → W < 2 ^ 24 → r + w ≤ 24 → v < 2 ^ w →
    let s = W / 2 ^ (r + w) * 2 ^ (r + w) % 2 ^ 32 + n * 2 ^ r % 2 ^ 32 + W % (1 * 2 ^ r % 2 ^ 32) in
    (s ≡ patched W r w v) × (s < 2 ^ 24)
shifted W r w v n same h e narrow =
    let a : W / 2 ^ (r + w) * 2 ^ (r + w) % 2 ^ 32 ≡ W / 2 ^ (r + w) * 2 ^ (r + w) = mod-eq_of_lt (omega (arith, shr_split W (r + w))) in
    let s = patched_small W r w v narrow (24 - (r + w)) 24 (omega arith) h in
    rw (same, a, shl_whole v w r 32 narrow (omega arith), one_shl r 32 (omega arith)) (refl, s)
