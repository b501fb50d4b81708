-- The fields of a sheet settle its bytes.
use Rattle.std.proofs.Common.{◌≡◌, ℕ, ◌+◌, ◌-◌, ◌*◌, ◌/◌, ◌%◌, ◌^◌, ◌<◌, List, [], ◌∷◌, length, get_or, sym, ap, ◌∙◌, subst, arith}
use Rattle.std.proofs.lemmas.List.{ext_get_or}
use Rattle.reading.specs.Formats.{Field, number}
use Rattle.reading.specs.Layout.{Contents, sheet_format}
use Rattle.reading.specs.Spelling.{AreBytes, IsSheet, Spells, ends, width}
use Rattle.reading.proofs.Numbers.{number-none, number-split, number-part, number-byte}
use Rattle.reading.proofs.Spelled.{ends-above}

module _ (bs cs : List ℕ) where
  -- fields that lie in both are one number in both
  one-number : (p n : ℕ) (fs : List Field) → ends p fs ≡ p + n → Spells bs p fs → Spells cs p fs → number bs p n ≡ number cs p n
  unfolding Spells ends
  one-number p n [] e b c = let z : n ≡ 0 = omega arith in rw (z, number-none bs p, number-none cs p)
  one-number p n (f ∷ fs) e b c =
      let w = width p f in
      let above = ends-above (p + w) fs in
      let r = one-number (p + w) (n - w) fs (omega arith) b.1 c.1 in
      let z : w + (n - w) ≡ n = omega arith in
      subst (λ (k : ℕ). number bs p k ≡ number cs p k) z
      (number-split bs p w (n - w) ∙ ap (λ k. k * 2 ^ (n - w) + number bs (p + w) (n - w)) (b.0 ∙ sym c.0)
      ∙ ap (λ k. number cs p w * 2 ^ (n - w) + k) r ∙ sym (number-split cs p w (n - w)))

  one-byte : (n i : ℕ) → AreBytes bs → AreBytes cs → number bs 0 (8 * n) ≡ number cs 0 (8 * n) → i < n → get_or bs i 0 ≡ get_or cs i 0
  one-byte n i b c e h =
      let r = 8 * n - (8 * i + 8) in
      let z : 8 * i + 8 + r ≡ 8 * n = omega arith in
      let q : 0 + 8 * i ≡ 8 * i = omega arith in
      let x : number bs (8 * i) 8 ≡ number bs 0 (8 * n) / 2 ^ r % 2 ^ 8 = ap (λ k. number bs k 8) (sym q) ∙ number-part bs 0 (8 * i) 8 r ∙ ap (λ k. number bs 0 k / 2 ^ r % 2 ^ 8) z in
      let y : number cs (8 * i) 8 ≡ number cs 0 (8 * n) / 2 ^ r % 2 ^ 8 = ap (λ k. number cs k 8) (sym q) ∙ number-part cs 0 (8 * i) 8 r ∙ ap (λ k. number cs 0 k / 2 ^ r % 2 ^ 8) z in
      sym (number-byte bs i (b i)) ∙ x ∙ ap (λ k. k / 2 ^ r % 2 ^ 8) e ∙ sym y ∙ number-byte cs i (c i)

-- contents have one sheet
pub one_sheet : (c : Contents) (bs cs : List ℕ) → AreBytes bs → AreBytes cs → IsSheet c bs → IsSheet c cs → bs ≡ cs
one_sheet c bs cs b d s t =
    let l : length bs ≡ length cs = let x = s.size in let y = t.size in omega arith in
    let e = one-number bs cs 0 (8 * length bs) (sheet_format.writes c) (let x = s.size in omega arith) s.fields t.fields in
    ext_get_or 0 bs cs l (λ i h. one-byte bs cs (length bs) i b d e h)
