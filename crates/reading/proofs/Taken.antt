-- What the reading of one field tells.
use Rattle.std.proofs.Common.{◌≡◌, ℕ, ◌+◌, ◌*◌, ◌^◌, ◌≤◌, Bool, true, false, cond, ◌&&◌, leb, List, length, refl, ◌∙◌, arith, pow_mono}
use Rattle.std.proofs.lemmas.Bool.{le-leb, leb-true, and_from, and_parts, cond-true}
use Rattle.reading.specs.Formats.{got, bad, fault, number, taken}
use Rattle.reading.proofs.Chains.{got-value, got-end, bad-got}
use Rattle.reading.proofs.Numbers.{number-below}
use Rattle.refusal.specs.declared.fault.Refusal.{Refusal}

pub record Took (w least most : ℕ) (bs : List ℕ) (p x q : ℕ) : Type 0 where
  pub value : number bs p w ≡ x
  pub end : q ≡ p + w
  pub room : p + w ≤ 8 * length bs
  pub low : least ≤ x
  pub high : x ≤ most

module _ (w least most : ℕ) (r : Refusal) (bs : List ℕ) (p : ℕ) where
  pub taken-parts : (x q : ℕ) → taken w least most r bs p ≡ got x q → Took w least most bs p x q
  unfolding taken
  taken-parts x q e = by (leb (p + w) (8 * length bs)) refl (leb least (number bs p w) && leb (number bs p w) most) refl e
    where
      by : (a : Bool) → leb (p + w) (8 * length bs) ≡ a → (b : Bool) → (leb least (number bs p w) && leb (number bs p w) most) ≡ b →
          cond a (cond b (got (number bs p w) (p + w)) (bad r)) (fault 1 p) ≡ got x q → Took w least most bs p x q
      by true i true j e =
          let v = got-value (number bs p w) x (p + w) q e in
          let z = got-end (number bs p w) x (p + w) q e in
          let l = and_parts (leb least (number bs p w)) (leb (number bs p w) most) j in
          let low = leb-true least (number bs p w) l.0 in
          let high = leb-true (number bs p w) most l.1 in
          record { value = v; end = omega arith; room = leb-true (p + w) (8 * length bs) i; low = omega arith; high = omega arith }
      by true i false j e = bad-got r x q e
      by false i b j e = bad-got _ x q e

  pub taken_from : p + w ≤ 8 * length bs → least ≤ number bs p w → number bs p w ≤ most → taken w least most r bs p ≡ got (number bs p w) (p + w)
  unfolding taken
  taken_from room low high =
      let both = and_from (leb least (number bs p w)) (leb (number bs p w) most) (le-leb least (number bs p w) low) (le-leb (number bs p w) most high) in
      cond-true (leb (p + w) (8 * length bs)) _ _ (le-leb (p + w) (8 * length bs) room)
      ∙ cond-true (leb least (number bs p w) && leb (number bs p w) most) _ _ both

-- any number that w bits hold
pub plain-room : (bs : List ℕ) (p w : ℕ) (r : Refusal) → w ≤ 16 → p + w ≤ 8 * length bs → taken w 0 65535 r bs p ≡ got (number bs p w) (p + w)
plain-room bs p w r h room =
    let m : 2 ^ w ≤ 2 ^ 16 = pow_mono h in
    taken_from w 0 65535 r bs p room (omega arith) (omega (arith, number-below bs p w))
