-- Fields that lie in bytes: one list of them behind another, and what they depend on.
use Rattle.std.proofs.Common.{◌≡◌, ℕ, zero, suc, ◌+◌, ◌-◌, ◌*◌, ◌/◌, ◌%◌, ◌^◌, ◌<◌, ◌≤◌, List, [], ◌∷◌, ◌++◌, take, sym, refl, ap, ◌∙◌, arith}
use Rattle.std.proofs.lemmas.List.{get_or-take}
use Rattle.reading.specs.Formats.{Field, bit, number}
use Rattle.reading.specs.Spelling.{Spells, ends, width}
use Rattle.reading.proofs.Numbers.{number-none, number_more}

pub ends-above : (p : ℕ) (fs : List Field) → p ≤ ends p fs
unfolding ends
ends-above p [] = omega arith
ends-above p (f ∷ fs) = omega (arith, ends-above (p + width p f) fs)

pub ends-append : (p : ℕ) (fs gs : List Field) → ends p (fs ++ gs) ≡ ends (ends p fs) gs
unfolding ends
ends-append p [] gs = refl
ends-append p (f ∷ fs) gs = ends-append (p + width p f) fs gs

module _ (bs : List ℕ) where
  pub spells-append : (p : ℕ) (fs gs : List Field) → Spells bs p fs → Spells bs (ends p fs) gs → Spells bs p (fs ++ gs)
  unfolding Spells ends
  spells-append p [] gs a b = b
  spells-append p (f ∷ fs) gs a b = (a.0, spells-append (p + width p f) fs gs a.1 b)

  pub spells-parts : (p : ℕ) (fs gs : List Field) → Spells bs p (fs ++ gs) → Spells bs p fs × Spells bs (ends p fs) gs
  unfolding Spells ends
  spells-parts p [] gs h = (tt, h)
  spells-parts p (f ∷ fs) gs h = let r = spells-parts (p + width p f) fs gs h.1 in ((h.0, r.0), r.1)

-- bits that agree from p to p + w write the same number
pub number_same : (bs cs : List ℕ) (p w : ℕ) → ((i : ℕ) → p ≤ i → i < p + w → bit bs i ≡ bit cs i) → number bs p w ≡ number cs p w
number_same bs cs p zero same = number-none bs p ∙ sym (number-none cs p)
number_same bs cs p (suc w) same =
    let a = number_same bs cs p w (λ i l h. same i l (omega arith)) in
    let b = same (p + w) (omega arith) (omega arith) in
    number_more bs p w ∙ ap (λ n. 2 * n + bit bs (p + w)) a ∙ ap (λ n. 2 * number cs p w + n) b ∙ sym (number_more cs p w)

-- fields depend only on the bits that they take
pub spells_same : (bs cs : List ℕ) (p : ℕ) (fs : List Field) → ((i : ℕ) → p ≤ i → i < ends p fs → bit bs i ≡ bit cs i) → Spells bs p fs → Spells cs p fs
unfolding Spells ends
spells_same bs cs p [] same h = tt
spells_same bs cs p (f ∷ fs) same h =
    let above = ends-above (p + width p f) fs in (
      sym (number_same bs cs p (width p f) (λ i l u. same i l (omega arith))) ∙ h.0,
      spells_same bs cs (p + width p f) fs (λ i l u. same i (omega arith) u) h.1,
    )

pub spells_taken : (xs : List ℕ) (n p : ℕ) (fs : List Field) → ends p fs ≤ 8 * n → Spells xs p fs → Spells (take n xs) p fs
spells_taken xs n p fs le h =
    spells_same xs (take n xs) p fs
    (λ i l u. ap (λ b. b / 2 ^ (7 - i % 8) % 2) (sym (get_or-take n xs (i / 8) 0 (omega arith)))) h
