-- Fields written one after the other.
use Rattle.std.proofs.Common.{ℕ, ◌-◌, ◌%◌, ◌≤◌, List, [], ◌∷◌, ◌++◌, sym, refl, ◌∙◌, arith}
use Rattle.reading.specs.Formats.{Field, bits, fill}
use Rattle.reading.specs.Spelling.{Spells, ends}
use Rattle.reading.proofs.Spelled.{ends-above, ends-append, spells-append, spells_same}
use Rattle.writing.specs.Writes.{Writes}

pub writes_none : (p : ℕ) (bs : List ℕ) → Writes [] p p bs bs
unfolding ends Spells
writes_none p bs = record { place = refl; fields = λ h. tt; before = λ i h. refl; beyond = λ i h. refl; size = refl }

pub writes_join : {fs gs : List Field} {s t u : ℕ} {x y z : List ℕ} → Writes fs s t x y → Writes gs t u y z → Writes (fs ++ gs) s u x z
writes_join {fs} {gs} {s} {t} {u} {x} {y} {z} h k =
    let le : t ≤ u = omega (arith, ends-above t gs, k.place) in
    let lo : s ≤ t = omega (arith, ends-above s fs, h.place) in
    record {
      place = rw (ends-append, ← h.place) k.place;
      fields = λ room.
          let first = spells_same y z s fs (λ i lo lt. sym (k.before i (rw h.place lt))) (h.fields (omega arith)) in
          spells-append z s fs gs first (rw (← h.place) (k.fields (rw h.size room)));
      before = λ i lt. k.before i (omega arith) ∙ h.before i lt;
      beyond = λ i le'. k.beyond i le' ∙ h.beyond i (omega arith);
      size = k.size ∙ h.size;
    }

pub writes_more : {f : Field} {gs : List Field} {s t u : ℕ} {x y z : List ℕ} → Writes (f ∷ []) s t x y → Writes gs t u y z → Writes (f ∷ gs) s u x z
writes_more h k = writes_join h k

-- the fill is a field of as many zero bits
pub writes_fill : {s t : ℕ} {x y : List ℕ} → Writes (bits ((8 - s % 8) % 8) 0 ∷ []) s t x y → Writes (fill ∷ []) s t x y
unfolding ends Spells
writes_fill h = record { place = h.place; fields = h.fields; before = h.before; beyond = h.beyond; size = h.size }
