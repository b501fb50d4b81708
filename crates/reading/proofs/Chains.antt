-- One reading after another, as `?` joins them.
use Rattle.std.proofs.Common.{◌≡◌, ℕ, List, IsErrAnd, Ok, Err, Result, sym, refl, ap, ◌∙◌, subst}
use Rattle.std.proofs.lemmas.Result.{err_from_is_err_and}
use Rattle.reading.specs.Faults.{sheet_refusal}
use Rattle.reading.specs.Formats.{Answer, got, bad, after}
use Rattle.reading.specs.Readings.{Reads, Stays, told}
use Rattle.reading.specs.declared.fault.SheetFault.{SheetFault}
use Rattle.reading.specs.declared.reader.Reader.{Reader}
use Rattle.refusal.specs.declared.fault.Refusal.{Refusal}

pub after-got : {A B : Type 0} (x : A) (q : ℕ) (k : A → ℕ → Answer B) → after (got x q) k ≡ k x q
unfolding after
after-got x q k = refl

pub after-bad : {A B : Type 0} (r : Refusal) (k : A → ℕ → Answer B) → after (bad r) k ≡ bad r
unfolding after
after-bad r k = refl

-- what an answer tells

pub got-value : {A : Type 0} (x y : A) (p q : ℕ) → got x p ≡ got y q → x ≡ y
got-value x y p q e = cc

pub got-end : {A : Type 0} (x y : A) (p q : ℕ) → got x p ≡ got y q → p ≡ q
got-end x y p q e = cc

pub bad-got : {A B : Type 0} (r : Refusal) (x : A) (q : ℕ) → bad r ≡ got x q → B
bad-got r x q e = cc

-- what was read before what follows was read
pub record Before {A B : Type 0} (a : Answer A) (next : A → ℕ → Answer B) (y : B) (q : ℕ) : Type 0 where
  pub value : A
  pub end : ℕ
  pub first : a ≡ got value end
  pub rest : next value end ≡ got y q

pub after-parts : {A B : Type 0} (a : Answer A) (next : A → ℕ → Answer B) (y : B) (q : ℕ) → after a next ≡ got y q → Before a next y q
unfolding after
after-parts (got x e) next y q h = record { value = x; end = e; first = refl; rest = h }
after-parts (bad r) next y q h = bad-got r y q h

pub after_from : {A B : Type 0} (a : Answer A) (next : A → ℕ → Answer B) (x : A) (e : ℕ) → a ≡ got x e → after a next ≡ next x e
unfolding after
after_from a next x e h = ap (λ b. after b next) h

-- readers

module _ {A B : Type 0} {f : List ℕ → ℕ → Answer B} {means : A → B} {s t : Reader} {r : Result A SheetFault} where
  -- what was read and what was refused, at the bytes that a reader had before
  pub read : (bs : List ℕ) {x : A} → Reads f means s r t → r ≡ Ok x → s.bytes.now ≡ bs → f bs s.place ≡ got (means x) t.place
  read bs h e b = ap (λ y. f y s.place) (sym b) ∙ sym h.value ∙ ap (λ y. told means y t.place) e

  pub refused : (bs : List ℕ) {y : SheetFault} → Reads f means s r t → r ≡ Err y → s.bytes.now ≡ bs → f bs s.place ≡ bad (sheet_refusal y)
  refused bs h e b = ap (λ y. f y s.place) (sym b) ∙ sym h.value ∙ ap (λ y. told means y t.place) e

-- the exit of a `?`: F, of which f is a part, is refused as f is
pub exit : {A B C D : Type 0} {f : List ℕ → ℕ → Answer B} {F : List ℕ → ℕ → Answer D} {means : A → B} {mean : C → D} {s u t : Reader} {r : Result A SheetFault} {R : Result C SheetFault} {y : SheetFault} →
    Reads f means u r t → r ≡ Err y → IsErrAnd R (λ z. z ≡ y) → u.bytes.now ≡ s.bytes.now → F s.bytes.now s.place ≡ bad (sheet_refusal y) → Reads F mean s R t
exit {C} {means} {mean} {t} {r} {R} {y} h e b same v =
    let p = err_from_is_err_and R b in
    let w : R ≡ Err y = p.1 ∙ ap Err p.2 in
    let k : (sheet_refusal y).place ≡ _ = subst (λ z. Stays z t.place) e h.stays in
    record {
      value = ap (λ z. told mean z t.place) w ∙ sym v;
      same = h.same ∙ same;
      stays = subst (λ z. Stays z t.place) (sym w) k;
    }
