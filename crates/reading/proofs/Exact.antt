-- Formats that read exactly what they write.
--   End, Stops e q n         where a reading of n bits may end: anywhere within them, or behind the last; bit q is such a place
--   Tells E f F bs p x q     what f tells when it read x from bit p on and came to bit q
--   Exact E f F              f reads x exactly where the fields lie that it writes for x, if F x; E is where it may end
use Rattle.std.proofs.Common.{◌≡◌, ℕ, zero, suc, ◌+◌, ◌-◌, ◌*◌, ◌%◌, ◌^◌, ◌<◌, ◌≤◌, Bool, true, false, cond, ltb, List, [], ◌∷◌, ◌++◌, length, sym, refl, ap, ◌∙◌, subst, arith, pow_mono}
use Rattle.std.proofs.lemmas.Bool.{ltb-false, le-ltb, cond-false}
use Rattle.std.proofs.lemmas.Int.{ints, to_z-of_z, of_z-to_z}
use Rattle.std.proofs.Math.Facts.{Fits-of_lt, sfits_to_z}
use Rattle.std.proofs.lemmas.List.{append-nil, length_push}
use Rattle.std.proofs.lemmas.List.Concat.{flat_map-append}
use Rattle.std.proofs.lemmas.List.Elements.{All-nil, All-head, All-tail, All-push}
use Rattle.std.specs.Int.{w16, cast_signed, cast_unsigned}
use Rattle.std.specs.Int.RustNames.{FitsSigned}
use Rattle.std.specs.List.{All, flat_map}
use Rattle.reading.specs.Formats.{got, Field, number, Format, fault, field, plain, via, signed, then, done, many, filled, ended}
use Rattle.reading.specs.Spelling.{Spells, ends}
use Rattle.reading.proofs.Chains.{got-value, got-end, bad-got, after-parts, after_from}
use Rattle.reading.proofs.Numbers.{number-below}
use Rattle.reading.proofs.Spelled.{ends-above, ends-append, spells-append, spells-parts}
use Rattle.reading.proofs.Rows.{each_none, each-parts, each-cons}
use Rattle.reading.proofs.Taken.{taken-parts, taken_from}

pub data End : Type 0 where
  within : End
  behind : End

abbrev pub Stops : End → ℕ → ℕ → Type 0
Stops within q n = q ≤ n
Stops behind q n = q ≡ n

stops_within : (e : End) (q n : ℕ) → Stops e q n → q ≤ n
stops_within within q n h = h
stops_within behind q n h = omega arith

pub record Tells {A : Type 0} (E : End) (f : Format A) (F : A → Type 0) (bs : List ℕ) (p : ℕ) (x : A) (q : ℕ) : Type 0 where
  pub fields : Spells bs p (f.writes x)
  pub end : q ≡ ends p (f.writes x)
  pub stops : Stops E q (8 * length bs)
  pub fact : F x

pub record Exact {A : Type 0} (E : End) (f : Format A) (F : A → Type 0) : Type 0 where
  pub back : (bs : List ℕ) (p q : ℕ) (x : A) → p ≤ 8 * length bs → f.reads bs p ≡ got x q → Tells E f F bs p x q
  pub forth : (bs : List ℕ) (p : ℕ) (x : A) → F x → Spells bs p (f.writes x) → Stops E (ends p (f.writes x)) (8 * length bs) → f.reads bs p ≡ got x (ends p (f.writes x))

-- other facts

-- the fields may be used
pub exact-spelled : {A : Type 0} {E : End} {f : Format A} {F : A → Type 0} (G : A → Type 0) →
    ((bs : List ℕ) (p : ℕ) (x : A) → Spells bs p (f.writes x) → F x → G x) → ((bs : List ℕ) (p : ℕ) (x : A) → Spells bs p (f.writes x) → G x → F x) → Exact E f F → Exact E f G
exact-spelled G to from h = record {
  back = λ bs p q x le e. let t = h.back bs p q x le e in record { fields = t.fields; end = t.end; stops = t.stops; fact = to bs p x t.fields t.fact };
  forth = λ bs p x g s. h.forth bs p x (from bs p x s g) s;
}

pub exact-like : {A : Type 0} {E : End} {f : Format A} {F : A → Type 0} (G : A → Type 0) → ((x : A) → F x → G x) → ((x : A) → G x → F x) → Exact E f F → Exact E f G
exact-like G to from h = exact-spelled G (λ _ _ x _ f. to x f) (λ _ _ x _ g. from x g) h

-- one format each

pub exact-field : (w least most n : ℕ) → Exact within (field w least most n) (λ v. (least ≤ v) × (v ≤ most))
unfolding Spells ends
exact-field w least most n = record {
  back = λ bs p q x le e.
      let t = taken-parts w least most _ bs p x q e in
      record { fields = (t.value, tt); end = t.end; stops = let z = t.end in let r = t.room in omega arith; fact = (t.low, t.high) };
  forth = λ bs p x f h le.
      let v : number bs p w ≡ x = h.0 in
      taken_from w least most _ bs p le (let l = f.0 in omega arith) (let l = f.1 in omega arith) ∙ ap (λ n. got n (p + w)) v;
}

-- the bits themselves bound the number
module _ (w : ℕ) (small : w ≤ 16) where
  pub exact-bits : Exact within (plain w) (λ _. Unit {0})
  unfolding Spells
  exact-bits =
      exact-spelled (λ _. Unit {0}) (λ bs p x s f. tt)
      (λ bs p x s _.
      let v : number bs p w ≡ x = s.0 in
      let m : 2 ^ w ≤ 2 ^ 16 = pow_mono small in
      (omega arith, omega (arith, number-below bs p w)))
      (exact-field w 0 65535 1)

  pub exact-plain : Exact within (plain w) (λ v. v < 2 ^ w)
  unfolding Spells
  exact-plain =
      exact-spelled (λ v. v < 2 ^ w)
      (λ bs p x s _. let v : number bs p w ≡ x = s.0 in omega (arith, number-below bs p w))
      (λ bs p x s g. tt) exact-bits

-- values renamed
pub exact-via : {A B : Type 0} {E : End} {f : Format A} {F : A → Type 0} (to : A → B) (from : B → A) (G : B → Type 0) →
    ((x : A) → F x → (from (to x) ≡ x) × G (to x)) → ((y : B) → G y → (to (from y) ≡ y) × F (from y)) → Exact E f F → Exact E (via to from f) G
exact-via {A} {B} {E} {f} {F} to from G there again h = record {
  back = λ bs p q y le e.
      let b = after-parts (f.reads bs p) (λ x e. got (to x) e) y q e in
      let t = h.back bs p b.end b.value le b.first in
      let g = there b.value t.fact in
      let v : from y ≡ b.value = ap from (sym (got-value (to b.value) y b.end q b.rest)) ∙ g.0 in
      let z : b.end ≡ q = got-end (to b.value) y b.end q b.rest in
      record {
        fields = subst (λ (x : A). Spells bs p (f.writes x)) (sym v) t.fields;
        end = sym z ∙ t.end ∙ ap (λ x. ends p (f.writes x)) (sym v);
        stops = subst (λ (n : ℕ). Stops E n (8 * length bs)) z t.stops;
        fact = subst G (got-value (to b.value) y b.end q b.rest) g.1;
      };
  forth = λ bs p y g s le.
      let b = again y g in
      after_from (f.reads bs p) (λ x e. got (to x) e) (from y) (ends p (f.writes (from y))) (h.forth bs p (from y) b.1 s le) ∙ ap (λ z. got z (ends p (f.writes (from y)))) b.0;
}

pub exact-signed : Exact within signed (FitsSigned w16)
exact-signed =
    exact-via (cast_signed w16) (cast_unsigned w16) (FitsSigned w16)
    (λ n h. (of_z-to_z w16 n h, sfits_to_z (Fits-of_lt h)))
    (λ z h. (to_z-of_z w16 z h, omega (arith, ints)))
    (exact-plain 16 (omega arith))

-- no more fields

pub exact-done : {A : Type 0} (x : A) → Exact within (done x) (λ y. y ≡ x)
unfolding Spells ends
exact-done x = record {
  back = λ bs p q y le e.
      let z = got-end x y p q e in
      record { fields = tt; end = sym z; stops = omega arith; fact = sym (got-value x y p q e) };
  forth = λ bs p y f h le. ap (λ z. got z p) (sym f);
}

pub exact-filled : Exact within filled (λ v. v ≡ 0)
unfolding Spells ends
exact-filled = record {
  back = λ bs p q x le e.
      let t = taken-parts ((8 - p % 8) % 8) 0 0 _ bs p x q e in
      let z : x ≡ 0 = let h = t.high in omega arith in
      record { fields = (t.value ∙ z, tt); end = t.end; stops = let z = t.end in let r = t.room in omega arith; fact = z };
  forth = λ bs p x f h le.
      let v : number bs p ((8 - p % 8) % 8) ≡ 0 = h.0 in
      taken_from ((8 - p % 8) % 8) 0 0 _ bs p le (omega arith) (omega arith) ∙ ap (λ n. got n (p + (8 - p % 8) % 8)) (v ∙ sym f);
}

-- the end of the bytes, and the value there
pub exact-ended : {A : Type 0} (x : A) → Exact behind (then ended (λ _. 0) (λ _. done x)) (λ y. y ≡ x)
unfolding Spells ends
exact-ended x = record {
  back = λ bs p q y le e.
      let b = after-parts (ended.reads bs p) (λ _ q. got x q) y q e in
      let v = got-value x y b.end q b.rest in
      let z = got-end x y b.end q b.rest in
      let s = at-end bs p b.value b.end b.first in
      record { fields = tt; end = sym z ∙ s.1; stops = omega (arith, s.0, s.1); fact = sym v };
  forth = λ bs p y f h le.
      after_from (ended.reads bs p) (λ _ q. got x q) 0 p (cond-false (ltb p (8 * length bs)) (fault 5 p) (got 0 p) (le-ltb p (8 * length bs) (omega arith)))
      ∙ ap (λ z. got z p) (sym f);
}
  where
    at-end : (bs : List ℕ) (p v q : ℕ) → ended.reads bs p ≡ got v q → (8 * length bs ≤ p) × (q ≡ p)
    at-end bs p v q e = by (ltb p (8 * length bs)) refl e
      where
        by : (b : Bool) → ltb p (8 * length bs) ≡ b → cond b (fault 5 p) (got 0 p) ≡ got v q → (8 * length bs ≤ p) × (q ≡ p)
        by true i e = bad-got _ v q e
        by false i e = (ltb-false p (8 * length bs) i, sym (got-end 0 v p q e))

-- one after another

pub exact-then : {A B : Type 0} {E : End} {f : Format A} {part : B → A} {rest : A → Format B} {F : A → Type 0} {G : A → B → Type 0} →
    Exact within f F → ((x : A) → Exact E (rest x) (G x)) → ((x : A) (y : B) → F x → G x y → part y ≡ x) → Exact E (then f part rest) (λ y. F (part y) × G (part y) y)
exact-then {A} {B} {E} {f} {part} {rest} {F} {G} h k same = record {
  back = λ bs p q y le e.
      let b = after-parts (f.reads bs p) (λ x q. (rest x).reads bs q) y q e in
      let t = h.back bs p b.end b.value le b.first in
      let u = (k b.value).back bs b.end q y t.stops b.rest in
      let v = same b.value y t.fact u.fact in
      let s : Spells bs (ends p (f.writes b.value)) ((rest b.value).writes y) = subst (λ (n : ℕ). Spells bs n ((rest b.value).writes y)) t.end u.fields in
      let z : q ≡ ends p (f.writes b.value ++ (rest b.value).writes y) = u.end ∙ ap (λ n. ends n ((rest b.value).writes y)) t.end ∙ sym (ends-append p (f.writes b.value) ((rest b.value).writes y)) in
      record {
        fields = subst (λ (x : A). Spells bs p (f.writes x ++ (rest x).writes y)) (sym v) (spells-append bs p (f.writes b.value) ((rest b.value).writes y) t.fields s);
        end = z ∙ ap (λ x. ends p (f.writes x ++ (rest x).writes y)) (sym v);
        stops = u.stops;
        fact = subst (λ (x : A). F x × G x y) (sym v) (t.fact, u.fact);
      };
  forth = λ bs p y g s le.
      let x = part y in
      let z = ends-append p (f.writes x) ((rest x).writes y) in
      let i = spells-parts bs p (f.writes x) ((rest x).writes y) s in
      let w : Stops E (ends (ends p (f.writes x)) ((rest x).writes y)) (8 * length bs) = subst (λ (n : ℕ). Stops E n (8 * length bs)) z le in
      let l = stops_within E (ends (ends p (f.writes x)) ((rest x).writes y)) (8 * length bs) w in
      let above = ends-above (ends p (f.writes x)) ((rest x).writes y) in
      after_from (f.reads bs p) (λ x q. (rest x).reads bs q) x (ends p (f.writes x)) (h.forth bs p x g.0 i.0 (omega arith))
      ∙ (k x).forth bs (ends p (f.writes x)) y g.1 i.1 w ∙ ap (λ n. got y n) (sym z);
}

-- n times

module _ {A : Type 0} {f : Format A} {F : A → Type 0} (h : Exact within f F) where
  many-back : (n : ℕ) (bs : List ℕ) (p q : ℕ) (xs : List A) → p ≤ 8 * length bs → (many n f).reads bs p ≡ got xs q → Tells within (many n f) (λ xs. (length xs ≡ n) × All F xs) bs p xs q
  unfolding Spells ends
  many-back zero bs p q xs le e =
      let b = sym (each_none (f.reads bs) p) ∙ e in
      let v = got-value [] xs p q b in
      let z = got-end [] xs p q b in
      subst (λ (ys : List A). Tells within (many 0 f) (λ xs. (length xs ≡ 0) × All F xs) bs p ys q) v
      (record { fields = tt; end = sym z; stops = omega arith; fact = (refl, All-nil F) })
  many-back (suc n) bs p q xs le e =
      let b = each-parts (f.reads bs) p n xs q e in
      let t = many-back n bs p b.end b.front le b.first in
      let u = h.back bs b.end q b.value t.stops b.last in
      let ws : flat_map f.writes (b.front ++ b.value ∷ []) ≡ flat_map f.writes b.front ++ f.writes b.value = flat_map-append f.writes b.front (b.value ∷ []) ∙ ap (λ l. flat_map f.writes b.front ++ l) (append-nil (f.writes b.value)) in
      let s : Spells bs (ends p (flat_map f.writes b.front)) (f.writes b.value) = subst (λ (n : ℕ). Spells bs n (f.writes b.value)) t.end u.fields in
      let z : q ≡ ends p (flat_map f.writes b.front ++ f.writes b.value) = u.end ∙ ap (λ n. ends n (f.writes b.value)) t.end ∙ sym (ends-append p (flat_map f.writes b.front) (f.writes b.value)) in
      subst (λ (ys : List A). Tells within (many (suc n) f) (λ xs. (length xs ≡ suc n) × All F xs) bs p ys q) (sym b.whole)
      (record {
        fields = subst (λ (l : List Field). Spells bs p l) (sym ws) (spells-append bs p (flat_map f.writes b.front) (f.writes b.value) t.fields s);
        end = z ∙ ap (ends p) (sym ws);
        stops = u.stops;
        fact = (omega (arith, length_push b.front b.value, t.fact.0), All-push F b.front b.value t.fact.1 u.fact);
      })

  many-forth : (bs : List ℕ) (p : ℕ) (xs : List A) → All F xs → Spells bs p (flat_map f.writes xs) → ends p (flat_map f.writes xs) ≤ 8 * length bs →
      (many (length xs) f).reads bs p ≡ got xs (ends p (flat_map f.writes xs))
  unfolding Spells ends
  many-forth bs p [] all s le = each_none (f.reads bs) p
  many-forth bs p (x ∷ xs) all s le =
      let z = ends-append p (f.writes x) (flat_map f.writes xs) in
      let i = spells-parts bs p (f.writes x) (flat_map f.writes xs) s in
      let above = ends-above (ends p (f.writes x)) (flat_map f.writes xs) in
      each-cons (f.reads bs) p (length xs) x (ends p (f.writes x)) xs (ends p (f.writes x ++ flat_map f.writes xs))
      (h.forth bs p x (All-head F x xs all) i.0 (omega arith))
      (many-forth bs (ends p (f.writes x)) xs (All-tail F x xs all) i.1 (omega arith) ∙ ap (λ n. got xs n) (sym z))

  pub exact-many : (n : ℕ) → Exact within (many n f) (λ xs. (length xs ≡ n) × All F xs)
  exact-many n = record {
    back = λ bs p q xs le e. many-back n bs p q xs le e;
    forth = λ bs p xs g s le. subst (λ (n : ℕ). (many n f).reads bs p ≡ got xs (ends p (flat_map f.writes xs))) g.0 (many-forth bs p xs g.1 s le);
  }
