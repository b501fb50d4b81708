-- A name area that reads well holds the names that were read, and nothing else.
use Rattle.std.proofs.Common.{◌≡◌, ℕ, zero, suc, ◌+◌, ◌-◌, ◌*◌, ◌<◌, ◌≤◌, Bool, true, false, cond, ◌&&◌, leb, ltb, List, [], ◌∷◌, ◌++◌, length, get_or, None, inl, inr, sym, refl, ap, ◌∙◌, subst, arith, length-append}
use Rattle.std.specs.List.{All, flat_map}
use Rattle.std.proofs.lemmas.Bool.{cases_lt, and_parts}
use Rattle.std.proofs.lemmas.Bool.Decides.{nat_tests}
use Rattle.std.proofs.lemmas.List.{ext_get_or, flat_map_more, get_or-append_right, get_or_append_left, length_push, map-id}
use Rattle.std.proofs.lemmas.List.Concat.{flat_map_single}
use Rattle.std.proofs.lemmas.List.Elements.{All-nil, All-push}
use Rattle.reading.specs.Formats.{Answer, got, bad, number, after, each, fault, taken, field, ended}
use Rattle.reading.specs.Layout.{name_format}
use Rattle.reading.specs.Spelling.{IsName, area_of}
use Rattle.reading.proofs.Numbers.{number-byte}
use Rattle.refusal.specs.declared.fault.Refusal.{Refusal}
use Rattle.writing.specs.Written.{area_reads, misnamed}

-- an answer that came after another
record After {A B : Type 0} (a : Answer A) (k : A → ℕ → Answer B) (y : B) (e : ℕ) : Type 0 where
  pub value : A
  pub place : ℕ
  pub first : a ≡ got value place
  pub next : k value place ≡ got y e

after-parts : {A B : Type 0} (a : Answer A) (k : A → ℕ → Answer B) (y : B) (e : ℕ) → after a k ≡ got y e → After a k y e
unfolding after
after-parts (got x q) k y e h = record { value = x; place = q; first = refl; next = h }
after-parts (bad r) k y e h = cc

taken-parts : (b c : Bool) (n q v e : ℕ) (r s : Refusal) → cond b (cond c (got n q) (bad r)) (bad s) ≡ got v e → (b ≡ true) × (c ≡ true) × (n ≡ v) × (q ≡ e)
taken-parts true true n q v e r s h = (refl, refl, cc, cc)
taken-parts true false n q v e r s h = cc
taken-parts false c n q v e r s h = cc

ended-none : (b : Bool) (q : ℕ) → misnamed (cond b (fault 5 q) (got 0 q)) ≡ None → b ≡ false
ended-none true q h = cc
ended-none false q h = refl

-- the bytes xs lie in the bytes bs from byte a on, up to bit q
record Lie (bs : List ℕ) (a : ℕ) (xs : List ℕ) (q : ℕ) : Type 0 where
  pub place : q ≡ 8 * (a + length xs)
  pub inside : a ≤ length bs → a + length xs ≤ length bs
  pub bytes : (i : ℕ) → i < length xs → get_or bs (a + i) 0 ≡ get_or xs i 0

lie-none : (bs : List ℕ) (a : ℕ) → Lie bs a [] (8 * a)
lie-none bs a = record { place = omega arith; inside = λ h. omega arith; bytes = λ i lt. absurd (omega arith) }

lie-join : (bs : List ℕ) (a : ℕ) (xs ys : List ℕ) (p q : ℕ) → Lie bs a xs p → Lie bs (a + length xs) ys q → Lie bs a (xs ++ ys) q
lie-join bs a xs ys p q h k =
    let l = length-append xs ys in
    record {
      place = omega (arith, k.place);
      inside = λ le. let x = h.inside le in let y = k.inside x in omega arith;
      bytes = λ i lt. elim (cases_lt i (length xs)) [
        | inl first ↦ h.bytes i first ∙ sym (get_or_append_left xs ys 0 i first)
        | inr later ↦
            let e : a + length xs + (i - length xs) ≡ a + i = omega arith in
            ap (λ j. get_or bs j 0) (sym e) ∙ k.bytes (i - length xs) (omega arith) ∙ sym (get_or-append_right xs ys (length xs) i 0 refl later)
      ];
    }

-- n readings of values that lie where they are read
module _ {A : Type 0} (bs : List ℕ) (f : ℕ → Answer A) (spell : A → List ℕ) (P : A → Type 0) (step : (a : ℕ) (x : A) (q : ℕ) → f (8 * a) ≡ got x q → Lie bs a (spell x) q × P x) where
  record Row (n a : ℕ) (xs : List A) (q : ℕ) : Type 0 where
    pub lie : Lie bs a (flat_map spell xs) q
    pub count : length xs ≡ n
    pub each : All P xs

  row-more : (n a : ℕ) (xs : List A) (p : ℕ) (x : A) (q : ℕ) → Row n a xs p → f p ≡ got x q → Row (suc n) a (xs ++ x ∷ []) q
  row-more n a xs p x q h e =
      let all = flat_map spell xs in
      let one = step (a + length all) x q (ap f (sym h.lie.place) ∙ e) in
      record {
        lie = rw (← flat_map_more spell [] xs x) (lie-join bs a all (spell x) p q h.lie one.0);
        count = omega (arith, length_push xs x, h.count);
        each = All-push P xs x h.each one.1;
      }

  row-read : (n a : ℕ) (xs : List A) (q : ℕ) → each n f (8 * a) ≡ got xs q → Row n a xs q
  unfolding each
  row-read zero a xs q h =
      let e : [] ≡ xs = cc in
      let p : 8 * a ≡ q = cc in
      subst (λ ys. Row 0 a ys q) e (subst (λ z. Row 0 a [] z) p (record { lie = lie-none bs a; count = refl; each = All-nil P }))
  row-read (suc n) a xs q h =
      let first = after-parts (each n f (8 * a)) (λ xs q. after (f q) (λ x e. got (xs ++ x ∷ []) e)) xs q h in
      let last = after-parts (f first.place) (λ x e. got (first.value ++ x ∷ []) e) xs q first.next in
      let e : first.value ++ last.value ∷ [] ≡ xs = cc in
      let p : last.place ≡ q = cc in
      let r = row-more n a first.value first.place last.value last.place (row-read n a first.value first.place first.first) last.first in
      subst (λ ys. Row (suc n) a ys q) e (subst (λ z. Row (suc n) a (first.value ++ last.value ∷ []) z) p r)

pub record Named (n : ℕ) (area : List ℕ) : Type 0 where
  pub names : List (List ℕ)
  pub whole : area ≡ area_of names
  pub count : length names ≡ n
  pub each : All IsName names

module _ (bs : List ℕ) (small : (i : ℕ) → get_or bs i 0 < 256) where
  lie-byte : (least most n a v q : ℕ) → (field 8 least most n).reads bs (8 * a) ≡ got v q → Lie bs a (v ∷ []) q × ((least ≤ v) × (v ≤ most))
  unfolding taken
  lie-byte least most n a v q h =
      let x = number bs (8 * a) 8 in
      let t = taken-parts (leb (8 * a + 8) (8 * length bs)) (leb least x && leb x most) x (8 * a + 8) v q _ _ h in
      let value : v ≡ get_or bs a 0 = sym t.2 ∙ number-byte bs a (small a) in
      let at : (i : ℕ) → i < 1 → get_or bs (a + i) 0 ≡ get_or (v ∷ []) i 0 = λ i lt. let z : i ≡ 0 = omega arith in let e : a + 0 ≡ a = omega arith in rw (z, e) (sym value) in
      let room : 8 * a + 8 ≤ 8 * length bs = let r = t.0 in grind (arith, nat_tests) in
      let bounds = let r = t.1 in and_parts (leb least x) (leb x most) r in
      let low : least ≤ v = let r = bounds.0 in let e = t.2 in grind (arith, nat_tests) in
      let high : v ≤ most = let r = bounds.1 in let e = t.2 in grind (arith, nat_tests) in
      (record { place = omega (arith, t.3); inside = λ le. omega arith; bytes = at }, (low, high))

  lie-name : (a : ℕ) (t : List ℕ) (q : ℕ) → name_format.reads bs (8 * a) ≡ got t q → Lie bs a (length t ∷ t) q × IsName t
  unfolding name_format
  lie-name a t q h =
      let n = after-parts ((field 8 1 15 6).reads bs (8 * a)) (λ n p. each n ((field 8 33 126 6).reads bs) p) t q h in
      let one = lie-byte 1 15 6 a n.value n.place n.first in
      let rest = row-read bs ((field 8 33 126 6).reads bs) (λ b. b ∷ []) (λ b. (33 ≤ b) × (b ≤ 126)) (lie-byte 33 126 6) n.value (a + 1) t q (ap (each n.value ((field 8 33 126 6).reads bs)) (sym one.0.place) ∙ n.next) in
      let e : flat_map (λ b. b ∷ []) t ≡ t = flat_map_single (λ b. b) t ∙ map-id t in
      let l : n.value ≡ length t = sym rest.count in (
        rw (← l) (lie-join bs a (n.value ∷ []) t n.place q one.0 (rw e at rest.lie)),
        record { some = omega (arith, one.1.0); short = omega (arith, one.1.1); characters = rest.each },
      )

  -- all names of an area
  pub area-read : (n : ℕ) → misnamed (area_reads n bs 0) ≡ None → Named n bs
  unfolding after
  area-read n h = go (each n (name_format.reads bs) 0) refl h
    where
      go : (a : Answer (List (List ℕ))) → each n (name_format.reads bs) 0 ≡ a → misnamed (after a (λ _ q. ended.reads bs q)) ≡ None → Named n bs
      go (bad r) e m = cc
      go (got ts q) e m =
          let r = row-read bs (name_format.reads bs) (λ t. length t ∷ t) IsName lie-name n 0 ts q e in
          let none = ended-none (ltb q (8 * length bs)) q m in
          let end : 8 * length bs ≤ q = grind (arith, nat_tests) in
          let l : length bs ≡ length (area_of ts) = omega (arith, r.lie.place, r.lie.inside (omega arith)) in
          record { names = ts; whole = ext_get_or 0 bs (area_of ts) l (λ i lt. let z : 0 + i ≡ i = omega arith in rw z at (r.lie.bytes i (omega arith))); count = r.count; each = r.each }
