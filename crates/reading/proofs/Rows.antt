-- A row of records: one more of them, and the first that is refused.
use Rattle.std.proofs.Common.{◌≡◌, ℕ, zero, suc, ◌+◌, ◌-◌, ◌*◌, ◌<◌, ◌≤◌, List, [], ◌∷◌, ◌++◌, IsErrAnd, Ok, Err, Result, sym, refl, ap, ◌∙◌, subst, add-one, arith}
use Rattle.std.proofs.Math.Nat.{mul-suc, mul-le-mul_left}
use Rattle.std.proofs.lemmas.List.FromFn.{map-range_with_len_more}
use Rattle.reading.proofs.Chains.{got-value, got-end, after-parts, read, refused, exit}
use Rattle.reading.specs.Faults.{sheet_refusal}
use Rattle.reading.specs.Formats.{Answer, Format, got, bad, after, each}
use Rattle.reading.specs.Readings.{Reads, value_or, read_at, row_at}
use Rattle.reading.specs.declared.fault.SheetFault.{SheetFault}
use Rattle.reading.specs.declared.reader.Reader.{Reader}
use Rattle.refusal.specs.declared.fault.Refusal.{Refusal}

-- one more of n steps of w
pub reach : (w i n : ℕ) → i < n → (w * (i + 1) ≡ w * i + w) × (w * (i + 1) ≤ w * n)
reach w i n h = (rw add-one (mul-suc w i), mul-le-mul_left w (omega arith))

pub each_none : {A : Type 0} (f : ℕ → Answer A) (p : ℕ) → each 0 f p ≡ got [] p
unfolding each
each_none f p = refl

module _ {A : Type 0} (f : ℕ → Answer A) (p : ℕ) where
  pub each-suc : (n : ℕ) (xs : List A) (q : ℕ) (x : A) (e : ℕ) → each n f p ≡ got xs q → f q ≡ got x e → each (suc n) f p ≡ got (xs ++ x ∷ []) e
  unfolding each after
  each-suc n xs q x e h k = ap (λ y. after y (λ xs q. after (f q) (λ x e. got (xs ++ x ∷ []) e))) h ∙ ap (λ y. after y (λ x e. got (xs ++ x ∷ []) e)) k

  pub each_more : (n : ℕ) (xs : List A) (q : ℕ) (x : A) (e : ℕ) → each n f p ≡ got xs q → f q ≡ got x e → each (n + 1) f p ≡ got (xs ++ x ∷ []) e
  each_more n xs q x e h k = rw add-one (each-suc n xs q x e h k)

  each-stop : (n : ℕ) (xs : List A) (q : ℕ) (r : Refusal) → each n f p ≡ got xs q → f q ≡ bad r → each (suc n) f p ≡ bad r
  unfolding each after
  each-stop n xs q r h k = ap (λ y. after y (λ xs q. after (f q) (λ x e. got (xs ++ x ∷ []) e))) h ∙ ap (λ y. after y (λ x e. got (xs ++ x ∷ []) e)) k

  each-still : (n : ℕ) (r : Refusal) → each n f p ≡ bad r → each (suc n) f p ≡ bad r
  unfolding each after
  each-still n r h = ap (λ y. after y (λ xs q. after (f q) (λ x e. got (xs ++ x ∷ []) e))) h

  each-late : (n d : ℕ) (r : Refusal) → each n f p ≡ bad r → each (n + d) f p ≡ bad r
  each-late n zero r h = let e : n + 0 ≡ n = omega arith in rw e h
  each-late n (suc d) r h = let e : n + suc d ≡ suc (n + d) = omega arith in rw e (each-still (n + d) r (each-late n d r h))

  -- the record after the first i is refused, so a row of n is
  pub each-bad : (i n : ℕ) (xs : List A) (q : ℕ) (r : Refusal) → i < n → each i f p ≡ got xs q → f q ≡ bad r → each n f p ≡ bad r
  each-bad i n xs q r lt h k = let e : suc i + (n - suc i) ≡ n = omega arith in rw e at (each-late (suc i) (n - suc i) r (each-stop i xs q r h k))

  -- the last record of a row, and those in front of it
  pub record Last (n : ℕ) (zs : List A) (e : ℕ) : Type 0 where
    pub front : List A
    pub end : ℕ
    pub value : A
    pub first : each n f p ≡ got front end
    pub last : f end ≡ got value e
    pub whole : zs ≡ front ++ value ∷ []

  pub each-parts : (n : ℕ) (zs : List A) (e : ℕ) → each (suc n) f p ≡ got zs e → Last n zs e
  unfolding each
  each-parts n zs e h =
      let a = after-parts (each n f p) (λ xs q. after (f q) (λ x e. got (xs ++ x ∷ []) e)) zs e h in
      let b = after-parts (f a.end) (λ x e. got (a.value ++ x ∷ []) e) zs e a.rest in
      let z = got-end (a.value ++ b.value ∷ []) zs b.end e b.rest in
      record {
        front = a.value;
        end = a.end;
        value = b.value;
        first = a.first;
        last = b.first ∙ ap (λ k. got b.value k) z;
        whole = sym (got-value (a.value ++ b.value ∷ []) zs b.end e b.rest);
      }

-- one record more in front
pub each-cons : {A : Type 0} (f : ℕ → Answer A) (p n : ℕ) (x : A) (q : ℕ) (xs : List A) (e : ℕ) → f p ≡ got x q → each n f q ≡ got xs e → each (suc n) f p ≡ got (x ∷ xs) e
each-cons f p zero x q xs e h k =
    let b = sym (each_none f q) ∙ k in
    each-suc f p 0 [] p x q (each_none f p) h
    ∙ ap (λ ys. got (x ∷ ys) q) (got-value [] xs q e b) ∙ ap (λ z. got (x ∷ xs) z) (got-end [] xs q e b)
each-cons f p (suc n) x q xs e h k =
    let b = each-parts f q n xs e k in
    each-suc f p (suc n) (x ∷ b.front) b.end b.value e (each-cons f p n x q b.front b.end h b.first) b.last
    ∙ ap (λ ys. got (x ∷ ys) e) (sym b.whole)

-- a reader went from s to t, and read the n records xs
pub record Row {A : Type 0} (f : List ℕ → ℕ → Answer A) (n : ℕ) (xs : List A) (s t : Reader) : Type 0 where
  pub reads : each n (f s.bytes.now) s.place ≡ got xs t.place
  pub same : t.bytes.now ≡ s.bytes.now

pub row-none : {A : Type 0} (f : List ℕ → ℕ → Answer A) (s : Reader) → Row f 0 [] s s
row-none f s = record { reads = each_none (f s.bytes.now) s.place; same = refl }

module _ {A B : Type 0} {f : List ℕ → ℕ → Answer B} {n : ℕ} {xs : List B} {means : A → B} {s t u : Reader} {r : Result A SheetFault} where
  pub row_more : {x : A} → Row f n xs s t → Reads f means t r u → r ≡ Ok x → Row f (n + 1) (xs ++ means x ∷ []) s u
  row_more {x} h k e = record {
    reads = each_more (f s.bytes.now) s.place n xs t.place (means x) u.place h.reads (read s.bytes.now k e h.same);
    same = k.same ∙ h.same;
  }

  pub row-exit : {C : Type 0} {mean : C → List B} {R : Result C SheetFault} {m : ℕ} {y : SheetFault} → n < m → Row f n xs s t → Reads f means t r u → r ≡ Err y → IsErrAnd R (λ z. z ≡ y) →
      Reads (λ bs p. each m (f bs) p) mean s R u
  row-exit {m} {y} lt h k e b =
      exit k e b h.same
      (each-bad (f s.bytes.now) s.place n m xs t.place (sheet_refusal y) lt h.reads (refused s.bytes.now k e h.same))

pub row-all : {B C : Type 0} {f : List ℕ → ℕ → Answer B} {n : ℕ} {xs : List B} {mean : C → List B} {s t : Reader} (x : C) → Row f n xs s t → mean x ≡ xs → Reads (λ bs p. each n (f bs) p) mean s (Ok x) t
row-all {t} x h e = record { value = ap (λ z. got z t.place) e ∙ sym h.reads; same = h.same; stays = tt }

-- a row that is not kept: its records are those that lie there
pub row_next : {A : Type 0} (f : Format A) (d : A) (w : ℕ) {n : ℕ} {s t u : Reader} {r : Result A SheetFault} {x : A} →
    Row f.reads n (row_at f d s.bytes.now s.place w n) s t → t.place ≡ s.place + w * n → Reads f.reads (λ y. y) t r u → r ≡ Ok x →
    Row f.reads (n + 1) (row_at f d s.bytes.now s.place w (n + 1)) s u
row_next {A} f d w {n} {s} {t} {u} {r} {x} h at k e =
    let bs = s.bytes.now in
    let v : read_at f d bs (s.place + w * n) ≡ x = ap (λ p. read_at f d bs p) (sym at) ∙ ap (λ y. value_or y d) (read bs k e h.same) in
    let m = map-range_with_len_more (λ i. read_at f d bs (s.place + w * i)) 0 n n (omega arith) ∙ ap (λ y. row_at f d bs s.place w n ++ y ∷ []) v in
    subst (λ ys. Row f.reads (n + 1) ys s u) (sym m) (row_more h k e)
