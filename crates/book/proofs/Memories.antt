-- What a memory holds of a book after a write to it.
use Rattle.std.proofs.Common.{◌≡◌, ℕ, suc, ◌+◌, ◌-◌, ◌<◌, ◌≤◌, false, min, ltb, List, [], ◌∷◌, ◌++◌, map, length, take, drop, set, None, sym, refl, ap, ◌∙◌, arith, length-drop, length-take, drop-drop}
use borrow.Rule.Slice.PartMut.{put_mid}
use Rattle.std.proofs.Math.Seq.{take-set-lt}
use Rattle.std.proofs.lemmas.Bool.{or_parts}
use Rattle.std.proofs.lemmas.Bool.Decides.{nat_tests}
use Rattle.std.proofs.lemmas.List.{take-take, drop-take, map-append, length-map}
use Rattle.std.proofs.lemmas.List.Edits.{take-paste, drop-paste, paste_all}
use Rattle.std.proofs.lemmas.Slice.{take-put_mid, put_mid-paste}
use Rattle.std.specs.List.{copy_within, list_any, remove}
use Rattle.book.specs.Books.{plain, lists_of, lack, lacking, Whole}
use Rattle.book.specs.declared.book.Book.{Book}
use Rattle.table.specs.declared.record.Edge.{Edge}
use Rattle.table.specs.declared.record.Term.{Term}

pub take_changed : {X : Type 0} (n : ℕ) (xs : List X) (k : ℕ) (x : X) → k < n → take n (set xs k x) ≡ set (take n xs) k x
take_changed n xs k x h = take-set-lt n xs k x h

pub take_struck : {X : Type 0} (n : ℕ) (xs : List X) (k : ℕ) → k < n → n ≤ length xs → take (n - 1) (copy_within xs (k + 1) n k) ≡ remove (take n xs) k
take_struck n xs k h l =
    let m = n - (k + 1) in
    let a : n - 1 ≡ k + m = omega arith in
    let b : suc k + m ≡ n = omega arith in
    let c : k + 1 ≡ suc k = omega arith in
    let d : drop (suc k) (take n xs) ≡ take m (drop (suc k) xs) = rw b at (drop-take (suc k) m xs) in
    ap (λ i. take i (copy_within xs (k + 1) n k)) a ∙ take-paste xs k (drop (k + 1) xs) m (omega arith) (omega (arith, length-drop (k + 1) xs)) ∙
    ap (λ i. take k xs ++ take m (drop i xs)) c ∙ ap (λ ys. take k xs ++ ys) (sym d) ∙ ap (λ ys. ys ++ drop (suc k) (take n xs)) (sym (take-take k n xs (omega arith)))

plain-known : (t : Term) → ltb 15 t.operation ≡ false → plain t ≡ t
plain-known t h = let e : min t.operation 15 ≡ t.operation = grind (arith, nat_tests) in ap (λ n. record { operation = n; argument = t.argument }) e

map-plain : (ts : List Term) → list_any (λ t. ltb 15 t.operation) ts ≡ false → map plain ts ≡ ts
map-plain [] h = refl
map-plain (t ∷ ts) h =
    let p = or_parts (ltb 15 t.operation) _ h in
    ap (λ x. x ∷ map plain ts) (plain-known t p.0) ∙ ap (λ xs. t ∷ xs) (map-plain ts p.1)

pub take_entered : (n : ℕ) (xs ys : List Term) (k : ℕ) → n ≤ length xs → list_any (λ t. ltb 15 t.operation) ys ≡ false → map plain (take (n + length ys) (put_mid n k xs ys)) ≡ map plain (take n xs) ++ ys
take_entered n xs ys k l h =
    ap (map plain) (take-put_mid n k xs ys (n + length ys) refl l) ∙ map-append plain (take n xs) ys ∙ ap (λ zs. map plain (take n xs) ++ zs) (map-plain ys h)

-- terms that are entered are written as they are, and all that is before and behind them stays
pub written : {X : Type 0} (n : ℕ) (xs ys : List X) (k : ℕ) → n ≤ length xs → k ≡ length ys → put_mid n k xs ys ≡ take n xs ++ (ys ++ drop (n + length ys) xs)
written n xs ys k l e = put_mid-paste n k xs ys ys (length ys) refl (sym e) refl ∙ paste_all xs n ys (length ys) refl

pub behind_struck : {X : Type 0} (n : ℕ) (xs : List X) (k : ℕ) → k < n → n ≤ length xs → drop n (copy_within xs (k + 1) n k) ≡ drop n xs
behind_struck n xs k h l =
    let m = n - (k + 1) in
    let a : n ≡ k + m + 1 = omega arith in
    let C = copy_within xs (k + 1) n k in
    let same : drop (k + m) C ≡ drop (k + m) xs = drop-paste xs k (drop (k + 1) xs) m (omega arith) (omega (arith, length-drop (k + 1) xs)) in
    ap (λ i. drop i C) a ∙ sym (drop-drop 1 (k + m) C) ∙ ap (drop 1) same ∙ drop-drop 1 (k + m) xs ∙ ap (λ i. drop i xs) (sym a)

-- a memory that has a place for all that the book has

lack-none : {X : Type 0} (n : ℕ) (xs : List X) → n ≤ length xs → lack n xs ≡ None
lack-none n xs h = let e : ltb (length xs) n ≡ false = grind (arith, nat_tests) in rw e refl

held : {X : Type 0} (n : ℕ) (xs ys : List X) → n ≤ length xs → take n ys ≡ take n xs → n ≤ length ys
held n xs ys h e = omega (arith, length-take n xs, length-take n ys, ap length e)

lacking-none : (b : Book) (es : List Edge) (ts : List Term) → b.edges ≤ length es → b.terms ≤ length ts → lacking b es ts ≡ None
lacking-none b es ts h k = rw (lack-none b.edges es h, lack-none b.terms ts k) refl

pub whole_of : (b : Book) (es : List Edge) (ts : List Term) → b.edges ≤ length es → b.terms ≤ length ts → Whole b es ts
unfolding lists_of
whole_of b es ts h k = record {
  edges = omega (arith, length-take b.edges es);
  terms = omega (arith, length-take b.terms ts, length-map (take b.terms ts) plain);
  lent = lacking-none b es ts h k;
  elsewhere = λ us vs p q. (lacking-none b us vs (held b.edges es us h p) (held b.terms ts vs k q), rw (p, q) refl);
}

pub ruleset after_writes = (take_changed, take_struck, take_entered, written, behind_struck, whole_of)
