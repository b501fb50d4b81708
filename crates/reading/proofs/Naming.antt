-- Where the names begin.
use Rattle.std.proofs.Common.{◌≡◌, ℕ, ◌+◌, ◌<◌, ◌≤◌, List, [], ◌∷◌, ◌++◌, map, length, get_or, take, drop, Some, sym, refl, ap, ◌∙◌, add-one, arith, length-take}
use Rattle.std.proofs.lemmas.List.FromFn.{map-range_with_len_more, length-map-range_with_len, get_or-map-range_with_len}
use Rattle.std.proofs.lemmas.List.{length-drop, get_or-drop, get_or-take}
use Rattle.std.proofs.lemmas.Option.{slice_get-get_or}
use Rattle.std.specs.List.{slice_get, range_with_len}
use Rattle.reading.specs.Opening.{placed}
use Rattle.reading.specs.Rows.{text_at, texts_at, named_at, next_name, name_start}

pub name_start-none : (bs : List ℕ) (a : ℕ) → name_start bs a 0 ≡ a
unfolding name_start
name_start-none bs a = refl

pub name_start-more : (bs : List ℕ) (a k : ℕ) → name_start bs a (k + 1) ≡ next_name bs (name_start bs a k)
unfolding name_start
name_start-more bs a k = rw (add-one k) refl

-- how many bytes the names take
pub extent : List (List ℕ) → ℕ
extent [] = 0
extent (t ∷ ts) = 1 + length t + extent ts

extent-push : (ts : List (List ℕ)) (t : List ℕ) → extent (ts ++ t ∷ []) ≡ extent ts + 1 + length t
unfolding extent
extent-push [] t = omega arith
extent-push (u ∷ ts) t = omega (arith, extent-push ts t)

placed-push : (a : ℕ) (ts : List (List ℕ)) (t : List ℕ) → placed a (ts ++ t ∷ []) ≡ placed a ts ++ (a + extent ts + 1, t) ∷ []
unfolding placed extent
placed-push a [] t = let e : a + 1 ≡ a + 0 + 1 = omega arith in rw e
placed-push a (u ∷ ts) t =
    let e : a + 1 + length u + extent ts + 1 ≡ a + (1 + length u + extent ts) + 1 = omega arith in
    ap (λ ys. (a + 1, u) ∷ ys) (placed-push (a + 1 + length u) ts t ∙ ap (λ k. placed (a + 1 + length u) ts ++ (k, t) ∷ []) e)

-- the names of a row lie where their lengths say
pub record Laid (bs : List ℕ) (a n : ℕ) : Type 0 where
  pub places : placed a (texts_at bs a n) ≡ named_at bs a n
  pub start : a + extent (texts_at bs a n) ≡ name_start bs a n

pub laid_none : (bs : List ℕ) (a : ℕ) → Laid bs a 0
unfolding placed extent
laid_none bs a = record { places = refl; start = omega (arith, name_start-none bs a) }

pub laid_more : (bs : List ℕ) (a n : ℕ) → Laid bs a n → length (text_at bs (name_start bs a n)) ≡ get_or bs (name_start bs a n) 0 → Laid bs a (n + 1)
laid_more bs a n h l =
    let t = text_at bs (name_start bs a n) in
    let e : texts_at bs a (n + 1) ≡ texts_at bs a n ++ t ∷ [] = map-range_with_len_more (λ k. text_at bs (name_start bs a k)) 0 n n (omega arith) in
    let m : named_at bs a (n + 1) ≡ named_at bs a n ++ (name_start bs a n + 1, t) ∷ [] =
    map-range_with_len_more (λ k. (name_start bs a k + 1, text_at bs (name_start bs a k))) 0 n n (omega arith) in
    record {
      places =
          ap (placed a) e ∙ placed-push a (texts_at bs a n) t ∙ ap (λ ys. ys ++ (a + extent (texts_at bs a n) + 1, t) ∷ []) h.places ∙
          ap (λ k. named_at bs a n ++ (k + 1, t) ∷ []) h.start ∙ sym m;
      start = omega (arith, ap extent e, extent-push (texts_at bs a n) t, h.start, name_start-more bs a n, l);
    }

-- a part of a row
module _ {A : Type 0} (f : ℕ → A) (d : A) (all first count k : ℕ) (room : first + count ≤ all) where
  length-part : length (take count (drop first (map f (range_with_len 0 all)))) ≡ count
  length-part =
      omega (arith, length-take count (drop first (map f (range_with_len 0 all))), length-drop first (map f (range_with_len 0 all)), length-map-range_with_len f 0 all)

  pub nth-part : k < count → slice_get (take count (drop first (map f (range_with_len 0 all)))) k ≡ Some (f (first + k))
  nth-part h =
      slice_get-get_or (take count (drop first (map f (range_with_len 0 all)))) k d (rw length-part h) ∙
      ap Some (get_or-take count (drop first (map f (range_with_len 0 all))) k d h ∙ get_or-drop first (map f (range_with_len 0 all)) k d ∙ get_or-map-range_with_len f 0 all (first + k) (first + k) d (omega arith) (omega arith))
