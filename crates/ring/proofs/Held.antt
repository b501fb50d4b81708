-- What a ring holds: how much, and what one item more or one less makes of it.
use Rattle.std.proofs.Common.{◌≡◌, ℕ, suc, ◌+◌, ◌-◌, ◌<◌, ◌≤◌, true, false, cond, ◌&&◌, ltb, List, [], ◌∷◌, ◌++◌, length, get_or, take, drop, set, Some, None, refl, ◌∙◌, arith}
use Rattle.std.specs.List.{slice_get}
use Rattle.std.proofs.lemmas.List.{same_lists, nil_from_length, length_push, length-take, length-drop, length-append, length-set, get_or_append_left, get_or-append_right, get_or_push, get_or-set_same, get_or-set_other, get_or-take, get_or-drop, get_or_default}
use Rattle.std.proofs.lemmas.Option.{slice_get_read, slice_get_past}
use Rattle.std.proofs.lemmas.Bool.{cases_eq, cond-true}
use Rattle.std.proofs.lemmas.Bool.Decides.{nat_tests}
use Rattle.ring.specs.declared.Ring.{Ring}
use Rattle.ring.specs.Queue.{fits, held, fresh, longer, shorter, spot, place}

-- l of the places from h on, round the end
abbrev part : {X : Type 0} → ℕ → ℕ → List X → List X
part h l ps = take l (drop h (ps ++ ps))

length_part : {X : Type 0} (ps : List X) (h l : ℕ) → h < length ps → l ≤ length ps → length (part h l ps) ≡ l
length_part ps h l a b = simp (length-take, length-drop, length-append) (omega arith)

get_or-twice : {X : Type 0} (ps : List X) (i : ℕ) (d : X) → get_or (ps ++ ps) i d ≡ cond (ltb i (length ps)) (get_or ps i d) (get_or ps (i - length ps) d)
get_or-twice ps i d = grind (arith, nat_tests, get_or_append_left ps ps d i, get_or-append_right ps ps (length ps) i d refl)

get_or-part : {X : Type 0} (ps : List X) (h l k : ℕ) (d : X) → k < l → get_or (part h l ps) k d ≡ cond (ltb (h + k) (length ps)) (get_or ps (h + k) d) (get_or ps (h + k - length ps) d)
get_or-part ps h l k d a = get_or-take l _ k d a ∙ get_or-drop h _ k d ∙ get_or-twice ps (h + k) d

-- a list that has one item more at its end than another, and one that has it at its start
push-from : {X : Type 0} (xs ys : List X) (l : ℕ) (x : X) → length xs ≡ l + 1 → length ys ≡ l → ((k : ℕ) (d : X) → k < l → get_or xs k d ≡ get_or ys k d) → ((d : X) → get_or xs l d ≡ x) → xs ≡ ys ++ x ∷ []
push-from xs ys l x e f each last =
    same_lists xs (ys ++ x ∷ []) (omega (arith, length_push ys x)) (λ k d h. grind (arith, cases_eq k l, each k d, last d, get_or_append_left ys (x ∷ []) d k, get_or_push ys x d l f))

cons-from : {X : Type 0} (xs ys : List X) (l : ℕ) (x : X) → length xs ≡ l + 1 → length ys ≡ l → ((d : X) → get_or xs 0 d ≡ x) → ((k : ℕ) (d : X) → k < l → get_or xs (suc k) d ≡ get_or ys k d) → xs ≡ x ∷ ys
cons-from [] ys l x e f first each = absurd (omega arith)
cons-from (y ∷ xs) ys l x e f first each =
    let q : y ≡ x = first x in
    let t : xs ≡ ys = same_lists xs ys (omega arith) (λ k d h. each k d (omega arith)) in
    cc

part-append : {X : Type 0} (ps : List X) (h l p : ℕ) (x : X) → h < length ps → l < length ps → p ≡ cond (ltb l (length ps - h)) (h + l) (l - (length ps - h)) → part h (l + 1) (set ps p x) ≡ part h l ps ++ x ∷ []
part-append ps h l p x a b e =
    let n = length-set ps p x in
    push-from (part h (l + 1) (set ps p x)) (part h l ps) l x
    (length_part (set ps p x) h (l + 1) (omega arith) (omega arith))
    (length_part ps h l a (omega arith))
    (λ k d i. grind (arith, nat_tests, get_or-part (set ps p x) h (l + 1) k d, get_or-part ps h l k d, get_or-set_other ps p (h + k) x d, get_or-set_other ps p (h + k - length ps) x d))
    (λ d. grind (arith, nat_tests, get_or-part (set ps p x) h (l + 1) l d, get_or-set_same ps p x d))

part-remove : {X : Type 0} (ps : List X) (h l g : ℕ) (d : X) → h < length ps → l < length ps → g ≡ cond (ltb (h + 1) (length ps)) (h + 1) 0 → part h (l + 1) ps ≡ get_or ps h d ∷ part g l ps
part-remove ps h l g d a b e =
    cons-from (part h (l + 1) ps) (part g l ps) l (get_or ps h d)
    (length_part ps h (l + 1) a (omega arith))
    (length_part ps g l (grind (arith, nat_tests)) (omega arith))
    (λ v. grind (arith, nat_tests, get_or-part ps h (l + 1) 0 v, get_or_default ps h d v a))
    (λ k v i. grind (arith, nat_tests, get_or-part ps h (l + 1) (suc k) v, get_or-part ps g l k v))

pub length-held : {X : Type 0} (r : Ring) (ps : List X) → length (held r ps) ≡ cond (fits r (length ps)) r.len 0
unfolding held
length-held r ps = grind (arith, nat_tests, length_part ps r.head r.len)

pub held_none : {X : Type 0} (r : Ring) (ps : List X) → false ≡ (fits r (length ps) && ltb 0 r.len) → held r ps ≡ []
held_none r ps e = nil_from_length (held r ps) (grind (arith, nat_tests, length-held r ps))

pub held-fresh : {X : Type 0} (ps : List X) → held fresh ps ≡ []
held-fresh ps = held_none fresh ps (grind (arith, nat_tests))

held_fits : {X : Type 0} (r : Ring) (ps : List X) → fits r (length ps) ≡ true → held r ps ≡ part r.head r.len ps
unfolding held
held_fits r ps f = cond-true (fits r (length ps)) _ _ f

pub held-longer : {X : Type 0} (r : Ring) (ps : List X) (p : ℕ) (x : X) → fits r (length ps) ≡ true → r.len < length ps → p ≡ place r (length ps) → held (longer r) (set ps p x) ≡ held r ps ++ x ∷ []
held-longer r ps p x f l e =
    let n = length-set ps p x in
    let h : r.head < length ps = grind (arith, nat_tests) in
    let was = held_fits r ps f in
    let is = held_fits (longer r) (set ps p x) (grind (arith, nat_tests)) in
    let step = part-append ps r.head r.len p x h l e in
    cc

pub held-shorter : {X : Type 0} (r : Ring) (ps : List X) (d : X) → fits r (length ps) ≡ true → 0 < r.len → held r ps ≡ get_or ps r.head d ∷ held (shorter r (length ps)) ps
held-shorter r ps d f l =
    let h : r.head < length ps = grind (arith, nat_tests) in
    let m : r.len - 1 < length ps = grind (arith, nat_tests) in
    let k : r.len - 1 + 1 ≡ r.len = omega arith in
    let was = held_fits r ps f in
    let is = held_fits (shorter r (length ps)) ps (grind (arith, nat_tests)) in
    let step = part-remove ps r.head (r.len - 1) _ d h m refl in
    cc

-- the i-th item, and that there is none
pub held_at : {X : Type 0} (r : Ring) (ps : List X) (i : ℕ) (x : X) → fits r (length ps) ≡ true → i < r.len → x ≡ get_or ps (spot r i (length ps)) x → slice_get (held r ps) i ≡ Some x
held_at r ps i x f l e =
    let was = held_fits r ps f in
    let n = length-held r ps in
    slice_get_read (held r ps) r.len i x (grind (arith, nat_tests)) l (grind (arith, nat_tests, get_or-part ps r.head r.len i x))

pub held_past : {X : Type 0} (r : Ring) (ps : List X) (i : ℕ) → false ≡ (fits r (length ps) && ltb i r.len) → slice_get (held r ps) i ≡ None
held_past r ps i e = slice_get_past (held r ps) i (grind (arith, nat_tests, length-held r ps))

-- what a remove leaves, by the ring s that is left and the item x that stands first
pub held-taken : {X : Type 0} (r s : Ring) (ps : List X) (x : X) → fits r (length ps) ≡ true → 0 < r.len → s ≡ shorter r (length ps) → Some x ≡ slice_get (held r ps) 0 → held r ps ≡ x ∷ held s ps
held-taken r s ps x f l e v = let h = held-shorter r ps x f l in cc
