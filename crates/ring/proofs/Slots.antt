-- What a write to one slot of a memory, `&mut mem[w * p..w * p + w]`, makes of it: that slot, and no other, is what was written.
use Rattle.std.proofs.Common.{◌≡◌, ℕ, suc, ◌+◌, ◌-◌, ◌*◌, ◌<◌, ◌≤◌, ◌≢◌, List, ◌++◌, length, take, drop, sym, ap, ◌∙◌, ⊎_elim, mul-le-mul_left, mul-suc, arith}
use borrow.Rule.Slice.PartMut.{put_mid}
use Rattle.std.proofs.lemmas.List.{drop-take, take-append-drop, length-take, length-drop}
use Rattle.std.proofs.lemmas.Slice.{take-put_mid_below, drop-put_mid, between-put_mid}
use Rattle.std.proofs.lemmas.Bool.{cases_lt}
use Rattle.ring.specs.Slots.{slot}

-- the slot as the code's bounds have it
pub slot_lent : {X : Type 0} (w p : ℕ) (mem : List X) → take (w * p + w - w * p) (drop (w * p) mem) ≡ slot w p mem
unfolding slot
slot_lent w p mem = let e : w * p + w - w * p ≡ w = omega arith in ap (λ n. take n (drop (w * p) mem)) e

pub length-slot : {X : Type 0} (w p : ℕ) (mem : List X) → w * p + w ≤ length mem → length (slot w p mem) ≡ w
unfolding slot
length-slot w p mem h = simp (length-take, length-drop) (omega arith)

pub slot_same : {X : Type 0} (w p : ℕ) (mem ys : List X) → w * p + w ≤ length mem → length ys ≡ w → slot w p (put_mid (w * p) (w * p + w - w * p) mem ys) ≡ ys
slot_same w p mem ys h e =
    sym (slot_lent w p _) ∙ between-put_mid (w * p) (w * p + w - w * p) mem ys (w * p + w) (omega arith) (omega arith)

-- written with what it held, a slot leaves the memory as it was
pub slot-unwritten : {X : Type 0} (w p : ℕ) (mem ys : List X) → ys ≡ take (w * p + w - w * p) (drop (w * p) mem) → put_mid (w * p) (w * p + w - w * p) mem ys ≡ mem
slot-unwritten w p mem ys e =
    let n = w * p + w - w * p in
    ap (λ zs. take (w * p) mem ++ (zs ++ drop n (drop (w * p) mem))) e
    ∙ ap (λ zs. take (w * p) mem ++ zs) (take-append-drop n (drop (w * p) mem))
    ∙ take-append-drop (w * p) mem

next-slot : (w j k : ℕ) → j < k → w * j + w ≤ w * k
next-slot w j k h = omega (arith, mul-suc w j, mul-le-mul_left {m = suc j} {n = k} w h)

slot-taken : {X : Type 0} (w k : ℕ) (mem : List X) → slot w k mem ≡ drop (w * k) (take (w * k + w) mem)
unfolding slot
slot-taken w k mem = sym (drop-take (w * k) w mem)

slot-below : {X : Type 0} (w p k : ℕ) (mem ys : List X) → w * p + w ≤ length mem → k < p → slot w k (put_mid (w * p) (w * p + w - w * p) mem ys) ≡ slot w k mem
slot-below w p k mem ys h l =
    slot-taken w k _ ∙ ap (drop (w * k)) (take-put_mid_below (w * p) (w * p + w - w * p) mem ys (w * k + w) (next-slot w k p l) (omega arith)) ∙ sym (slot-taken w k mem)

slot-above : {X : Type 0} (w p k : ℕ) (mem ys : List X) → w * p + w ≤ length mem → length ys ≡ w → p < k → slot w k (put_mid (w * p) (w * p + w - w * p) mem ys) ≡ slot w k mem
unfolding slot
slot-above w p k mem ys h e l =
    ap (take w) (drop-put_mid (w * p) (w * p + w - w * p) mem ys (w * k) (omega (arith, next-slot w p k l)) (omega arith) (omega arith))

pub slot-other : {X : Type 0} (w p k : ℕ) (mem ys : List X) → w * p + w ≤ length mem → length ys ≡ w → k ≢ p → slot w k (put_mid (w * p) (w * p + w - w * p) mem ys) ≡ slot w k mem
slot-other w p k mem ys h e ne =
    ⊎_elim (slot-below w p k mem ys h) (λ (m : p ≤ k). slot-above w p k mem ys h e (omega arith)) (cases_lt k p)
