use Rattle.std.proofs.Common.{◌≡◌, ℕ, ◌+◌, ◌-◌, ◌≤◌, List, ◌++◌, rules, arith, length, take, slice_range, sym, ap, ◌∙◌, subst, le_refl, drop_at, length-take-le, Option}
use Rattle.std.proofs.lemmas.Slice.{take-put_mid_below}
use Rattle.std.specs.Io.KnownBytes.{Consumes, Keeps}
use Rattle.std.proofs.KnownBytes.{Consumes-trans, Consumes-kept}
use borrow.Rule.Slice.PartMut.{put_mid, post_of}
use lib.Seq.{take-add, take-append-le}
use Rattle.shell.proofs.input.fill_from.Goals.{in-Ok, in-Err+else-ne}
use Rattle.shell.proofs.input.fill_from.Goals as goal

-- what lies before a stays, and behind it lies what new has there
take_split : (a b : ℕ) (old new : List ℕ) → a ≤ b → take a new ≡ take a old → take a old ++ slice_range new a b ≡ take b new
take_split a b old new h front =
    let same : a + (b - a) ≡ b = omega arith in
    ap (λ l. l ++ slice_range new a b) (sym front) ∙ sym (take-add a (b - a) new) ∙ ap (λ n. take n new) same

-- the first n of what was put at a
slice_range-put_mid : (a k n : ℕ) (xs ys : List ℕ) → a ≤ length xs → n ≤ length ys → slice_range (put_mid a k xs ys) a (a + n) ≡ take n ys
slice_range-put_mid a k n xs ys within fits =
    let same : (a + n) - a ≡ n = omega arith in
    let after = post_of a k xs in
    ap (take ((a + n) - a)) (drop_at (take a xs) (ys ++ after) a (length-take-le a xs within)) ∙ ap (λ m. take m (ys ++ after)) same ∙ take-append-le n ys after fits

-- a read of n bytes goes on from the first `from` of the room
consumed : (a b c : Option (List ℕ)) (from k n f : ℕ) (room buf : List ℕ)
    → from ≤ length room → n ≤ length buf → Consumes a b (take from room) → Consumes b c (take n buf) → f ≡ from + n → Consumes a c (take f (put_mid from k room buf))
consumed a b c from k n f room buf within fits before now e =
    let part = slice_range-put_mid from k n room buf within fits in
    let joined = take_split from (from + n) room (put_mid from k room buf) (omega arith) (take-put_mid_below from k room buf from (le_refl from) within) in
    subst (λ m. Consumes a c (take m (put_mid from k room buf))) (sym e)
    (subst (Consumes a c) (ap (λ l. take from room ++ l) (sym part) ∙ joined) (Consumes-trans a b c (take from room) (take n buf) before now))

-- a read that fails leaves what was given
kept : (a b c : Option (List ℕ)) (from k f : ℕ) (room buf : List ℕ)
    → from ≤ length room → Consumes a b (take from room) → Keeps b c → f ≡ from → Consumes a c (take f (put_mid from k room buf))
kept a b c from k f room buf within before now e =
    subst (λ m. Consumes a c (take m (put_mid from k room buf))) (sym e)
    (subst (Consumes a c) (sym (take-put_mid_below from k room buf from (le_refl from) within)) (Consumes-kept a b c (take from room) before now))

pub loop-preserved : goal.loop-preserved
loop-preserved g c =
    let left = g.R.Read.remaining in
    let from = c.loop.filled in
    let room = c.loop.room in
    let within = c.loop.invariant.1 in
    elim c.match-read.branch [
      | in-Ok w ↦ (
        search rules,
        search rules,
        consumed (left c.args.reader.now) (left c.loop.reader) (left c.read.new.self) from (length room - from) w.in-Ok.count c.match-read.filled
            room c.read.new.buf within w.in-Ok.ensures.bound.0 c.loop.invariant.2 w.in-Ok.ensures.bytes.0 w.filled-is,
      )
      | in-Err+else-ne w ↦ (
        search rules,
        search rules,
        kept (left c.args.reader.now) (left c.loop.reader) (left c.read.new.self) from (length room - from) c.match-read.filled
            room c.read.new.buf within c.loop.invariant.2 w.in-Err.ensures.bytes w.filled-is,
      )
    ]
