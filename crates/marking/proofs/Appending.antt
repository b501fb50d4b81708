-- The search after an instance was marked that was not marked before: it has a place in the queue.
use Rattle.std.proofs.Common.{◌≡◌, ℕ, ◌+◌, ◌*◌, ◌%◌, ◌^◌, ◌<◌, ◌≤◌, Bool, true, false, cond, ◌&&◌, ltb, List, [], ◌∷◌, ◌++◌, length, get_or, set, sym, ap, ◌∙◌, subst, arith}
use lib.Bits.{bit_or}
use Rattle.std.proofs.lemmas.Nat.{one_shl}
use Rattle.std.proofs.lemmas.Bool.Decides.{nat_tests}
use Rattle.ring.specs.Queue.{fits, held}
use Rattle.ring.specs.declared.Ring.{Ring}
use Rattle.table.specs.Lists.{Lists}
use Rattle.marking.specs.Instances.{Fits, has, holds, unset}
use Rattle.marking.specs.Searching.{Grew, state}
use Rattle.marking.specs.declared.instance.Instance.{Instance}
use Rattle.marking.specs.declared.search.Search.{Search}
use Rattle.marks.specs.Words.{bit}
use Rattle.marking.proofs.Growing.{grew-one, now-marked}
use Rattle.marking.proofs.Setting.{with, unset-with}

-- the words as the code writes them
abbrev pub shifted : List ℕ → ℕ → ℕ → List ℕ
shifted ws a b = set ws a (bit_or (get_or ws a 0) (1 * 2 ^ b % 65536))

module _ (s : Search) (i : Instance) (a b : ℕ) (site : a ≡ i.site) (index : b ≡ i.index) (low : a < 128) (small : b < 16) (lacks : bit (get_or s.words a 0) b ≡ false) where
  bits : Fits i
  bits = record { site = omega arith; index = omega arith }

  new : has s.words i ≡ false
  new = ap (λ x. bit (get_or s.words x 0) i.index) (sym site) ∙ ap (bit (get_or s.words a 0)) (sym index) ∙ lacks

  written : shifted s.words a b ≡ with s.words i.site i.index
  written =
      ap (λ m. set s.words a (bit_or (get_or s.words a 0) m)) (one_shl b 16 small)
      ∙ ap (λ x. set s.words x (bit_or (get_or s.words x 0) (2 ^ b))) site ∙ ap (λ y. set s.words i.site (bit_or (get_or s.words i.site 0) (2 ^ y))) index

  fewer : unset 2048 (with s.words i.site i.index) + 1 ≡ unset 2048 s.words
  fewer = let size = s.locations in let f = bits.site in unset-with s.words i.site i.index f bits.index (omega arith) new

  pub now_marked : has (shifted s.words a b) i ≡ true
  now_marked =
      let P : List ℕ → Type 0 = λ ws. has ws i ≡ true in
      let T : Lists = record { processes = []; signals = []; edges = []; terms = [] } in
      subst P (sym written) (now-marked T (state s) i bits s.locations new)

  module _ (r : Bool) (q : Ring) (ps : List Instance) (took : r ≡ (fits s.waiting (length s.places) && ltb s.waiting.len (length s.places))) where
    taken : r ≡ true
    taken = let f = fewer in let w = s.whole in let t = s.fit in let m = s.room in grind (arith, nat_tests)

    pub room_left : q.len ≡ cond r (s.waiting.len + 1) s.waiting.len → unset 2048 (shifted s.words a b) + q.len ≤ 2048
    room_left e =
        let l = e ∙ ap (λ x. cond x (s.waiting.len + 1) s.waiting.len) taken in
        omega (arith, ap (unset 2048) written, fewer, s.room)

    pub still_fits : fits q (length s.places) ≡ fits s.waiting (length s.places) → fits q 2048 ≡ true
    still_fits e = ap (fits q) (sym s.whole) ∙ e ∙ ap (fits s.waiting) s.whole ∙ s.fit

    pub grew_one : held q ps ≡ cond r (held s.waiting s.places ++ i ∷ []) (held s.waiting s.places) → (T : Lists)
        → Grew T (λ N. holds N i ≡ true) (state s) (record { words = shifted s.words a b; signals = s.signals; queue = held q ps })
    grew_one e T =
        let x = e ∙ ap (λ y. cond y (held s.waiting s.places ++ i ∷ []) (held s.waiting s.places)) taken in
        let P : List ℕ → Type 0 = λ ws. Grew T (λ N. holds N i ≡ true) (state s) (record { words = ws; signals = s.signals; queue = held q ps }) in
        let Q : List Instance → Type 0 = λ is. Grew T (λ N. holds N i ≡ true) (state s) (record { words = with s.words i.site i.index; signals = s.signals; queue = is }) in
        subst P (sym written) (subst Q (sym x) (grew-one T (state s) i bits s.locations new))
