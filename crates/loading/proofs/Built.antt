-- An index as it is built, from the last edge down to the first.
use Rattle.std.proofs.Common.{◌≡◌, ℕ, ◌+◌, ◌-◌, ◌*◌, ◌<◌, ◌≤◌, Bool, true, false, cond, ◌&&◌, ◌⊎◌, List, length, get_or, None, Some, refl, sym, ◌∙◌, ◌==◌, if◌then◌else◌, inl, inr, arith, get_or-set_other}
use Rattle.std.specs.List.{slice_get}
use Rattle.std.proofs.lemmas.Bool.{cases_eq}
use Rattle.std.proofs.lemmas.Bool.Decides.{nat_tests}
use Rattle.std.proofs.lemmas.Grind.{get_or-set_at}
use Rattle.std.proofs.lemmas.Option.{slice_get_within}
use Rattle.table.specs.declared.record.Edge.{Edge}
use Rattle.loading.specs.Following.{leaving, next_at}
use Rattle.loading.specs.Indexing.{Built, headed, known, linked, within}
use Rattle.loading.proofs.Following.{next-above, next-end, next-here, next-later, past-none}

pub none_built : (n : ℕ) (fs ns : List ℕ) (es : List Edge) → n ≡ length es → ((i : ℕ) → i < 128 → get_or fs i 0 ≡ n) → Built fs ns es n
none_built n fs ns es q all = record {
  firsts = λ p l hp hl. all (16 * p + l) (omega arith) ∙ sym (next-end es p l n (omega arith));
  nexts = λ j e le there. let w = slice_get_within es j e there in absurd (omega arith);
}

-- what the first numbers say after edge k came before those above it
headed-here : (fs : List ℕ) (a b p l k : ℕ) → length fs ≡ 128 → p < 8 → l < 16 → a ≡ p → b ≡ l → get_or (headed fs a b k) (16 * p + l) 0 ≡ k
unfolding headed
headed-here fs a b p l k n hp hl qa qb = rw (qa, qb) (grind (arith, nat_tests, get_or-set_at {X = ℕ}))

headed-other : (fs : List ℕ) (a b p l k : ℕ) → p < 8 → l < 16 → (a ≡ p → b ≡ l → ⊥) → get_or (headed fs a b k) (16 * p + l) 0 ≡ get_or fs (16 * p + l) 0
unfolding headed
headed-other fs a b p l k hp hl other = grind (arith, nat_tests, get_or-set_other {A = ℕ})

linked-here : (fs ns : List ℕ) (a b k : ℕ) → k < length ns → get_or (linked fs ns a b k) k 0 ≡ cond (within a b) (get_or fs (16 * a + b) 0) (k + 1)
unfolding linked
linked-here fs ns a b k lt = grind (arith, get_or-set_at {X = ℕ})

linked-other : (fs ns : List ℕ) (a b k j : ℕ) → k < j → get_or (linked fs ns a b k) j 0 ≡ get_or ns j 0
unfolding linked
linked-other fs ns a b k j lt = grind (arith, get_or-set_other {A = ℕ})

leaving-apart : (a b p l : ℕ) → (a == p && b == l) ≡ false → a ≡ p → b ≡ l → ⊥
leaving-apart a b p l h qa qb = grind (arith, nat_tests)

module _ (fs ns : List ℕ) (es : List Edge) (k : ℕ) (so : Built fs ns es (k + 1)) (e : Edge) (there : slice_get es k ≡ Some e) where
  first-built : length fs ≡ 128 → (p l : ℕ) → p < 8 → l < 16 → get_or (headed fs e.process e.from k) (16 * p + l) 0 ≡ next_at es p l k
  first-built n p l hp hl = go (leaving p l e) refl
    where
      go : (b : Bool) → leaving p l e ≡ b → get_or (headed fs e.process e.from k) (16 * p + l) 0 ≡ next_at es p l k
      go true h = headed-here fs e.process e.from p l k n hp hl (grind (arith, nat_tests)) (grind (arith, nat_tests)) ∙ sym (next-here es p l k e there h)
      go false h = headed-other fs e.process e.from p l k hp hl (leaving-apart e.process e.from p l h) ∙ (so.firsts p l hp hl ∙ sym (next-later es p l k e there h))

  next-linked : k < length ns → get_or (linked fs ns e.process e.from k) k 0 ≡ known es e.process e.from (k + 1)
  unfolding known
  next-linked lt = linked-here fs ns e.process e.from k lt ∙ go (within e.process e.from) refl
    where
      go : (b : Bool) → within e.process e.from ≡ b → cond (within e.process e.from) (get_or fs (16 * e.process + e.from) 0) (k + 1) ≡ cond (within e.process e.from) (next_at es e.process e.from (k + 1)) (k + 1)
      go true h = rw h (so.firsts e.process e.from (grind (arith, nat_tests)) (grind (arith, nat_tests)))
      go false h = rw h refl

  nexts-built : k < length ns → (j : ℕ) (d : Edge) → k ≤ j → slice_get es j ≡ Some d → get_or (linked fs ns e.process e.from k) j 0 ≡ known es d.process d.from (j + 1)
  nexts-built lt j d le at = go (cases_eq k j)
    where
      go : (k ≡ j) ⊎ (k ≡ j → ⊥) → get_or (linked fs ns e.process e.from k) j 0 ≡ known es d.process d.from (j + 1)
      go (inl q) = let z : d ≡ e = cc in rw (← q, z) (next-linked lt)
      go (inr other) = let up : k < j = omega arith in linked-other fs ns e.process e.from k j up ∙ so.nexts j d (omega arith) at

  pub one_built : length fs ≡ 128 → k < length ns → Built (headed fs e.process e.from k) (linked fs ns e.process e.from k) es k
  one_built n lt = record { firsts = first-built n; nexts = nexts-built lt }

-- edge k came before those above it
module _ (fs ns fs' ns' : List ℕ) (es : List Edge) (k m : ℕ) (e : Edge) (a b : ℕ) where
  pub put_built : Built fs ns es m → m ≡ k + 1 → Some e ≡ slice_get es k → a ≡ e.process → b ≡ e.from → length fs ≡ 128 → k < length ns
      → fs' ≡ headed fs a b k → ns' ≡ linked fs ns a b k → Built fs' ns' es k
  put_built so above there qa qb n lt hf hn = rw (hf, hn, qa, qb) (one_built fs ns es k (rw above at so) e (sym there) n lt)

-- there is no edge k, though it is below the length
pub none_there : (fs ns : List ℕ) (es : List Edge) (k : ℕ) → slice_get es k ≡ None → k < length es → Built fs ns es k
none_there fs ns es k e lt = let past = past-none es k e in absurd (omega arith)

-- what the numbers of a whole index say at the place of a location
pub first-known : (fs ns : List ℕ) (es : List Edge) (p l : ℕ) → Built fs ns es 0 → (if within p l then get_or fs (16 * p + l) 0 else 0) ≡ known es p l 0
unfolding known
first-known fs ns es p l so = go (within p l) refl
  where
    go : (b : Bool) → within p l ≡ b → (if within p l then get_or fs (16 * p + l) 0 else 0) ≡ cond (within p l) (next_at es p l 0) 0
    go true h = rw h (so.firsts p l (grind (arith, nat_tests)) (grind (arith, nat_tests)))
    go false h = rw h refl

pub known-within : (es : List Edge) (p l i : ℕ) → p < 8 → l < 16 → known es p l i ≡ next_at es p l i
unfolding known
known-within es p l i hp hl = grind (arith, nat_tests)

pub known-above : (es : List Edge) (p l i : ℕ) → i ≤ known es p l i
unfolding known
known-above es p l i = let a = next-above es p l i in grind arith

pub known-before : (es : List Edge) (p l i : ℕ) → known es p l i ≤ next_at es p l i
unfolding known
known-before es p l i = let a = next-above es p l i in grind arith

-- what an edge just before number k tells, where it leaves the location p l
pub known-there : (es : List Edge) (e : Edge) (a b p l k : ℕ) → a ≡ e.process → b ≡ e.from → true ≡ (a == p && b == l) → (k ≡ 0 → ⊥) → known es e.process e.from (k - 1 + 1) ≡ known es p l k
known-there es e a b p l k qa qb same some =
    let k' : k - 1 + 1 ≡ k = omega arith in
    let p' : e.process ≡ p = grind (arith, nat_tests) in
    let l' : e.from ≡ l = grind (arith, nat_tests) in
    rw (k', p', l')
