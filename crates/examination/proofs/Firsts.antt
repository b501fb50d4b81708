-- The first answer of a question asked at number after number: as a loop finds it, and of a question about the elements of a list.
use Rattle.std.proofs.Common.{◌≡◌, ℕ, zero, suc, ◌+◌, ◌-◌, ◌<◌, ◌≤◌, List, [], ◌∷◌, length, Some, None, true, inl, inr, ◌⊎◌, Option, sym, refl, ap, ◌∙◌, arith}
use Rattle.std.specs.List.{slice_get}
use Rattle.std.specs.declared.ops.Range.{Range}
use Rattle.std.specs.Fn.{Called}
use Rattle.std.specs.Iterator.Runs.{Run, SomeRun, AllItemsGive, IsFirstToGive, CallKeepsClosure}
use Rattle.std.proofs.iter.Yields.{nat_range_steps}
use Rattle.std.proofs.iter.runs.Sources.{range_runs}
use Rattle.std.proofs.lemmas.Bool.{cases_eq}
use Rattle.std.proofs.lemmas.Iterator.Adapters.{option_map_id}
use denote.Param.Members.{Mut}
use Rattle.std.specs.Option.{option_or, option_map, MatchOption, IfSome, IsSomeAnd}
use Rattle.table.specs.Examination.{answer_at, first_at}
use Rattle.examination.specs.Firsts.{first_told}

module _ {R : Type 0} (f : ℕ → Option R) (i n : ℕ) where
  pub told-end : n ≤ i → first_told f i (n - i) ≡ None
  unfolding first_told
  told-end le = let z : n - i ≡ 0 = omega arith in rw z

  pub told-hit : (r : R) → i < n → f i ≡ Some r → first_told f i (n - i) ≡ Some r
  unfolding first_told
  told-hit r lt t = let z : n - i ≡ suc (n - (i + 1)) = omega arith in rw (z, t)

  pub told-miss : i < n → f i ≡ None → first_told f i (n - i) ≡ first_told f (i + 1) (n - (i + 1))
  unfolding first_told
  told-miss lt t = let z : n - i ≡ suc (n - (i + 1)) = omega arith in rw (z, t)

told-from : {A R : Type 0} (f : ℕ → A → Option R) (g : ℕ → Option R) (xs : List A) (i : ℕ) → ((k : ℕ) → g (i + k) ≡ answer_at f (i + k) (slice_get xs k)) → first_told g i (length xs) ≡ first_at f i xs
unfolding first_told first_at
told-from f g [] i same = refl
told-from f g (x ∷ xs) i same =
    let z : i + 0 ≡ i = omega arith in
    ap (λ o. option_or o (first_told g (i + 1) (length xs))) (rw z at (same 0)) ∙ ap (option_or (f i x)) (told-from f g xs (i + 1) (λ k. let q : i + 1 + k ≡ i + suc k = omega arith in rw q (same (suc k))))

-- a question about each element is the question about its place
pub told-at : {A R : Type 0} (f : ℕ → A → Option R) (xs : List A) (n : ℕ) → n ≡ length xs → first_told (λ i. answer_at f i (slice_get xs i)) 0 n ≡ first_at f 0 xs
told-at f xs n e = rw e (told-from f (λ i. answer_at f i (slice_get xs i)) xs 0 (λ k. let q : 0 + k ≡ k = omega arith in rw q))

told-none : {R : Type 0} (f : ℕ → Option R) (n i : ℕ) → ((k : ℕ) → i ≤ k → k < i + n → f k ≡ None) → first_told f i n ≡ None
unfolding first_told
told-none f zero i none = refl
told-none f (suc n) i none = let z : f i ≡ None = none i (omega arith) (omega arith) in rw z (told-none f n (i + 1) (λ k lo hi. none k (omega arith) (omega arith)))

told-first : {R : Type 0} (f : ℕ → Option R) (n i j : ℕ) (r : R) → i ≤ j → j < i + n → ((k : ℕ) → i ≤ k → k < j → f k ≡ None) → f j ≡ Some r → first_told f i n ≡ Some r
unfolding first_told
told-first f zero i j r lo hi none hit = absurd (omega arith)
told-first f (suc n) i j r lo hi none hit = go (cases_eq i j) (λ lt. told-first f n (i + 1) j r (omega arith) (omega arith) (λ k a b. none k (omega arith) b) hit)
  where
    go : (i ≡ j) ⊎ (i ≡ j → ⊥) → (i < j → first_told f (i + 1) n ≡ Some r) → option_or (f i) (first_told f (i + 1) n) ≡ Some r
    go (inl e) rest = rw (e, hit)
    go (inr d) rest = let lt : i < j = omega arith in let z : f i ≡ None = none i (omega arith) lt in rw z (rest lt)

-- what `find_map` tells of a range
module _ {F B R : Type 0} (g : Mut F (ℕ × Unit {0}) (Option B)) (fn : F) (say : B → R) (f : ℕ → Option R)
    (told : (x : ℕ) (b : Option B) (q : F) → Called g fn (x, tt) b q → (q ≡ fn) × (option_map say b ≡ f x)) where
  keeps : CallKeepsClosure g fn
  keeps a r q c = (told a.0 r q c).0

  -- the item at a place of a run from 0 is the place
  given : (p : Run nat_range_steps) (n k : ℕ) → p.from ≡ record { start = 0; end = n } → k < p.len → p.at k ≡ Some k
  given p n k from lt =
      let z : p.from.start + k ≡ k = rw from (omega arith) in
      sym (option_map_id (p.at k)) ∙ (range_runs p p.seen).3 k lt ∙ ap Some z

  called : (o : Option ℕ) (k : ℕ) (b : Option B) → o ≡ Some k → IfSome o (λ x. Called g fn (x, tt) b fn) → option_map say b ≡ f k
  called None k b e c = cc
  called (Some x) k b e c = let z : x ≡ k = cc in rw z at ((told x b fn c).1)

  called-some : (o : Option ℕ) (k : ℕ) (b : Option B) → o ≡ Some k → IsSomeAnd o (λ x. Called g fn (x, tt) b fn) → option_map say b ≡ f k
  called-some None k b e c = absurd c
  called-some (Some x) k b e c = called (Some x) k b e c

  pub told-mapped : (n : ℕ) (s : Range ℕ) (r : Option B) → s ≡ record { start = 0; end = n }
      → SomeRun nat_range_steps s (λ p. MatchOption r ((p.whole ≡ true) × AllItemsGive p g fn None) (λ y. (i : ℕ) × (i < p.len) × (p.len ≡ i + 1) × IsFirstToGive p g fn (Some y) None i))
      → option_map say r ≡ first_told f 0 n
  told-mapped n s None e (p, from, all) =
      let long = rw (from ∙ e) at ((range_runs p p.seen).1 all.0) in
      sym (told-none f n 0 (λ k lo hi. let lt : k < p.len = omega arith in sym (called (p.at k) k None (given p n k (from ∙ e) lt) (all.1 keeps k))))
  told-mapped n s (Some y) e (p, from, m) =
      let i = m.0 in
      let lt : i < p.len = m.1 in
      let first = m.3 keeps in
      let bound = rw (from ∙ e) at (range_runs p p.seen).0 in
      sym (told-first f n 0 i (say y) (omega arith) (omega arith) (λ k lo hi. let l : k < p.len = omega arith in sym (called-some (p.at k) k None (given p n k (from ∙ e) l) (first.1 k hi))) (sym (called-some (p.at i) i (Some y) (given p n i (from ∙ e) lt) first.0)))
