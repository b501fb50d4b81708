-- What the next edge of a location is, where a list is gone through from one such edge to the next.
use Rattle.std.proofs.Common.{◌≡◌, ℕ, zero, suc, ◌+◌, ◌<◌, ◌≤◌, Bool, true, false, cond, ◌||◌, List, [], ◌∷◌, length, drop, None, Some, refl, sym, ap, ◌∙◌, arith, add-zero, ◌-◌}
use Rattle.std.specs.List.{list_any, slice_get}
use Rattle.std.proofs.lemmas.List.{drop-drop, drop_all}
use Rattle.table.proofs.Passing.{none-some}
use Rattle.table.proofs.Windows.{drop-some}
use Rattle.table.specs.declared.record.Edge.{Edge}
use Rattle.loading.specs.Following.{leaving, ahead, next_of, next_at}

slice_get-drop : {A : Type 0} (xs : List A) (i j : ℕ) → slice_get (drop i xs) j ≡ slice_get xs (i + j)
slice_get-drop xs zero j = let z : 0 + j ≡ j = omega arith in rw z
slice_get-drop [] (suc i) zero = refl
slice_get-drop [] (suc i) (suc j) = refl
slice_get-drop (x ∷ xs) (suc i) j = let z : suc i + j ≡ suc (i + j) = omega arith in rw z (slice_get-drop xs i j)

-- a place that holds nothing is past the end
pub past-none : {A : Type 0} (xs : List A) (i : ℕ) → slice_get xs i ≡ None → length xs ≤ i
past-none [] i e = omega arith
past-none (x ∷ xs) zero e = none-some x (sym e)
past-none (x ∷ xs) (suc i) e = let ih = past-none xs i e in omega arith

module _ {A : Type 0} (f : A → Bool) where
  ahead-hit : (x : A) (xs : List A) → f x ≡ true → ahead f (x ∷ xs) ≡ 0
  unfolding ahead
  ahead-hit x xs h = rw h

  ahead-miss : (x : A) (xs : List A) → f x ≡ false → ahead f (x ∷ xs) ≡ suc (ahead f xs)
  unfolding ahead
  ahead-miss x xs h = rw h

  ahead-within : (xs : List A) → ahead f xs ≤ length xs
  unfolding ahead
  ahead-within [] = omega arith
  ahead-within (x ∷ xs) = let ih = ahead-within xs in grind (arith, ih)

  -- what is told of a list by parts where those that fail f tell nothing
  ahead-skips : {B : Type 0} (g : List A → B) → ((x : A) (xs : List A) → f x ≡ false → g (x ∷ xs) ≡ g xs) → (xs : List A) → g xs ≡ g (drop (ahead f xs) xs)
  unfolding ahead
  ahead-skips g off [] = refl
  ahead-skips {B} g off (x ∷ xs) = go (f x) refl (ahead-skips g off xs)
    where
      go : (b : Bool) → f x ≡ b → g xs ≡ g (drop (ahead f xs) xs) → g (x ∷ xs) ≡ g (drop (cond (f x) 0 (suc (ahead f xs))) (x ∷ xs))
      go true h rest = rw h refl
      go false h rest = rw h (off x xs h ∙ rest)

  -- the first that passes, passes
  ahead-passes : (xs : List A) (x : A) → slice_get xs (ahead f xs) ≡ Some x → f x ≡ true
  unfolding ahead
  ahead-passes [] x e = cc
  ahead-passes (y ∷ ys) x e = go (f y) refl e (ahead-passes ys x)
    where
      go : (b : Bool) → f y ≡ b → slice_get (y ∷ ys) (cond (f y) 0 (suc (ahead f ys))) ≡ Some x → (slice_get ys (ahead f ys) ≡ Some x → f x ≡ true) → f x ≡ true
      go true h e rest = let z : slice_get (y ∷ ys) 0 ≡ Some x = rw h at e in let q : y ≡ x = cc in rw (← q) h
      go false h e rest = rest (rw h at e)

  -- none before it passes
  ahead-fails : (xs : List A) (j : ℕ) (x : A) → j < ahead f xs → slice_get xs j ≡ Some x → f x ≡ false
  unfolding ahead
  ahead-fails [] j x lt e = cc
  ahead-fails (y ∷ ys) zero x lt e = go (f y) refl lt
    where
      go : (b : Bool) → f y ≡ b → 0 < cond (f y) 0 (suc (ahead f ys)) → f x ≡ false
      go true h lt = let z : 0 < 0 = rw h at lt in absurd (omega arith)
      go false h lt = let q : y ≡ x = cc in rw (← q) h
  ahead-fails (y ∷ ys) (suc j) x lt e = go (f y) refl lt (λ lt. ahead-fails ys j x lt e)
    where
      go : (b : Bool) → f y ≡ b → suc j < cond (f y) 0 (suc (ahead f ys)) → (j < ahead f ys → f x ≡ false) → f x ≡ false
      go true h lt rest = let z : suc j < 0 = rw h at lt in absurd (omega arith)
      go false h lt rest = let z : suc j < suc (ahead f ys) = rw h at lt in rest (omega arith)

  -- after some of those before it, so many fewer stand before it
  ahead-drop : (n : ℕ) (xs : List A) → n ≤ ahead f xs → n + ahead f (drop n xs) ≡ ahead f xs
  ahead-drop zero xs le = omega arith
  ahead-drop (suc n) [] le = let z = ahead-within [] in absurd (omega arith)
  ahead-drop (suc n) (x ∷ xs) le = go (f x) refl (ahead-drop n xs)
    where
      go : (b : Bool) → f x ≡ b → (n ≤ ahead f xs → n + ahead f (drop n xs) ≡ ahead f xs) → suc n + ahead f (drop n xs) ≡ ahead f (x ∷ xs)
      go true h rest = let z = ahead-hit x xs h in absurd (omega arith)
      go false h rest = let z = ahead-miss x xs h in let ih = rest (omega arith) in omega arith

module _ {A : Type 0} (f : A → Bool) (xs : List A) (i : ℕ) where
  pub of-above : i ≤ next_of f xs i
  unfolding next_of
  of-above = omega arith

  pub of-past : length xs ≤ i → next_of f xs i ≡ i
  unfolding next_of ahead
  of-past le = rw (drop_all i xs le) (add-zero i)

  pub of-here : (x : A) → slice_get xs i ≡ Some x → f x ≡ true → next_of f xs i ≡ i
  unfolding next_of
  of-here x there h = rw (drop-some xs i x there) (rw (ahead-hit f x (drop (i + 1) xs) h) (add-zero i))

  pub of-later : (x : A) → slice_get xs i ≡ Some x → f x ≡ false → next_of f xs i ≡ next_of f xs (i + 1)
  unfolding next_of
  of-later x there h = rw (drop-some xs i x there) (rw (ahead-miss f x (drop (i + 1) xs) h) (omega arith))

  pub of-passes : (x : A) → slice_get xs (next_of f xs i) ≡ Some x → f x ≡ true
  unfolding next_of
  of-passes x there = ahead-passes f (drop i xs) x (slice_get-drop xs i (ahead f (drop i xs)) ∙ there)

  pub of-fails : (j : ℕ) (x : A) → i ≤ j → j < next_of f xs i → slice_get xs j ≡ Some x → f x ≡ false
  unfolding next_of
  of-fails j x le lt there =
      let q : i + (j - i) ≡ j = omega arith in
      ahead-fails f (drop i xs) (j - i) x (omega arith) (slice_get-drop xs i (j - i) ∙ (rw q there))

module _ (es : List Edge) (p l i : ℕ) where
  pub next-above : i ≤ next_at es p l i
  unfolding next_at
  next-above = of-above (leaving p l) es i

  pub next-end : length es ≤ i → next_at es p l i ≡ i
  unfolding next_at
  next-end le = of-past (leaving p l) es i le

  pub next-here : (e : Edge) → slice_get es i ≡ Some e → leaving p l e ≡ true → next_at es p l i ≡ i
  unfolding next_at
  next-here e there h = of-here (leaving p l) es i e there h

  pub next-later : (e : Edge) → slice_get es i ≡ Some e → leaving p l e ≡ false → next_at es p l i ≡ next_at es p l (i + 1)
  unfolding next_at
  next-later e there h = of-later (leaving p l) es i e there h

  -- the edges up to the next one tell nothing, where an edge that leaves another location tells nothing
  next-skips : {B : Type 0} (g : List Edge → B) → ((e : Edge) (rest : List Edge) → leaving p l e ≡ false → g (e ∷ rest) ≡ g rest) → g (drop i es) ≡ g (drop (next_at es p l i) es)
  unfolding next_at next_of
  next-skips g off = ahead-skips (leaving p l) g off (drop i es) ∙ ap g (drop-drop (ahead (leaving p l) (drop i es)) i es)

  pub next-any : (f : Edge → Bool) → ((e : Edge) → leaving p l e ≡ false → f e ≡ false) → list_any f (drop i es) ≡ list_any f (drop (next_at es p l i) es)
  next-any f off = next-skips (list_any f) (λ e rest h. ap (λ b. b || list_any f rest) (off e h))

  pub next-leaves : (e : Edge) → slice_get es (next_at es p l i) ≡ Some e → leaving p l e ≡ true
  unfolding next_at
  next-leaves e there = of-passes (leaving p l) es i e there

  pub none-before-next : (j : ℕ) (e : Edge) → i ≤ j → j < next_at es p l i → slice_get es j ≡ Some e → leaving p l e ≡ false
  unfolding next_at
  none-before-next j e le lt there = of-fails (leaving p l) es i j e le lt there

  -- from anywhere before the next one on, it is the next one
  pub next-same : (j : ℕ) → i ≤ j → j ≤ next_at es p l i → next_at es p l j ≡ next_at es p l i
  unfolding next_at next_of
  next-same j lo hi =
      let q : j ≡ i + (j - i) = omega arith in
      let n : j - i ≤ ahead (leaving p l) (drop i es) = omega arith in
      let d : drop (j - i) (drop i es) ≡ drop j es = drop-drop (j - i) i es ∙ ap (λ k. drop k es) (sym q) in
      let a = rw d at (ahead-drop (leaving p l) (j - i) (drop i es) n) in omega arith

module _ (es : List Edge) (p l i j : ℕ) (lo : i ≤ j) (hi : j ≤ next_at es p l i) where
  -- nor do the edges up to anywhere before the next one tell anything
  pub next-any-to : (f : Edge → Bool) → ((e : Edge) → leaving p l e ≡ false → f e ≡ false) → list_any f (drop i es) ≡ list_any f (drop j es)
  next-any-to f off =
      next-any es p l i f off ∙ ap (λ k. list_any f (drop k es)) (sym (next-same es p l i j lo hi)) ∙ sym (next-any es p l j f off)
