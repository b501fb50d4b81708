-- Worlds of an open table and of its closed one that tell the same.
use Rattle.std.proofs.Common.{◌≡◌, ℕ, suc, ◌<◌, ◌≤◌, Bool, true, false, cond, ◌⊎◌, List, [], ◌∷◌, ◌++◌, map, length, get_or, pos, Some, None, sym, refl, ap, ◌∙◌, subst, inl, inr, ⊎_elim, zero-add, arith}
use Rattle.std.proofs.lemmas.List.FromFn.{length-map-range_with_len, get_or-map-range_with_len}
use Rattle.std.proofs.lemmas.List.{ext_get_or, get_or-set_same, get_or-set_other, length-set, append-nil}
use Rattle.std.proofs.lemmas.List.Sums.{length-filter, count_by-le-length}
use Rattle.std.proofs.lemmas.Bool.{cases_eq, both_ways, cond-true, cond-false}
use Rattle.std.specs.List.{range_with_len, filter}
use Rattle.marks.specs.Instances.{process_at}
use Rattle.marks.specs.Rules.{Marking, signal_marked, class_at}
use Rattle.rules.proofs.Lists.{length-numbered, get_or-numbered}
use Rattle.rules.specs.Closing.{chaotic}
use Rattle.rules.specs.Matching.{inside, shown, shared, unless, seen, visible}
use Rattle.rules.specs.States.{Running, World, idle, at, lacking, is_internal, numbered}
use Rattle.rules.specs.Steps.{put}
use Rattle.rules.specs.declared.step.Message.{Message}
use Rattle.table.specs.Lists.{Lists}
use Rattle.table.specs.declared.record.Timer.{Timer}
use Rattle.table.specs.declared.record.Timer.TheVariants.{Off, On}

-- a timer that stands in for one that is not known: on, with at most u ticks to go
abbrev pub Standin : ℕ → Timer → Type 0
Standin u t = (k : ℕ) × ((k ≤ u) × (t ≡ On k))

-- the closed timer b for the open timer a, marked or not
abbrev pub TimerTwin : ℕ → Bool → Timer → Timer → Type 0
TimerTwin u m a b = (b ≡ a) ⊎ ((m ≡ true) × Standin u b)

pub record MessageTwin (T : Lists) (M : Marking) (a b : Message) : Type 0 where
  pub inner : inside T a ≡ true
  pub signal : b.signal ≡ a.signal
  pub value : signal_marked T M a.signal ≡ false → b.value ≡ a.value

abbrev pub Messages : Lists → Marking → List Message → List Message → Type 0
Messages T M [] [] = Unit {0}
Messages T M [] (y ∷ ys) = ⊥
Messages T M (x ∷ xs) [] = ⊥
Messages T M (x ∷ xs) (y ∷ ys) = MessageTwin T M x y × Messages T M xs ys

pub record Eight (r : Running) : Type 0 where
  pub variables : length r.variables ≡ 8
  pub timers : length r.timers ≡ 8

-- process p, open as r and closed as s
pub record Twin (T : Lists) (M : Marking) (u p : ℕ) (r s : Running) : Type 0 where
  pub location : s.location ≡ r.location
  pub within : r.location < (process_at T p).locations
  pub queue : Messages T M (filter (inside T) r.queue) s.queue
  pub variables : (v : ℕ) → v < (process_at T p).variables → M.variable p r.location v ≡ false → get_or s.variables v (pos 0) ≡ get_or r.variables v (pos 0)
  pub timers : (n : ℕ) → n < (process_at T p).timers → TimerTwin u (M.timer p r.location n) (get_or r.timers n Off) (get_or s.timers n Off)
  pub chaos : chaotic T p ≡ true → Standin u (get_or s.timers (process_at T p).timers Off)
  pub opened : Eight r
  pub closed : Eight s

pub record Alike (T : Lists) (M : Marking) (u : ℕ) (W V : World) : Type 0 where
  pub opened : length W.processes ≡ length T.processes
  pub closed : length V.processes ≡ length T.processes
  pub room : V.room ≡ W.room
  pub enough : (p : ℕ) → p < length T.processes → lacking W.room p ≡ false
  pub twin : (p : ℕ) → p < length T.processes → Twin T M u p (at W p) (at V p)

-- a world with one process replaced

pub at-put : (W : World) (p : ℕ) (r : Running) → p < length W.processes → at (put W p r) p ≡ r
at-put W p r h = get_or-set_same W.processes p r idle h

pub at_other : (W : World) (p q : ℕ) (r : Running) → (q ≡ p → ⊥) → at (put W p r) q ≡ at W q
at_other W p q r h = get_or-set_other W.processes p q r idle h

module _ (T : Lists) (M : Marking) (u : ℕ) where
  -- both sides replace process p
  pub alike-put : (W V : World) (p : ℕ) (r s : Running) → Alike T M u W V → Twin T M u p r s → Alike T M u (put W p r) (put V p s)
  alike-put W V p r s a t = record {
    opened = length-set W.processes p r ∙ a.opened;
    closed = length-set V.processes p s ∙ a.closed;
    room = a.room;
    enough = a.enough;
    twin = λ q h. ⊎_elim (here q h) (other q h) (cases_eq q p);
  }
    where
      here : (q : ℕ) → q < length T.processes → q ≡ p → Twin T M u q (at (put W p r) q) (at (put V p s) q)
      here q h e =
          let b : p < length W.processes = subst (λ n. n < length W.processes) e (subst (λ n. q < n) (sym a.opened) h) in
          let c : p < length V.processes = subst (λ n. n < length V.processes) e (subst (λ n. q < n) (sym a.closed) h) in
          subst (λ i. Twin T M u i (at (put W p r) i) (at (put V p s) i)) (sym e)
          (subst (λ x. Twin T M u p x (at (put V p s) p)) (sym (at-put W p r b)) (subst (λ x. Twin T M u p r x) (sym (at-put V p s c)) t))

      other : (q : ℕ) → q < length T.processes → (q ≡ p → ⊥) → Twin T M u q (at (put W p r) q) (at (put V p s) q)
      other q h n =
          subst (λ x. Twin T M u q x (at (put V p s) q)) (sym (at_other W p q r n)) (subst (λ x. Twin T M u q (at W q) x) (sym (at_other V p q s n)) (a.twin q h))

  -- the open side alone does
  pub alike-open : (W V : World) (p : ℕ) (r : Running) → p < length T.processes → Alike T M u W V → Twin T M u p r (at V p) → Alike T M u (put W p r) V
  alike-open W V p r l a t = record {
    opened = length-set W.processes p r ∙ a.opened;
    closed = a.closed;
    room = a.room;
    enough = a.enough;
    twin = λ q h. ⊎_elim (here q h) (other q h) (cases_eq q p);
  }
    where
      here : (q : ℕ) → q < length T.processes → q ≡ p → Twin T M u q (at (put W p r) q) (at V q)
      here q h e =
          let b : p < length W.processes = subst (λ n. p < n) (sym a.opened) l in
          subst (λ i. Twin T M u i (at (put W p r) i) (at V i)) (sym e) (subst (λ x. Twin T M u p x (at V p)) (sym (at-put W p r b)) t)

      other : (q : ℕ) → q < length T.processes → (q ≡ p → ⊥) → Twin T M u q (at (put W p r) q) (at V q)
      other q h n = subst (λ x. Twin T M u q x (at V q)) (sym (at_other W p q r n)) (a.twin q h)

  -- the closed side alone does
  pub alike-closed : (W V : World) (p : ℕ) (s : Running) → p < length T.processes → Alike T M u W V → Twin T M u p (at W p) s → Alike T M u W (put V p s)
  alike-closed W V p s l a t = record {
    opened = a.opened;
    closed = length-set V.processes p s ∙ a.closed;
    room = a.room;
    enough = a.enough;
    twin = λ q h. ⊎_elim (here q h) (other q h) (cases_eq q p);
  }
    where
      here : (q : ℕ) → q < length T.processes → q ≡ p → Twin T M u q (at W q) (at (put V p s) q)
      here q h e =
          let b : p < length V.processes = subst (λ n. p < n) (sym a.closed) l in
          subst (λ i. Twin T M u i (at W i) (at (put V p s) i)) (sym e) (subst (λ x. Twin T M u p (at W p) x) (sym (at-put V p s b)) t)

      other : (q : ℕ) → q < length T.processes → (q ≡ p → ⊥) → Twin T M u q (at W q) (at (put V p s) q)
      other q h n = subst (λ x. Twin T M u q (at W q) x) (sym (at_other V p q s n)) (a.twin q h)

-- queues

module _ (T : Lists) (M : Marking) where
  pub kept_in : (m : Message) (ms : List Message) → inside T m ≡ true → filter (inside T) (m ∷ ms) ≡ m ∷ filter (inside T) ms
  kept_in m ms h = cond-true (inside T m) (m ∷ filter (inside T) ms) (filter (inside T) ms) h

  pub kept_out : (m : Message) (ms : List Message) → inside T m ≡ false → filter (inside T) (m ∷ ms) ≡ filter (inside T) ms
  kept_out m ms h = cond-false (inside T m) (m ∷ filter (inside T) ms) (filter (inside T) ms) h

  kept-split : (b : Bool) (x : Message) (ms ns os : List Message) → ms ≡ ns ++ os → cond b (x ∷ ms) ms ≡ cond b (x ∷ ns) ns ++ os
  kept-split true x ms ns os e = ap (λ l. x ∷ l) e
  kept-split false x ms ns os e = e

  kept_push : (q : List Message) (m : Message) → filter (inside T) (q ++ m ∷ []) ≡ filter (inside T) q ++ filter (inside T) (m ∷ [])
  kept_push [] m = refl
  kept_push (x ∷ q) m =
      kept-split (inside T x) x (filter (inside T) (q ++ m ∷ [])) (filter (inside T) q) (filter (inside T) (m ∷ [])) (kept_push q m)

  messages-push : (xs ys : List Message) (x y : Message) → Messages T M xs ys → MessageTwin T M x y → Messages T M (xs ++ x ∷ []) (ys ++ y ∷ [])
  messages-push [] [] x y h t = (t, tt)
  messages-push [] (b ∷ ys) x y h t = absurd h
  messages-push (a ∷ xs) [] x y h t = absurd h
  messages-push (a ∷ xs) (b ∷ ys) x y h t = (h.0, messages-push xs ys x y h.1 t)

  pub push-inner : (q s : List Message) (x y : Message) → Messages T M (filter (inside T) q) s → MessageTwin T M x y → Messages T M (filter (inside T) (q ++ x ∷ [])) (s ++ y ∷ [])
  push-inner q s x y h t =
      subst (λ l. Messages T M l (s ++ y ∷ [])) (sym (kept_push q x ∙ ap (λ l. filter (inside T) q ++ l) (kept_in x [] t.inner)))
      (messages-push (filter (inside T) q) s x y h t)

  pub push-outer : (q s : List Message) (x : Message) → Messages T M (filter (inside T) q) s → inside T x ≡ false → Messages T M (filter (inside T) (q ++ x ∷ [])) s
  push-outer q s x h o =
      subst (λ l. Messages T M l s) (sym (kept_push q x ∙ ap (λ l. filter (inside T) q ++ l) (kept_out x [] o) ∙ append-nil (filter (inside T) q))) h

  messages-length : (xs ys : List Message) → Messages T M xs ys → length ys ≡ length xs
  messages-length [] [] h = refl
  messages-length [] (y ∷ ys) h = absurd h
  messages-length (x ∷ xs) [] h = absurd h
  messages-length (x ∷ xs) (y ∷ ys) h = ap suc (messages-length xs ys h.1)

  kept-length : (q : List Message) → length (filter (inside T) q) ≤ length q
  kept-length q = omega (arith, length-filter (inside T) q, count_by-le-length (inside T) q)

  -- the closed queue is no longer
  pub queue-length : (q s : List Message) → Messages T M (filter (inside T) q) s → length s ≤ length q
  queue-length q s h = omega (arith, messages-length (filter (inside T) q) s h, kept-length q)

  shown-same : (x y : Message) → MessageTwin T M x y → (inside T y ≡ true) × (shown T M y ≡ shown T M x)
  shown-same x y t = (
    ap (λ n. is_internal (class_at T n)) t.signal ∙ t.inner,
    ap (λ n. (n, cond (signal_marked T M n) None (Some y.value))) t.signal ∙ ap (λ o. (x.signal, o)) (by (signal_marked T M x.signal) refl),
  )
    where
      by : (b : Bool) → signal_marked T M x.signal ≡ b → cond b None (Some y.value) ≡ cond b None (Some x.value)
      by true q = refl
      by false q = ap Some (t.value q)

  messages-shown : (xs ys : List Message) → Messages T M xs ys → map (shown T M) (filter (inside T) ys) ≡ map (shown T M) xs
  messages-shown [] [] h = refl
  messages-shown [] (y ∷ ys) h = absurd h
  messages-shown (x ∷ xs) [] h = absurd h
  messages-shown (x ∷ xs) (y ∷ ys) h =
      let t = shown-same x y h.0 in
      let more = messages-shown xs ys h.1 in
      ap (map (shown T M)) (kept_in y ys t.0) ∙ ap (λ z. z ∷ map (shown T M) (filter (inside T) ys)) t.1 ∙ ap (λ zs. shown T M x ∷ zs) more

  shared_same : (q s : List Message) → Messages T M (filter (inside T) q) s → shared T M s ≡ shared T M q
  unfolding shared
  shared_same q s h = messages-shown (filter (inside T) q) s h

  -- what is told

  unless-same : {A : Type 0} (f g : ℕ → Bool) (xs ys : List A) (d : A) (n : ℕ) → ((k : ℕ) → f k ≡ g k) → ((k : ℕ) → k < n → g k ≡ false → get_or xs k d ≡ get_or ys k d) → unless f xs d n ≡ unless g ys d n
  unfolding unless
  unless-same f g xs ys d n same h =
      ext_get_or None (map (λ k. cond (f k) None (Some (get_or xs k d))) (range_with_len 0 n)) (map (λ k. cond (g k) None (Some (get_or ys k d))) (range_with_len 0 n))
      (length-map-range_with_len (λ k. cond (f k) None (Some (get_or xs k d))) 0 n ∙ sym (length-map-range_with_len (λ k. cond (g k) None (Some (get_or ys k d))) 0 n))
      (λ k l.
      let b : k < n = subst (λ m. k < m) (length-map-range_with_len (λ k. cond (f k) None (Some (get_or xs k d))) 0 n) l in
      get_or-map-range_with_len (λ k. cond (f k) None (Some (get_or xs k d))) 0 n k k None b (omega arith)
      ∙ ap (λ c. cond c None (Some (get_or xs k d))) (same k)
      ∙ by k b (g k) refl
      ∙ sym (get_or-map-range_with_len (λ k. cond (g k) None (Some (get_or ys k d))) 0 n k k None b (omega arith)))
    where
      by : (k : ℕ) → k < n → (b : Bool) → g k ≡ b → cond b None (Some (get_or xs k d)) ≡ cond b None (Some (get_or ys k d))
      by k l true q = refl
      by k l false q = ap Some (h k l q)

  timer-told : (m : Bool) (a b : Timer) → TimerTwin 0 m a b → m ≡ false → b ≡ a
  timer-told m a b (inl e) h = e
  timer-told m a b (inr x) h = absurd (both_ways m h x.0)

  seen_same : (p : ℕ) (r s : Running) → Twin T M 0 p r s → seen T M p s ≡ seen T M p r
  unfolding seen
  seen_same p r s t =
      let a = t.location in
      let b = shared_same r.queue s.queue t.queue in
      let c = unless-same (M.variable p s.location) (M.variable p r.location) s.variables r.variables (pos 0) (process_at T p).variables (λ k. ap (λ l. M.variable p l k) t.location) t.variables in
      let d = unless-same (M.timer p s.location) (M.timer p r.location) s.timers r.timers Off (process_at T p).timers (λ k. ap (λ l. M.timer p l k) t.location) (λ n h m. timer-told (M.timer p r.location n) (get_or r.timers n Off) (get_or s.timers n Off) (t.timers n h) m) in
      λ i. record { location = a i; messages = b i; variables = c i; timers = d i }

  pub visible-same : (W V : World) → Alike T M 0 W V → visible T M V ≡ visible T M W
  unfolding visible
  visible-same W V a =
      let d = seen T M 0 idle in
      ext_get_or (seen T M 0 idle) (numbered (seen T M) 0 V.processes) (numbered (seen T M) 0 W.processes)
      (length-numbered (seen T M) 0 V.processes ∙ a.closed ∙ sym a.opened ∙ sym (length-numbered (seen T M) 0 W.processes))
      (λ p l.
      let h : p < length V.processes = subst (λ n. p < n) (length-numbered (seen T M) 0 V.processes) l in
      let k : p < length W.processes = omega (arith, a.closed, a.opened) in
      get_or-numbered (seen T M) 0 V.processes p (seen T M 0 idle) idle h
      ∙ ap (λ i. seen T M i (at V p)) (zero-add p)
      ∙ seen_same p (at W p) (at V p) (a.twin p (omega (arith, a.closed)))
      ∙ ap (λ i. seen T M i (at W p)) (sym (zero-add p))
      ∙ sym (get_or-numbered (seen T M) 0 W.processes p (seen T M 0 idle) idle k))
