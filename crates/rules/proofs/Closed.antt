-- The lists of a closed table, place by place.
use Rattle.std.proofs.Common.{◌≡◌, ℕ, zero, suc, ◌+◌, ◌<◌, ◌≤◌, Bool, true, false, cond, ◌&&◌, ◌||◌, eqb, ◌⊎◌, List, [], ◌∷◌, ◌++◌, map, length, get_or, sym, refl, ap, ◌∙◌, subst, inl, inr, ⊎_elim, zero-add, arith}
use Rattle.std.proofs.lemmas.List.{length-map, length-append, get_or-map, get_or_append_left, get_or-append-add}
use Rattle.std.proofs.lemmas.Bool.{cases_Bool, cond-true, cond-false, and_parts, both_ways, eqb-true}
use Rattle.std.specs.List.{range_with_len, flat_map, list_any}
use Rattle.marks.specs.Instances.{process_at}
use Rattle.marks.specs.Rules.{Marking, class_at}
use Rattle.rules.proofs.Lists.{In, in_left, in_right, in_parts, in_map, map-in, in-joined, joined_in, in-counting, counting-in, in-none, any_append, any-map, length-numbered, get_or-numbered}
use Rattle.rules.specs.Closing.{chaotic, with_chaos, closed_process, closed_signal, closed_edge, rearm, timeout, timer_loops, chaos_loops, added_at, added_to, added, closed}
use Rattle.rules.specs.States.{is_inbound, is_internal, is_outbound, goal, waiting, handles}
use Rattle.rules.specs.Steps.{no_edge, edge_at}
use Rattle.table.specs.Edges.{blank, absent}
use Rattle.table.specs.Examination.{leaves, acts, some}
use Rattle.table.specs.Lists.{Lists, Proc}
use Rattle.table.specs.Records.{class_of}
use Rattle.table.specs.declared.record.Class.{Class}
use Rattle.table.specs.declared.record.Class.TheVariants.{Internal, Inbound, Outbound, Absent}
use Rattle.table.specs.declared.record.Edge.{Edge}
use Rattle.table.specs.declared.record.Signal.{Signal}

-- an added edge, and why it is there
pub data Loop (T : Lists) (M : Marking) (p l : ℕ) (e : Edge) : Type 0 where
  of_chaos : chaotic T p ≡ true → e ≡ rearm p l (process_at T p).timers → Loop T M p l e
  of_timeout : (n : ℕ) → n < (process_at T p).timers → M.timer p l n ≡ true → some T (handles n) p l ≡ false → e ≡ timeout p l n → Loop T M p l e
  of_rearm : (n : ℕ) → n < (process_at T p).timers → M.timer p l n ≡ true → e ≡ rearm p l n → Loop T M p l e

pub record Added (T : Lists) (M : Marking) (e : Edge) : Type 0 where
  pub process : ℕ
  pub location : ℕ
  pub there : process < length T.processes
  pub within : location < (process_at T process).locations
  pub waits : waiting T process location ≡ true
  pub loop : Loop T M process location e

module _ (T : Lists) (M : Marking) where
  -- processes

  pub closed-length : length (closed T M).processes ≡ length T.processes
  unfolding closed
  closed-length = length-numbered (closed_process T) 0 T.processes

  pub process-closed : (p : ℕ) → p < length T.processes → process_at (closed T M) p ≡ closed_process T p (process_at T p)
  unfolding closed
  process-closed p h =
      get_or-numbered (closed_process T) 0 T.processes p blank blank h ∙ ap (λ k. closed_process T k (process_at T p)) (zero-add p)

  of-closed : {A : Type 0} (g : Proc → A) → ((r : Proc) → g (with_chaos r) ≡ g r) → (b : Bool) (r : Proc) → g (cond b (with_chaos r) r) ≡ g r
  of-closed g e true r = e r
  of-closed g e false r = refl

  pub closed-locations : (p : ℕ) → p < length T.processes → (process_at (closed T M) p).locations ≡ (process_at T p).locations
  closed-locations p h = ap (λ r. r.locations) (process-closed p h) ∙ of-closed (λ r. r.locations) (λ r. refl) (chaotic T p) (process_at T p)

  pub closed-variables : (p : ℕ) → p < length T.processes → (process_at (closed T M) p).variables ≡ (process_at T p).variables
  closed-variables p h = ap (λ r. r.variables) (process-closed p h) ∙ of-closed (λ r. r.variables) (λ r. refl) (chaotic T p) (process_at T p)

  pub closed-timers-chaos : (p : ℕ) → p < length T.processes → chaotic T p ≡ true → (process_at (closed T M) p).timers ≡ (process_at T p).timers + 1
  closed-timers-chaos p h c = ap (λ r. r.timers) (process-closed p h ∙ cond-true (chaotic T p) (with_chaos (process_at T p)) (process_at T p) c)

  pub closed-timers-calm : (p : ℕ) → p < length T.processes → chaotic T p ≡ false → (process_at (closed T M) p).timers ≡ (process_at T p).timers
  closed-timers-calm p h c = ap (λ r. r.timers) (process-closed p h ∙ cond-false (chaotic T p) (with_chaos (process_at T p)) (process_at T p) c)

  pub closed-timers-least : (p : ℕ) → p < length T.processes → (process_at T p).timers ≤ (process_at (closed T M) p).timers
  closed-timers-least p h =
      ⊎_elim (λ c. omega (arith, closed-timers-chaos p h c)) (λ c. omega (arith, closed-timers-calm p h c)) (cases_Bool (chaotic T p))

  -- signals

  pub signal-closed : (s : ℕ) → get_or (closed T M).signals s absent ≡ closed_signal (get_or T.signals s absent)
  unfolding closed
  signal-closed s = mapped_at T.signals s
    where
      mapped_at : (xs : List Signal) (k : ℕ) → get_or (map closed_signal xs) k absent ≡ closed_signal (get_or xs k absent)
      mapped_at [] k = refl
      mapped_at (x ∷ xs) zero = refl
      mapped_at (x ∷ xs) (suc k) = mapped_at xs k

  inside-same : (s : Signal) → is_internal (class_of (closed_signal s).class) ≡ is_internal (class_of s.class)
  inside-same s = by (class_of s.class) refl
    where
      by : (c : Class) → class_of s.class ≡ c → is_internal (class_of (cond (is_inbound c) absent (cond (is_outbound c) absent s)).class) ≡ is_internal c
      by Internal e = ap is_internal e
      by Inbound e = refl
      by Outbound e = refl
      by Absent e = ap is_internal e
      by Class.Unknown e = ap is_internal e

  pub inside-closed : (s : ℕ) → is_internal (class_at (closed T M) s) ≡ is_internal (class_at T s)
  inside-closed s = ap (λ x. is_internal (class_of x.class)) (signal-closed s) ∙ inside-same (get_or T.signals s absent)

  pub signal-kept : (s : ℕ) → is_internal (class_at T s) ≡ true → get_or (closed T M).signals s absent ≡ get_or T.signals s absent
  signal-kept s h = signal-closed s ∙ by (class_of (get_or T.signals s absent).class) h
    where
      by : (c : Class) → is_internal c ≡ true → cond (is_inbound c) absent (cond (is_outbound c) absent (get_or T.signals s absent)) ≡ get_or T.signals s absent
      by Internal e = refl
      by Inbound e = absurd (both_ways false refl e)
      by Outbound e = absurd (both_ways false refl e)
      by Absent e = refl
      by Class.Unknown e = refl

  pub goal-closed : (s : ℕ) → is_internal (class_at T s) ≡ true → goal (closed T M) s ≡ goal T s
  goal-closed s h = ap (λ x. x.destination) (signal-kept s h)

  -- edges

  pub closed-edges-length : length (closed T M).edges ≡ length T.edges + length (added T M)
  unfolding closed
  closed-edges-length =
      length-append (map (closed_edge T M) T.edges) (added T M) ∙ ap (λ n. n + length (added T M)) (length-map T.edges (closed_edge T M))

  pub edge-closed : (k : ℕ) → k < length T.edges → edge_at (closed T M) k ≡ closed_edge T M (edge_at T k)
  unfolding closed
  edge-closed k h =
      get_or_append_left (map (closed_edge T M) T.edges) (added T M) no_edge k (subst (λ n. k < n) (sym (length-map T.edges (closed_edge T M))) h)
      ∙ get_or-map (closed_edge T M) T.edges k no_edge no_edge h

  pub edge-added : (k : ℕ) → edge_at (closed T M) (length T.edges + k) ≡ get_or (added T M) k no_edge
  unfolding closed
  edge-added k =
      ap (λ n. get_or (map (closed_edge T M) T.edges ++ added T M) (n + k) no_edge) (sym (length-map T.edges (closed_edge T M)))
      ∙ get_or-append-add (map (closed_edge T M) T.edges) (added T M) k no_edge

  pub in-closed : (e : Edge) → In e (closed T M).edges → ((o : Edge) × (In o T.edges × (e ≡ closed_edge T M o))) ⊎ In e (added T M)
  unfolding closed
  in-closed e h = ⊎_elim (λ l. inl (in_map (closed_edge T M) e T.edges l)) inr (in_parts e (map (closed_edge T M) T.edges) (added T M) h)

  pub closed_in : (e : Edge) → In e T.edges → In (closed_edge T M e) (closed T M).edges
  unfolding closed
  closed_in e h = in_left (closed_edge T M e) (map (closed_edge T M) T.edges) (added T M) (map-in (closed_edge T M) e T.edges h)

  pub added-in : (e : Edge) → In e (added T M) → In e (closed T M).edges
  unfolding closed
  added-in e h = in_right e (map (closed_edge T M) T.edges) (added T M) h

  -- some edge of the closed table at a location
  pub some-closed : (f g : Edge → Bool) (p l : ℕ) → ((e : Edge) → In e T.edges → leaves p l f (closed_edge T M e) ≡ leaves p l g e) → ((e : Edge) → In e (added T M) → leaves p l f e ≡ false) → some (closed T M) f p l ≡ some T g p l
  unfolding closed
  some-closed f g p l same none =
      any_append (leaves p l f) (map (closed_edge T M) T.edges) (added T M)
      ∙ ap (λ b. b || list_any (leaves p l f) (added T M)) (any-map (leaves p l f) (closed_edge T M) (leaves p l g) T.edges same)
      ∙ ap (λ b. some T g p l || b) (in-none (leaves p l f) (added T M) none)
      ∙ or_nothing (some T g p l)
    where
      or_nothing : (b : Bool) → (b || false) ≡ b
      or_nothing true = refl
      or_nothing false = refl

  -- added edges

  timer-loop : (p l n : ℕ) (e : Edge) → n < (process_at T p).timers → In e (timer_loops T M p l n) → Loop T M p l e
  unfolding timer_loops
  timer-loop p l n e h = by (M.timer p l n) refl (some T (handles n) p l) refl
    where
      by : (m : Bool) → M.timer p l n ≡ m → (g : Bool) → some T (handles n) p l ≡ g → In e (cond m (cond g (rearm p l n ∷ []) (timeout p l n ∷ rearm p l n ∷ [])) []) → Loop T M p l e
      by true m true g (inl i) = of_rearm n h m i
      by true m true g (inr i) = absurd i
      by true m false g (inl i) = of_timeout n h m g i
      by true m false g (inr (inl i)) = of_rearm n h m i
      by true m false g (inr (inr i)) = absurd i
      by false m g q i = absurd i

  chaos-loop : (p l : ℕ) (e : Edge) → In e (chaos_loops T p l) → Loop T M p l e
  chaos-loop p l e = by (chaotic T p) refl
    where
      by : (b : Bool) → chaotic T p ≡ b → In e (cond b (rearm p l (process_at T p).timers ∷ []) []) → Loop T M p l e
      by true c (inl i) = of_chaos c i
      by true c (inr i) = absurd i
      by false c i = absurd i

  loops : (p l : ℕ) (e : Edge) → In e (chaos_loops T p l ++ flat_map (timer_loops T M p l) (range_with_len 0 (process_at T p).timers)) → Loop T M p l e
  loops p l e i =
      ⊎_elim (chaos-loop p l e)
      (λ j.
      let r = in-joined (timer_loops T M p l) e (range_with_len 0 (process_at T p).timers) j in
      timer-loop p l r.0 e (omega (arith, in-counting r.0 0 (process_at T p).timers r.1.0)) r.1.1)
      (in_parts e (chaos_loops T p l) (flat_map (timer_loops T M p l) (range_with_len 0 (process_at T p).timers)) i)

  added-at : (p l : ℕ) (e : Edge) → In e (added_at T M p l) → (waiting T p l ≡ true) × Loop T M p l e
  unfolding added_at
  added-at p l e = by (waiting T p l) refl
    where
      by : (b : Bool) → waiting T p l ≡ b → In e (cond b (chaos_loops T p l ++ flat_map (timer_loops T M p l) (range_with_len 0 (process_at T p).timers)) []) → (waiting T p l ≡ true) × Loop T M p l e
      by true w i = (w, loops p l e i)
      by false w i = absurd i

  pub in-added : (e : Edge) → In e (added T M) → Added T M e
  unfolding added
  in-added e i =
      let a = in-joined (added_to T M) e (range_with_len 0 (length T.processes)) i in
      let b = in-joined (added_at T M a.0) e (range_with_len 0 (process_at T a.0).locations) a.1.1 in
      let c = added-at a.0 b.0 e b.1.1 in
      record {
        process = a.0;
        location = b.0;
        there = omega (arith, in-counting a.0 0 (length T.processes) a.1.0);
        within = omega (arith, in-counting b.0 0 (process_at T a.0).locations b.1.0);
        waits = c.0;
        loop = c.1;
      }

  -- the place of an added edge, and its kind
  loop-place : (p l : ℕ) (e : Edge) → Loop T M p l e → (e.process ≡ p) × ((e.from ≡ l) × (acts e ≡ false))
  loop-place p l e (of_chaos c i) = (ap (λ x. x.process) i, (ap (λ x. x.from) i, ap acts i))
  loop-place p l e (of_timeout n h m s i) = (ap (λ x. x.process) i, (ap (λ x. x.from) i, ap acts i))
  loop-place p l e (of_rearm n h m i) = (ap (λ x. x.process) i, (ap (λ x. x.from) i, ap acts i))

  pub added-waits : (e : Edge) → In e (added T M) → acts e ≡ false
  added-waits e i = let a = in-added e i in (loop-place a.process a.location e a.loop).1.1

  pub added-place : (e : Edge) → In e (added T M) → waiting T e.process e.from ≡ true
  added-place e i =
      let a = in-added e i in
      let b = loop-place a.process a.location e a.loop in
      subst (λ m. waiting T m e.from ≡ true) (sym b.0) (subst (λ m. waiting T a.process m ≡ true) (sym b.1.0) a.waits)

  -- none is added at an acting location
  pub none-added : (f : Edge → Bool) (p l : ℕ) → waiting T p l ≡ false → (e : Edge) → In e (added T M) → leaves p l f e ≡ false
  none-added f p l w e i = by (eqb e.process p && eqb e.from l) refl
    where
      by : (b : Bool) → (eqb e.process p && eqb e.from l) ≡ b → (b && f e) ≡ false
      by true q =
          let a = and_parts (eqb e.process p) (eqb e.from l) q in
          let x = eqb-true e.process p a.0 in
          let y = eqb-true e.from l a.1 in
          absurd (both_ways (waiting T p l) w (subst (λ m. waiting T p m ≡ true) y (subst (λ m. waiting T m e.from ≡ true) x (added-place e i))))
      by false q = refl

  -- an edge that is wanted at a waiting location is there
  module _ (p l : ℕ) (there : p < length T.processes) (within : l < (process_at T p).locations) (waits : waiting T p l ≡ true) where
    put_in : (e : Edge) → In e (chaos_loops T p l ++ flat_map (timer_loops T M p l) (range_with_len 0 (process_at T p).timers)) → In e (added T M)
    unfolding added added_at
    put_in e i =
        joined_in (added_to T M) e p (range_with_len 0 (length T.processes)) (counting-in p 0 (length T.processes) (omega arith) (omega arith))
        (joined_in (added_at T M p) e l (range_with_len 0 (process_at T p).locations) (counting-in l 0 (process_at T p).locations (omega arith) (omega arith))
        (subst (λ xs. In e xs) (sym (cond-true (waiting T p l) (chaos_loops T p l ++ flat_map (timer_loops T M p l) (range_with_len 0 (process_at T p).timers)) [] waits)) i))

    pub chaos-added : chaotic T p ≡ true → In (rearm p l (process_at T p).timers) (added T M)
    chaos-added c =
        put_in (rearm p l (process_at T p).timers)
        (in_left (rearm p l (process_at T p).timers) (chaos_loops T p l) (flat_map (timer_loops T M p l) (range_with_len 0 (process_at T p).timers))
        (subst (λ xs. In (rearm p l (process_at T p).timers) xs) (sym (cond-true (chaotic T p) (rearm p l (process_at T p).timers ∷ []) [] c)) (inl refl)))

    of-timer : (n : ℕ) (e : Edge) → n < (process_at T p).timers → In e (timer_loops T M p l n) → In e (added T M)
    of-timer n e h i =
        put_in e
        (in_right e (chaos_loops T p l) (flat_map (timer_loops T M p l) (range_with_len 0 (process_at T p).timers))
        (joined_in (timer_loops T M p l) e n (range_with_len 0 (process_at T p).timers) (counting-in n 0 (process_at T p).timers (omega arith) (omega arith)) i))

    pub rearm-added : (n : ℕ) → n < (process_at T p).timers → M.timer p l n ≡ true → In (rearm p l n) (added T M)
    unfolding timer_loops
    rearm-added n h m = of-timer n (rearm p l n) h (by (M.timer p l n) m (some T (handles n) p l))
      where
        by : (b : Bool) → b ≡ true → (g : Bool) → In (rearm p l n) (cond b (cond g (rearm p l n ∷ []) (timeout p l n ∷ rearm p l n ∷ [])) [])
        by true e true = inl refl
        by true e false = inr (inl refl)
        by false e g = absurd (both_ways false refl e)

    pub timeout-added : (n : ℕ) → n < (process_at T p).timers → M.timer p l n ≡ true → some T (handles n) p l ≡ false → In (timeout p l n) (added T M)
    unfolding timer_loops
    timeout-added n h m s = of-timer n (timeout p l n) h (by (M.timer p l n) m (some T (handles n) p l) s)
      where
        by : (b : Bool) → b ≡ true → (g : Bool) → g ≡ false → In (timeout p l n) (cond b (cond g (rearm p l n ∷ []) (timeout p l n ∷ rearm p l n ∷ [])) [])
        by true e true q = absurd (both_ways true q refl)
        by true e false q = inl refl
        by false e g q = absurd (both_ways false refl e)
