-- Offers, discards and expiries, and the moves along added edges.
use Rattle.std.proofs.Common.{◌≡◌, ℕ, ◌<◌, ◌≤◌, Bool, true, false, not, ◌&&◌, eqb, leb, List, [], ◌∷◌, length, get_or, drop, set, ℤ, is_some, None, sym, refl, ap, ◌∙◌, subst, inl, inr, ⊎_elim, arith}
use Rattle.std.proofs.lemmas.List.{get_or-set_same, get_or-set_other, length-set}
use Rattle.std.proofs.lemmas.Bool.{cases_eq, both_ways, and_parts, and_from, and_left, and_right, eqb-true, eq-eqb, ne_eqb, not-true, cond-false, lt-leb}
use Rattle.std.specs.List.{filter}
use Rattle.marks.specs.Instances.{process_at}
use Rattle.marks.specs.Rules.{Marking, marked, class_at}
use Rattle.refusal.specs.Refusals.{first}
use Rattle.rules.proofs.Calls.{goal-there, deliver-outer}
use Rattle.rules.proofs.Closed.{Loop, of_chaos, of_timeout, of_rearm, closed-length, closed-timers-least, closed-edges-length, edge-added, added-in, some-closed, in-added, timeout-added}
use Rattle.rules.proofs.Examined.{closed-sound, leaves-closed, waiting-closed}
use Rattle.rules.proofs.Fates.{edge-sound, kind-under, takes-then, handles-then}
use Rattle.rules.proofs.Guards.{few-timers}
use Rattle.rules.proofs.Lists.{In, any-in, none_first, position-finds}
use Rattle.rules.proofs.Moves.{inbound-not-inside, twin-due}
use Rattle.rules.proofs.Twins.{Standin, TimerTwin, MessageTwin, Messages, Twin, Alike, alike-put, alike-open, kept_in, kept_out}
use Rattle.rules.specs.Closing.{fate, first_under, closed_edge, closed, added, loop, timeout, rearm, test_refused}
use Rattle.rules.specs.Matching.{inside, same_edge, same_span, position, number_of, head_inside}
use Rattle.rules.specs.States.{Running, World, at, is_inbound, is_internal, is_outbound, is_input, watches, goal, due, waiting, takes_signal, handles}
use Rattle.rules.specs.Steps.{no_edge, edge_at, allowed, kind_ready, ready, enabled, sends, full, moved, put, message, deliver, edge_value, moved_along, move_effect, effect, dropped, untaken, discards, expires, state_at, move_tests, call_refused}
use Rattle.rules.specs.declared.step.Message.{Message}
use Rattle.rules.specs.declared.step.Step.TheVariants.{Offer, Move, Discard, Expire}
use Rattle.table.specs.Edges.{edge_fault}
use Rattle.table.specs.Examination.{leaves, some}
use Rattle.table.specs.Lists.{Lists}
use Rattle.table.specs.Records.{kind_of}
use Rattle.table.specs.declared.record.Edge.{Edge}
use Rattle.table.specs.declared.record.Span.{Span}
use Rattle.table.specs.declared.record.Timer.{Timer}
use Rattle.table.specs.declared.record.Timer.TheVariants.{Off, On}

-- a process with one timer turned
abbrev pub retimed : ℕ → Timer → Running → Running
retimed n y r = record { location = r.location; variables = r.variables; timers = set r.timers n y; queue = r.queue }

same_span_lem : (a b : Span) → same_span a b ≡ true → a ≡ b
same_span_lem a b h =
    let x = and_parts (eqb a.start b.start) (eqb a.count b.count) h in
    let p = eqb-true a.start b.start x.0 in
    let q = eqb-true a.count b.count x.1 in
    λ i. record { start = p i; count = q i }

same-edge : (a b : Edge) → same_edge a b ≡ true → a ≡ b
same-edge a b h =
    let x1 = and_parts (eqb a.process b.process) (eqb a.from b.from && (eqb a.to b.to && (eqb a.kind b.kind && (eqb a.first b.first && (eqb a.second b.second && (eqb a.mode b.mode && (same_span a.guard b.guard && same_span a.value b.value))))))) h in
    let x2 = and_parts (eqb a.from b.from) (eqb a.to b.to && (eqb a.kind b.kind && (eqb a.first b.first && (eqb a.second b.second && (eqb a.mode b.mode && (same_span a.guard b.guard && same_span a.value b.value)))))) x1.1 in
    let x3 = and_parts (eqb a.to b.to) (eqb a.kind b.kind && (eqb a.first b.first && (eqb a.second b.second && (eqb a.mode b.mode && (same_span a.guard b.guard && same_span a.value b.value))))) x2.1 in
    let x4 = and_parts (eqb a.kind b.kind) (eqb a.first b.first && (eqb a.second b.second && (eqb a.mode b.mode && (same_span a.guard b.guard && same_span a.value b.value)))) x3.1 in
    let x5 = and_parts (eqb a.first b.first) (eqb a.second b.second && (eqb a.mode b.mode && (same_span a.guard b.guard && same_span a.value b.value))) x4.1 in
    let x6 = and_parts (eqb a.second b.second) (eqb a.mode b.mode && (same_span a.guard b.guard && same_span a.value b.value)) x5.1 in
    let x7 = and_parts (eqb a.mode b.mode) (same_span a.guard b.guard && same_span a.value b.value) x6.1 in
    let x8 = and_parts (same_span a.guard b.guard) (same_span a.value b.value) x7.1 in
    let e1 = eqb-true a.process b.process x1.0 in
    let e2 = eqb-true a.from b.from x2.0 in
    let e3 = eqb-true a.to b.to x3.0 in
    let e4 = eqb-true a.kind b.kind x4.0 in
    let e5 = eqb-true a.first b.first x5.0 in
    let e6 = eqb-true a.second b.second x6.0 in
    let e7 = eqb-true a.mode b.mode x7.0 in
    let e8 = same_span_lem a.guard b.guard x8.0 in
    let e9 = same_span_lem a.value b.value x8.1 in
    λ i. record { process = e1 i; from = e2 i; to = e3 i; kind = e4 i; first = e5 i; second = e6 i; mode = e7 i; guard = e8 i; value = e9 i }

edge_same : (a : Edge) → same_edge a a ≡ true
edge_same a =
    simp (eq-eqb a.process a.process refl, eq-eqb a.from a.from refl, eq-eqb a.to a.to refl, eq-eqb a.kind a.kind refl, eq-eqb a.first a.first refl, eq-eqb a.second a.second refl, eq-eqb a.mode a.mode refl, eq-eqb a.guard.start a.guard.start refl, eq-eqb a.guard.count a.guard.count refl, eq-eqb a.value.start a.value.start refl, eq-eqb a.value.count a.value.count refl)

module _ (T : Lists) (M : Marking) (u : ℕ) where
  -- both sides turn timer n
  pub retimed-twin : (p n : ℕ) (r s : Running) (x y : Timer) → n < (process_at T p).timers → (process_at T p).timers ≤ 8 → Twin T M u p r s → TimerTwin u (M.timer p r.location n) x y → Twin T M u p (retimed n x r) (retimed n y s)
  retimed-twin p n r s x y l few t w = record {
    location = t.location;
    within = t.within;
    queue = t.queue;
    variables = t.variables;
    timers = λ k j.
        ⊎_elim
        (λ q.
        subst (λ z. TimerTwin u (M.timer p r.location z) (get_or (set r.timers n x) z Off) (get_or (set s.timers n y) z Off)) (sym q)
        (subst (λ z. TimerTwin u (M.timer p r.location n) z (get_or (set s.timers n y) n Off)) (sym (get_or-set_same r.timers n x Off (omega (arith, t.opened.timers))))
        (subst (λ z. TimerTwin u (M.timer p r.location n) x z) (sym (get_or-set_same s.timers n y Off (omega (arith, t.closed.timers)))) w)))
        (λ q.
        subst (λ z. TimerTwin u (M.timer p r.location k) z (get_or (set s.timers n y) k Off)) (sym (get_or-set_other r.timers n k x Off q))
        (subst (λ z. TimerTwin u (M.timer p r.location k) (get_or r.timers k Off) z) (sym (get_or-set_other s.timers n k y Off q)) (t.timers k j)))
        (cases_eq k n);
    chaos = λ c. subst (Standin u) (sym (get_or-set_other s.timers n (process_at T p).timers y Off (λ q. omega arith))) (t.chaos c);
    opened = record { variables = t.opened.variables; timers = length-set r.timers n x ∙ t.opened.timers };
    closed = record { variables = t.closed.variables; timers = length-set s.timers n y ∙ t.closed.timers };
  }

module _ (T : Lists) (M : Marking) (tested : test_refused T M ≡ None) where
  -- the number of an added edge
  number-finds : (x : Edge) → In x (added T M) → (edge_at (closed T M) (number_of T M x) ≡ x) × (number_of T M x < length (closed T M).edges)
  unfolding number_of
  number-finds x i =
      let a = position-finds (same_edge x) (added T M) no_edge (any-in (same_edge x) x (added T M) i (edge_same x)) in
      (edge-added T M (position (same_edge x) (added T M)) ∙ sym (same-edge x (get_or (added T M) (position (same_edge x) (added T M)) no_edge) a.0), omega (arith, a.1, closed-edges-length T M))

  loop-enabled : (V : World) (p : ℕ) (x : Edge) → In x (added T M) → x.process ≡ p → ready (closed T M) (at V p) x ≡ true → enabled (closed T M) V x ≡ true
  unfolding enabled
  loop-enabled V p x i its can =
      and_from (not (is_some (edge_fault (closed T M) x))) (ready (closed T M) (at V x.process) x)
      (ap (λ f. not (is_some f)) (edge-sound (closed T M) x (closed-sound T M tested x (added-in T M x i)))) (subst (λ q. ready (closed T M) (at V q) x ≡ true) (sym its) can)

  -- a move along an added edge that turns timer n to y
  module _ (V : World) (p n : ℕ) (x : Edge) (y : Timer) (placed : In x (added T M)) (its : x.process ≡ p) (can : ready (closed T M) (at V p) x ≡ true) (still : sends (closed T M) x ≡ false) (makes : (v : ℤ) → moved (kind_of x.kind) v x (at V p) ≡ retimed n y (at V p)) where
    loop-passes : call_refused (closed T M) V (Move (number_of T M x)) ≡ None
    unfolding call_refused
    loop-passes =
        let a = number-finds x placed in
        none_first (leb (length (closed T M).edges) (number_of T M x)) (state_at 19 (number_of T M x)) (move_tests (closed T M) V (edge_at (closed T M) (number_of T M x))) (lt-leb (length (closed T M).edges) (number_of T M x) a.1)
        (subst (λ e. first (move_tests (closed T M) V e) ≡ None) (sym a.0)
        (none_first (not (enabled (closed T M) V x)) (state_at 20 x.process) ((sends (closed T M) x && full V (goal (closed T M) x.first), state_at 21 (goal (closed T M) x.first)) ∷ []) (ap not (loop-enabled V p x placed its can))
        (none_first (sends (closed T M) x && full V (goal (closed T M) x.first)) (state_at 21 (goal (closed T M) x.first)) [] (and_left (sends (closed T M) x) (full V (goal (closed T M) x.first)) still) refl)))

    loop-effect : effect (closed T M) V (Move (number_of T M x)) ≡ put V p (retimed n y (at V p))
    unfolding effect move_effect moved_along
    loop-effect =
        ap (move_effect (closed T M) V) (number-finds x placed).0
        ∙ cond-false (sends (closed T M) x) (deliver (moved_along (closed T M) V x) (goal (closed T M) x.first) (message x.first (edge_value (closed T M) V x))) (moved_along (closed T M) V x) still
        ∙ ap (λ q. put V q (moved (kind_of x.kind) (edge_value (closed T M) V x) x (at V q))) its
        ∙ ap (put V p) (makes (edge_value (closed T M) V x))

  loop-ready : (p n k m : ℕ) (s : Running) → kind_ready (kind_of k) s (loop p s.location k n m) ≡ true → ready (closed T M) s (loop p s.location k n m) ≡ true
  unfolding allowed
  loop-ready p n k m s h =
      and_from (eqb s.location s.location) (true && kind_ready (kind_of k) s (loop p s.location k n m)) (eq-eqb s.location s.location refl) h

  pub timeout-taken : (V : World) (p n : ℕ) → In (timeout p (at V p).location n) (added T M) → due (get_or (at V p).timers n Off) ≡ true → (call_refused (closed T M) V (Move (number_of T M (timeout p (at V p).location n))) ≡ None) × (effect (closed T M) V (Move (number_of T M (timeout p (at V p).location n))) ≡ put V p (retimed n Off (at V p)))
  timeout-taken V p n i d =
      (loop-passes V p n (timeout p (at V p).location n) Off i refl (loop-ready p n 5 0 (at V p) d) refl (λ v. refl), loop-effect V p n (timeout p (at V p).location n) Off i refl (loop-ready p n 5 0 (at V p) d) refl (λ v. refl))

  pub rearm-taken : (V : World) (p n : ℕ) → In (rearm p (at V p).location n) (added T M) → due (get_or (at V p).timers n Off) ≡ true → (call_refused (closed T M) V (Move (number_of T M (rearm p (at V p).location n))) ≡ None) × (effect (closed T M) V (Move (number_of T M (rearm p (at V p).location n))) ≡ put V p (retimed n (On 1) (at V p)))
  rearm-taken V p n i d =
      (loop-passes V p n (rearm p (at V p).location n) (On 1) i refl (loop-ready p n 6 1 (at V p) d) refl (λ v. refl), loop-effect V p n (rearm p (at V p).location n) (On 1) i refl (loop-ready p n 6 1 (at V p) d) refl (λ v. refl))

  -- an offer
  pub offer-alike : (W V : World) (s : ℕ) (v : ℤ) → Alike T M 0 W V → is_inbound (class_at T s) ≡ true → Alike T M 0 (effect T W (Offer s v)) V
  unfolding effect
  offer-alike W V s v a h =
      deliver-outer T M 0 W V (goal T s) (message s v) (goal-there T M tested s (inr h)) a (inbound-not-inside (class_at T s) h)

  -- a discard

  takes-edge : (s : ℕ) → is_internal (class_at T s) ≡ true → (e : Edge) → takes_signal s (closed_edge T M e) ≡ takes_signal s e
  unfolding closed_edge
  takes-edge s h e =
      ap (λ k. is_input k && eqb (first_under (fate T M e) (process_at T e.process).timers e.first) s) (kind-under (fate T M e) e.kind)
      ∙ takes-then (kind_of e.kind) (is_inbound (class_at T e.first)) (is_outbound (class_at T e.first)) (marked T M e e.value) (process_at T e.process).timers e.first s
      (λ i.
      ne_eqb e.first s
      (λ q. both_ways (is_internal (class_at T s)) (inbound-not-inside (class_at T s) (subst (λ n. is_inbound (class_at T n) ≡ true) q i)) h))

  loop-takes : (s p l : ℕ) (e : Edge) → Loop T M p l e → takes_signal s e ≡ false
  loop-takes s p l e (of_chaos c i) = ap (takes_signal s) i
  loop-takes s p l e (of_timeout n h m g i) = ap (takes_signal s) i
  loop-takes s p l e (of_rearm n h m i) = ap (takes_signal s) i

  takes-closed : (s p l : ℕ) → is_internal (class_at T s) ≡ true → some (closed T M) (takes_signal s) p l ≡ some T (takes_signal s) p l
  takes-closed s p l h =
      some-closed T M (takes_signal s) (takes_signal s) p l (λ e i. leaves-closed T M tested (takes_signal s) (takes_signal s) p l e (λ _ _. takes-edge s h e))
      (λ e i.
      let a = in-added T M e i in
      and_right (eqb e.process p && eqb e.from l) (takes_signal s e) (loop-takes s a.process a.location e a.loop))

  drop-outer : (q s : List Message) (x : Message) → inside T x ≡ false → Messages T M (filter (inside T) (x ∷ q)) s → Messages T M (filter (inside T) q) s
  drop-outer q s x h m = subst (λ l. Messages T M l s) (kept_out T M x q h) m

  dropped-twin : (p : ℕ) (r s : Running) → Twin T M 0 p r s → (q : List Message) → Messages T M (filter (inside T) (drop 1 r.queue)) q → Twin T M 0 p (dropped r) (record { location = s.location; variables = s.variables; timers = s.timers; queue = q })
  dropped-twin p r s t q m = record {
    location = t.location;
    within = t.within;
    queue = m;
    variables = t.variables;
    timers = t.timers;
    chaos = t.chaos;
    opened = record { variables = t.opened.variables; timers = t.opened.timers };
    closed = record { variables = t.closed.variables; timers = t.closed.timers };
  }

  -- where the head is from outside, the closed side has nothing to drop
  pub discard-outer : (W V : World) (p : ℕ) → p < length T.processes → Alike T M 0 W V → discards T W p ≡ true → head_inside T (at W p).queue ≡ false → Alike T M 0 (effect T W (Discard p)) V
  unfolding effect discards
  discard-outer W V p l a d h =
      let t = a.twin p l in
      let x = and_parts (waiting T p (at W p).location) (untaken T p (at W p).location (at W p).queue) d in
      alike-open T M 0 W V p (dropped (at W p)) l a (dropped-twin p (at W p) (at V p) t (at V p).queue (by (at W p).queue x.1 h t.queue))
    where
      by : (q : List Message) → untaken T p (at W p).location q ≡ true → head_inside T q ≡ false → Messages T M (filter (inside T) q) (at V p).queue → Messages T M (filter (inside T) (drop 1 q)) (at V p).queue
      by [] k o m = absurd (both_ways false refl k)
      by (x ∷ q) k o m = drop-outer q (at V p).queue x o m

  pub discard-inner : (W V : World) (p : ℕ) → p < length T.processes → Alike T M 0 W V → discards T W p ≡ true → head_inside T (at W p).queue ≡ true → (call_refused (closed T M) V (Discard p) ≡ None) × Alike T M 0 (effect T W (Discard p)) (effect (closed T M) V (Discard p))
  unfolding effect discards call_refused
  discard-inner W V p l a d h =
      let t = a.twin p l in
      let x = and_parts (waiting T p (at W p).location) (untaken T p (at W p).location (at W p).queue) d in
      let y = by (at W p).queue (at V p).queue x.1 h t.queue in
      let w : waiting (closed T M) p (at V p).location ≡ true = waiting-closed T M tested p (at V p).location ∙ ap (waiting T p) t.location ∙ x.0 in
      let n : untaken (closed T M) p (at V p).location (at V p).queue ≡ true = ap (λ z. untaken (closed T M) p z (at V p).queue) t.location ∙ y.0 in (
        none_first (leb (length (closed T M).processes) p) (state_at 19 p) ((not (discards (closed T M) V p), state_at 20 p) ∷ []) (lt-leb (length (closed T M).processes) p (subst (λ k. p < k) (sym (closed-length T M)) l))
            (none_first (not (discards (closed T M) V p)) (state_at 20 p) [] (ap not (and_from (waiting (closed T M) p (at V p).location) (untaken (closed T M) p (at V p).location (at V p).queue) w n)) refl),
        alike-put T M 0 W V p (dropped (at W p)) (dropped (at V p)) a (dropped-twin p (at W p) (at V p) t (drop 1 (at V p).queue) y.1),
      )
    where
      untaken-closed : (x y : Message) (ys : List Message) → MessageTwin T M x y → not (some T (takes_signal x.signal) p (at W p).location) ≡ true → untaken (closed T M) p (at W p).location (y ∷ ys) ≡ true
      untaken-closed x y ys m k =
          ap (λ n. not (some (closed T M) (takes_signal n) p (at W p).location)) m.signal ∙ ap not (takes-closed x.signal p (at W p).location m.inner) ∙ k

      inner : (x : Message) (q s : List Message) → not (some T (takes_signal x.signal) p (at W p).location) ≡ true → Messages T M (x ∷ filter (inside T) q) s → (untaken (closed T M) p (at W p).location s ≡ true) × Messages T M (filter (inside T) q) (drop 1 s)
      inner x q [] k m = absurd m
      inner x q (y ∷ s) k m = (untaken-closed x y s m.0 k, m.1)

      by : (q s : List Message) → untaken T p (at W p).location q ≡ true → head_inside T q ≡ true → Messages T M (filter (inside T) q) s → (untaken (closed T M) p (at W p).location s ≡ true) × Messages T M (filter (inside T) (drop 1 q)) (drop 1 s)
      by [] s k o m = absurd (both_ways false refl k)
      by (x ∷ q) s k o m = inner x q s k (subst (λ z. Messages T M z s) (kept_in T M x q o) m)

  -- an expiry

  handles-edge : (n p : ℕ) → n < (process_at T p).timers → (e : Edge) → e.process ≡ p → handles n (closed_edge T M e) ≡ handles n e
  unfolding closed_edge
  handles-edge n p l e q =
      ap (λ k. watches k && eqb (first_under (fate T M e) (process_at T e.process).timers e.first) n) (kind-under (fate T M e) e.kind)
      ∙ handles-then (kind_of e.kind) (is_inbound (class_at T e.first)) (is_outbound (class_at T e.first)) (marked T M e e.value) (process_at T e.process).timers e.first n
      (ne_eqb (process_at T e.process).timers n (λ z. omega (arith, ap (λ i. (process_at T i).timers) q)))

  loop-handles : (n p l a b : ℕ) (e : Edge) → n < (process_at T p).timers → M.timer p l n ≡ false → Loop T M a b e → leaves p l (handles n) e ≡ false
  loop-handles n p l a b e h m k = by (eqb e.process p && eqb e.from l) refl
    where
      moved-mark : (e.process ≡ p) → (e.from ≡ l) → (j : ℕ) → e.process ≡ a → e.from ≡ b → M.timer a b j ≡ true → j ≡ n → M.timer p l n ≡ true
      moved-mark q w j x y o z =
          subst (λ i. M.timer i l n ≡ true) (sym x ∙ q) (subst (λ i. M.timer a i n ≡ true) (sym y ∙ w) (subst (λ i. M.timer a b i ≡ true) z o))

      apart : (e.process ≡ p) → (e.from ≡ l) → Loop T M a b e → handles n e ≡ false
      apart q w (of_chaos c i) =
          let x : p ≡ a = sym q ∙ ap (λ z. z.process) i in
          ap (handles n) i ∙ ne_eqb (process_at T a).timers n (λ z. omega (arith, ap (λ y. (process_at T y).timers) x))
      apart q w (of_timeout j g o d i) = ap (handles n) i ∙ ne_eqb j n (λ z. both_ways (M.timer p l n) m (moved-mark q w j (ap (λ y. y.process) i) (ap (λ y. y.from) i) o z))
      apart q w (of_rearm j g o i) = ap (handles n) i ∙ ne_eqb j n (λ z. both_ways (M.timer p l n) m (moved-mark q w j (ap (λ y. y.process) i) (ap (λ y. y.from) i) o z))

      by : (c : Bool) → (eqb e.process p && eqb e.from l) ≡ c → (c && handles n e) ≡ false
      by true q = let x = and_parts (eqb e.process p) (eqb e.from l) q in apart (eqb-true e.process p x.0) (eqb-true e.from l x.1) k
      by false q = refl

  handles-closed : (n p l : ℕ) → n < (process_at T p).timers → M.timer p l n ≡ false → some (closed T M) (handles n) p l ≡ some T (handles n) p l
  handles-closed n p l h m =
      some-closed T M (handles n) (handles n) p l (λ e i. leaves-closed T M tested (handles n) (handles n) p l e (λ q _. handles-edge n p h e q))
      (λ e i. let a = in-added T M e i in loop-handles n p l a.process a.location e h m a.loop)

  module _ (W V : World) (p n : ℕ) (a : Alike T M 0 W V) (l : p < length T.processes) (j : n < (process_at T p).timers) (x : expires T W p n ≡ true) where
    t : Twin T M 0 p (at W p) (at V p)
    t = a.twin p l

    x-parts : (waiting T p (at W p).location ≡ true) × ((due (get_or (at W p).timers n Off) ≡ true) × (some T (handles n) p (at W p).location ≡ false))
    unfolding expires
    x-parts =
        let y = and_parts (waiting T p (at W p).location) (due (get_or (at W p).timers n Off) && not (some T (handles n) p (at W p).location)) x in
        let z = and_parts (due (get_or (at W p).timers n Off)) (not (some T (handles n) p (at W p).location)) y.1 in
        (y.0, (z.0, not-true (some T (handles n) p (at W p).location) z.1))

    closed-due : due (get_or (at V p).timers n Off) ≡ true
    closed-due = twin-due (M.timer p (at W p).location n) (get_or (at W p).timers n Off) (get_or (at V p).timers n Off) (t.timers n j) x-parts.1.0

    turned : Alike T M 0 (put W p (retimed n Off (at W p))) (put V p (retimed n Off (at V p)))
    turned =
        alike-put T M 0 W V p (retimed n Off (at W p)) (retimed n Off (at V p)) a
        (retimed-twin T M 0 p n (at W p) (at V p) Off Off j (few-timers T M tested p l) t (inl refl))

    -- a marked timer goes by the added timeout
    pub expire-marked : M.timer p (at W p).location n ≡ true → (call_refused (closed T M) V (Move (number_of T M (timeout p (at V p).location n))) ≡ None) × Alike T M 0 (effect T W (Expire p n)) (effect (closed T M) V (Move (number_of T M (timeout p (at V p).location n))))
    unfolding effect
    expire-marked m =
        let i : In (timeout p (at V p).location n) (added T M) = subst (λ z. In (timeout p z n) (added T M)) (sym t.location) (timeout-added T M p (at W p).location l t.within x-parts.0 n j m x-parts.1.1) in
        let y = timeout-taken V p n i closed-due in
        (y.0, subst (λ z. Alike T M 0 (put W p (retimed n Off (at W p))) z) (sym y.1) turned)

    pub expire-plain : M.timer p (at W p).location n ≡ false → (call_refused (closed T M) V (Expire p n) ≡ None) × Alike T M 0 (effect T W (Expire p n)) (effect (closed T M) V (Expire p n))
    unfolding effect call_refused expires
    expire-plain m =
        let w : waiting (closed T M) p (at V p).location ≡ true = waiting-closed T M tested p (at V p).location ∙ ap (waiting T p) t.location ∙ x-parts.0 in
        let h : some (closed T M) (handles n) p (at V p).location ≡ false = ap (some (closed T M) (handles n) p) t.location ∙ handles-closed n p (at W p).location j m ∙ x-parts.1.1 in (
          none_first (leb (length (closed T M).processes) p) (state_at 19 p) ((leb (process_at (closed T M) p).timers n, state_at 19 n) ∷ (not (expires (closed T M) V p n), state_at 20 p) ∷ []) (lt-leb (length (closed T M).processes) p (subst (λ k. p < k) (sym (closed-length T M)) l))
              (none_first (leb (process_at (closed T M) p).timers n) (state_at 19 n) ((not (expires (closed T M) V p n), state_at 20 p) ∷ []) (lt-leb (process_at (closed T M) p).timers n (omega (arith, closed-timers-least T M p l)))
              (none_first (not (expires (closed T M) V p n)) (state_at 20 p) [] (ap not (and_from (waiting (closed T M) p (at V p).location) (due (get_or (at V p).timers n Off) && not (some (closed T M) (handles n) p (at V p).location)) w (and_from (due (get_or (at V p).timers n Off)) (not (some (closed T M) (handles n) p (at V p).location)) closed-due (ap not h)))) refl)),
          turned,
        )
